-- `loudness::one_channel` meets its contract. The invariant: the sum and the peak so far, with those of the samples that are left, are those of all;
-- so many strides are left to go. Assumes nothing.
use mathlib.Core.Path.{◌≡◌}
use Prim.Native.Nat.{◌+◌, ◌*◌, ◌≤◌, max}
use lib.ListN.{length}
use Rattle.loudness.specs.Sound.{squares_from, peak_from}
use Rattle.loudness.proofs.one_channel.Given as goal

abbrev pub invariant-loop-left : goal.invariant-loop-left
invariant-loop-left l =
    (l.square + squares_from l.bytes l.stride l.at l.left ≡ squares_from l.bytes l.stride l.first l.samples)
    × (max l.peak (peak_from l.bytes l.stride l.at l.left) ≡ peak_from l.bytes l.stride l.first l.samples)
    × (l.at + l.stride * l.left ≡ l.first + length l.bytes)
    × (l.left ≤ l.samples)
