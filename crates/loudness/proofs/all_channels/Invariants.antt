-- `loudness::all_channels` meets its contract. The invariant: the largest so far, or that of the channels that are left, is that of all. Assumes nothing.
use mathlib.Core.Path.{◌≡◌}
use Prim.Native.Nat.{◌-◌, ◌≤◌, max}
use Rattle.loudness.specs.Sound.{over_channels, square_of, peak_of}
use Rattle.loudness.proofs.all_channels.Given as goal

abbrev pub invariant-loop-c : goal.invariant-loop-c
invariant-loop-c l =
    (max l.square (over_channels (square_of l.bytes l.channels l.samples) l.c (l.channels - l.c)) ≡ over_channels (square_of l.bytes l.channels l.samples) 0 l.channels)
    × (max l.peak (over_channels (peak_of l.bytes l.channels l.samples) l.c (l.channels - l.c)) ≡ over_channels (peak_of l.bytes l.channels l.samples) 0 l.channels)
    × (l.c ≤ l.channels)
