-- `wav_format::numbers::put_fours` meets its contract. The invariant: the bytes of the first k numbers stand at the place, and `out` is
-- otherwise as it was. Assumes nothing.
use Rattle.std.proofs.Common.{◌≡◌, ◌+◌, ◌*◌, ◌≤◌, ◌++◌, length, take}
use Rattle.wav_format.specs.Steps.{in_fours}
use Rattle.wav_format.specs.Laws.Bytes.{Begun}
use Rattle.wav_format.proofs.numbers.put_fours.Given as goal

abbrev pub invariant-loop-k : goal.invariant-loop-k
invariant-loop-k l =
    Begun l.initial.out (take l.at l.initial.out ++ in_fours (take l.k l.numbers)) l.out (l.at + 4 * l.k) × (l.k ≤ length l.numbers) × (length l.out ≡ length l.initial.out)
