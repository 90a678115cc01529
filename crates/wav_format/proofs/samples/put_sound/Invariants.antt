-- `wav_format::samples::put_sound` meets its contract. The invariant: the bytes of the first k samples stand at the start of `out`, which is
-- otherwise as it was. Assumes nothing.
use Rattle.std.proofs.Common.{◌≡◌, ◌*◌, ◌≤◌, length}
use Rattle.wav_format.specs.Samples.{bytes_from}
use Rattle.wav_format.specs.Laws.Bytes.{Begun}
use Rattle.wav_format.proofs.samples.put_sound.Given as goal

abbrev pub invariant-loop-k : goal.invariant-loop-k
invariant-loop-k l = Begun l.initial.out (bytes_from l.frame l.channels l.samples 0 l.k) l.out (2 * l.k) × (l.k ≤ length l.frame) × (length l.out ≡ length l.initial.out)
