-- `wav_format::samples::hear` meets its contract. The invariant: what is done, then the samples that are left. Assumes nothing.
use Rattle.std.proofs.Common.{◌≡◌, ◌≤◌, ◌++◌, length, take, drop}
use Rattle.wav_format.specs.Samples.{heard_from}
use Rattle.wav_format.proofs.samples.hear.Given as goal

abbrev pub invariant-loop-j : goal.invariant-loop-j
invariant-loop-j l =
    (length l.frame ≡ length l.initial.frame)
    × (l.j ≤ length l.frame)
    × (take l.j l.frame ++ heard_from l.bytes l.channels l.samples l.j (length (drop l.j l.frame)) ≡ heard_from l.bytes l.channels l.samples 0 (length l.initial.frame))
