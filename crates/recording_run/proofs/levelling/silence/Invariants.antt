-- `recording_run::levelling::silence` meets its contract. The invariant: what is done, then silence in the place of what is left. Assumes nothing.
use Rattle.std.proofs.Common.{◌≡◌, ◌++◌, length, take, drop}
use Rattle.recording_run.specs.Levelling.{quiet, silenced}
use Rattle.recording_run.proofs.levelling.silence.Given as goal

abbrev pub invariant-loop-i : goal.invariant-loop-i
invariant-loop-i l = (length l.bytes ≡ length l.initial.bytes) × (take l.i l.bytes ++ quiet (drop l.i l.bytes) ≡ silenced l.from l.initial.bytes)
