-- `gain_applier::fill_some` meets its contract. The invariant: what is filled, then the gains that are left, from the gain as it is now. Assumes nothing.
use Rattle.std.proofs.Common.{◌≡◌, ◌++◌, length, take, drop}
use Rattle.gain_applier.specs.Gains.{gains_from, gain_after}
use Rattle.gain_applier.proofs.fill_some.Given as goal

abbrev pub invariant-loop-x : goal.invariant-loop-x
invariant-loop-x l = (take l.x-index l.gains ++ gains_from (length (drop l.x-index l.gains)) l.gain l.step ≡ gains_from (length l.initial.gains) l.from l.step)
    × (gain_after (length (drop l.x-index l.gains)) l.gain l.step ≡ gain_after (length l.initial.gains) l.from l.step)
