-- `gain_applier::fill_gains` meets its contract. The invariant: what is filled, then the gains that are left, from the next one. Assumes nothing.
use Rattle.std.proofs.Common.{◌≡◌, ◌-◌, ◌≤◌, ◌++◌, length, take}
use Rattle.gain_applier.specs.Gains.{gains_from}
use Rattle.gain_applier.proofs.fill_gains.Given as goal

abbrev pub invariant-loop-gains : goal.invariant-loop-gains
invariant-loop-gains l = (length l.gains ≡ length l.initial.gains) × (l.at ≤ length l.gains) × (take l.at l.gains ++ gains_from (length l.gains - l.at) l.next l.step ≡ gains_from (length l.initial.gains) l.from l.step)

abbrev pub decreases-loop-gains : goal.decreases-loop-gains
decreases-loop-gains l = length l.gains - l.at
