-- `gain_applier::multiply_some` meets its contract. The invariant: what is done, then the definition on what is left, by the gains that are left. Assumes nothing.
use Rattle.std.proofs.Common.{◌≡◌, ◌++◌, take, drop}
use Rattle.gain_applier.specs.Gains.{multiplied}
use Rattle.gain_applier.proofs.multiply_some.Given as goal

abbrev pub invariant-loop-i : goal.invariant-loop-i
invariant-loop-i l = take l.i l.part ++ multiplied (drop l.i l.gains) (drop l.i l.part) ≡ multiplied l.gains l.initial.part
