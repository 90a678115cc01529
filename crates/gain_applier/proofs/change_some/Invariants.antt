-- `gain_applier::change_some` meets its contract. The invariant: what is passed is changed, and what is left is as it was. Assumes nothing.
use lib.Ieee.{Float}
use Rattle.gain_applier.proofs.Changed.{Changed}
use Rattle.gain_applier.proofs.change_some.Given as goal

abbrev pub invariant-loop-x : goal.invariant-loop-x
invariant-loop-x g l = Changed (λ (x y : Float). goal.F-post g l.f x y) l.initial.part l.part l.x-index
