-- `gain_applier::change` meets its contract, by the laws of what is changed block after block. Assumes nothing.
use Rattle.std.proofs.Common.{◌-◌, length}
use lib.Ieee.{Float}
use Rattle.gain_applier.proofs.Changed.{Changed}
use Rattle.gain_applier.proofs.change.Given as goal

abbrev pub invariant-loop-part : goal.invariant-loop-part
invariant-loop-part g l = Changed (λ (x y : Float). goal.F-post g l.f x y) l.initial.part l.part l.at

abbrev pub decreases-loop-part : goal.decreases-loop-part
decreases-loop-part g l = length l.part - l.at
