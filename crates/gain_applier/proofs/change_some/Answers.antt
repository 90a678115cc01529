-- `gain_applier::change_some` meets its contract. The invariant: what is passed is changed, and what is left is as it was. Assumes nothing.
use Rattle.std.proofs.Common.{arith}
use lib.Ieee.{nan}
use Rattle.gain_applier.proofs.Changed.{changed_begins, changed_one, changed_ends}
use Rattle.gain_applier.proofs.change_some.Goals as goal

pub loop-x-init : goal.loop-x-init
loop-x-init g c = changed_begins _ _

pub loop-x-preserved : goal.loop-x-preserved
loop-x-preserved g c = changed_one _ _ _ _ c.loop-x.invariant nan _ (omega arith) c.f.ensures

pub returns : goal.returns
returns g c = changed_ends _ _ _ _ c.loop-x.invariant (omega arith)
