-- `gain_applier::change` meets its contract, by the laws of what is changed block after block. Assumes nothing.
use Rattle.std.proofs.Common.{arith}
use Rattle.gain_applier.proofs.Changed.{changed_begins, changed_block, changed_last}
use Rattle.gain_applier.proofs.change.Goals as goal

pub loop-part-init : goal.loop-part-init
loop-part-init g c = changed_begins _ _

pub loop-part-preserved : goal.loop-part-preserved
loop-part-preserved g c = changed_block _ _ _ _ c.loop-part.invariant 48 _ (omega arith) c.change_some.ensures

pub loop-part-smaller : goal.loop-part-smaller
loop-part-smaller g c = omega (arith, (loop-part-preserved g c).same)

pub shape_of-part : goal.shape_of-part
shape_of-part g c = (changed_last _ _ _ _ c.loop-part.invariant _ c.change_some-2.ensures).0

pub returns : goal.returns
returns g c = (changed_last _ _ _ _ c.loop-part.invariant _ c.change_some-2.ensures).1
