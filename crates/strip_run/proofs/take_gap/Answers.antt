-- `strip_run::take_gap` meets its contract. Assumes nothing.
use Rattle.std.proofs.Common.{refl}
use Rattle.strip_run.proofs.Printed.{stopped_by, steps_moved, gapped_refused, gapped_done}
use Rattle.strip_run.proofs.take_gap.Goals as goal

pub returns-in_err-after : goal.returns-in_err-after
returns-in_err-after c =
    let a = c.args in
    let e = c.in_err-after.field-0.0 in
    stopped_by _ a.desk c.from_residual.result e a.out.now a.out.now c.from_residual.ensures.1
    (gapped_refused a.desk e c.in_err-after.ensures) refl

pub returns : goal.returns
returns c = steps_moved _ _ c.args.desk c.publish.result c.args.out.now _ (gapped_done c.args.desk c.in_ok-after.after c.in_ok-after.ensures) c.publish.ensures
