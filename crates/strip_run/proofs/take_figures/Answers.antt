-- `strip_run::take_figures` meets its contract. Assumes nothing.
use Rattle.std.proofs.Common.{refl}
use Rattle.strip_run.proofs.Printed.{stopped_by, steps_moved, framed_unready, framed_refused, framed_done}
use Rattle.strip_run.proofs.take_figures.Goals as goal

pub returns-in_err-samples : goal.returns-in_err-samples
returns-in_err-samples c =
    let a = c.args in
    let e = c.in_err-samples.field-0.0 in
    stopped_by _ a.desk c.from_residual.result e a.out.now a.out.now c.from_residual.ensures.1
    (framed_unready a.desk a.figures e c.in_err-samples.ensures) refl

pub returns-in_err-next : goal.returns-in_err-next
returns-in_err-next c =
    let a = c.args in
    let e = c.in_err-next.field-0.0 in
    stopped_by _ a.desk c.from_residual-in_err-next.result e a.out.now a.out.now c.from_residual-in_err-next.ensures.1
    (framed_refused a.desk a.figures c.in_ok-samples.samples c.in_ok-samples.ensures e c.in_err-next.ensures) refl

pub returns : goal.returns
returns c =
    let a = c.args in
    steps_moved _ _ a.desk c.publish.result a.out.now _
    (framed_done a.desk a.figures c.in_ok-samples.samples c.in_ok-samples.ensures c.in_ok-next.next c.in_ok-next.ensures) c.publish.ensures
