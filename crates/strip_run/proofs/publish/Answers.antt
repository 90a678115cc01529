-- `strip_run::publish` meets its contract. Assumes nothing.
use Rattle.std.proofs.Common.{refl, ◌∙◌}
use Rattle.strip_lines.specs.Lines.{number_of}
use Rattle.strip_run.proofs.Printed.{moved, stopped_by, published_refused, published_taken, lined_done, lined_left}
use Rattle.strip_run.proofs.publish.Goals as goal

pub returns-in_err-shown : goal.returns-in_err-shown
returns-in_err-shown c =
    let a = c.args in
    let e = c.in_err-shown.field-0.0 in
    stopped_by _ a.desk c.from_residual.result e a.out.now a.out.now c.from_residual.ensures.1
    (published_refused a.desk a.chain (number_of a.kind) e c.in_err-shown.ensures) refl

pub returns-in_err-length : goal.returns-in_err-length
returns-in_err-length c =
    let a = c.args in
    let kind = number_of a.kind in
    let p = c.in_ok-shown.shown in
    let e = c.in_err-length.field-0.0 in
    let left = lined_left a.desk a.chain kind p e a.out.now _ c.requires c.in_err-length.ensures.value c.in_err-length.ensures.out_after in
    stopped_by _ a.desk c.from_residual-in_err-length.result e a.out.now _ c.from_residual-in_err-length.ensures.1
    (left.1 ∙ published_taken a.desk a.chain kind p c.in_ok-shown.ensures) left.0

pub returns : goal.returns
returns c =
    let a = c.args in
    let kind = number_of a.kind in
    let p = c.in_ok-shown.shown in
    moved _ _ a.out.now _ _ (published_taken a.desk a.chain kind p c.in_ok-shown.ensures)
    (lined_done a.desk a.chain kind p c.in_ok-length.length c.after-desk.result a.out.now _ c.in_ok-length.ensures.value c.in_ok-length.ensures.out_after c.after-desk.ensures)
