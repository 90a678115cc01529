-- `strip_run::step_silently` meets its contract: the first of the silent samples are the frame. Assumes nothing.
use Rattle.std.proofs.Common.{List, take, sym, ap, ◌∙◌, arith, length-take-le}
use lib.Ieee.{Float}
use Rattle.chain.specs.Calls.{called}
use Rattle.strip_run.proofs.step_silently.Goals as goal

pub slice_bounds-step-end : goal.slice_bounds-step-end
slice_bounds-step-end c =
    let silent = c.silent-frame in
    let n = c.frame_length-n in
    sym (length-take-le n.result silent.result (omega (arith, n.ensures.upper_bound, silent.ensures.len)))

pub returns : goal.returns
returns c =
    let a = c.args in
    let step = c.step in
    let n = c.frame_length-n in
    let silent = c.silent-frame in
    step.ensures.result_value
    ∙ ap (λ (frame : List Float). (called a.chain a.figures frame 1 a.samples).told)
    (ap (λ (xs : List Float). take n.result xs) silent.ensures.value ∙ n.ensures.silence_value)
