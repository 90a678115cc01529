-- `lanes::Lanes::raise_by_part` meets its contract. The invariant: the lanes are raised by the blocks that were passed. Assumes nothing.
use Rattle.std.proofs.Common.{◌-◌, sym, ap, ◌∙◌, arith, length, eqb-true}
use lib.Ieee.{Float}
use mathlib.Core.List.{List}
use Rattle.fixed_digital_level_estimator.specs.Lanes.{lanes_of}
use Rattle.fixed_digital_level_estimator.proofs.Blocks.{Passed, none_passed, one_passed, blocks_end, nothing_left, last_block}
use Rattle.fixed_digital_level_estimator.proofs.lanes.Lanes.raise_by_part.Goals as goal

pub loop-block-init : goal.loop-block-init
loop-block-init c =
    let blocks = c.chunks_exact-blocks.ensures in
    rw c.into_iter-block-iterator.ensures.into_iter_gives (blocks.size, rw blocks.rest (none_passed _ _))

pub loop-block-preserved : goal.loop-block-preserved
loop-block-preserved c =
    let known = c.loop-block.invariant in
    let steps = c.in-Some.ensures.steps in
    (steps.0 ∙ known.0, one_passed _ _ _ _ _ _ _ known.1 steps.1.0 (steps.1.1 ∙ known.0) c.raise_by_four-found.ensures)

pub returns-then-is_empty : goal.returns-then-is_empty
returns-then-is_empty c =
    let known = c.loop-block.invariant in
    let rest = c.remainder-rest.ensures ∙ c.chunks_exact-blocks.ensures.remainder in
    nothing_left _ _ _ _ (blocks_end _ _ _ _ known.1 (omega (arith, c.in-None.ensures.steps.1.0, known.0))) (sym (ap (λ (ys : List Float). length ys) rest) ∙ eqb-true _ _ (sym c.is_empty.ensures ∙ c.if-is_empty.true))

pub returns-else-is_empty : goal.returns-else-is_empty
returns-else-is_empty c =
    let known = c.loop-block.invariant in
    let rest = c.remainder-rest.ensures ∙ c.chunks_exact-blocks.ensures.remainder in
    let passed = blocks_end _ _ _ _ known.1 (omega (arith, c.in-None.ensures.steps.1.0, known.0)) in
    let left : Passed (lanes_of c.args.self) c.args.part.now c.remainder-rest.result.now (lanes_of c.loop-block.found) = rw rest passed in
    last_block _ _ _ _ _ (4 - length c.remainder-rest.result.now) left
    (rw c.filled.ensures at c.raise_by_four.ensures)
