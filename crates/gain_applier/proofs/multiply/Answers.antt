-- `gain_applier::multiply` meets its contract, by the laws of what is done in blocks. Assumes nothing.
use Rattle.std.proofs.Common.{arith, length-drop}
use Rattle.frames.specs.Walk.{block_last}
use Rattle.frames.specs.Blocks.{blocks_begin, blocks_go_on, blocks_end}
use Rattle.gain_applier.specs.Laws.Blocks.{multiplied_split}
use Rattle.gain_applier.proofs.multiply.Goals as goal

pub loop-part-init : goal.loop-part-init
loop-part-init c = blocks_begin

pub slice_bounds-multiply_some-end-in-loop-part : goal.slice_bounds-multiply_some-end-in-loop-part
slice_bounds-multiply_some-end-in-loop-part c = omega arith

pub loop-part-preserved : goal.loop-part-preserved
loop-part-preserved c =
    let loop = c.loop-part in
    let made = c.multiply_some in
    blocks_go_on multiplied_split loop.invariant 48 (omega arith) made.ensures made.auto.part

pub loop-part-smaller : goal.loop-part-smaller
loop-part-smaller c = omega (arith, (loop-part-preserved c).same)

pub multiply_some-requires-2 : goal.multiply_some-requires-2
multiply_some-requires-2 c =
    let part = c.loop-part.part in
    let gains = c.args.gains.now in
    let at = c.loop-part.at in
    rw (block_last part at, block_last gains at, length-drop, length-drop) (omega arith)

pub shape_of-part : goal.shape_of-part
shape_of-part c =
    let made = c.multiply_some-2 in
    (blocks_end multiplied_split c.loop-part.invariant made.ensures made.auto.part).0

pub returns : goal.returns
returns c =
    let made = c.multiply_some-2 in
    (blocks_end multiplied_split c.loop-part.invariant made.ensures made.auto.part).1
