-- `recording_run::strip::draw` meets its contract: no more bytes are used than are filled. Assumes nothing.
use Rattle.std.proofs.Common.{take, drop, arith, length-drop}
use Rattle.recording_run.specs.Laws.Strip.{used_within, drawn_is}
use Rattle.recording_run.proofs.strip.draw.Goals as goal

pub slice_bounds-next-end : goal.slice_bounds-next-end
slice_bounds-next-end c = c.filled_of-m.ensures.upper_bound.1

pub overflow_add-result : goal.overflow_add-result
overflow_add-result c =
    let at = c.args.source.at in
    let filled = take c.filled_of-m.result c.args.block.now in
    omega
    (arith, used_within c.args.source.reader (drop at filled) c.next-next.result c.next-next.ensures, length-drop at filled, c.filled_of-m.ensures.upper_bound, c.well_formed.0.1.1.1.0)

pub returns : goal.returns
returns c = drawn_is c.args.source c.args.block.now c.filled_of-m.result c.next-next.result c.is_more.result c.filled_of-m.ensures.block_value c.next-next.ensures c.is_more.ensures
