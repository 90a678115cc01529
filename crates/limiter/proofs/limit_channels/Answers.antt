-- `limiter::limit_channels` meets its contract, by the laws of the walk over what is done to a part. Assumes nothing.
use Rattle.std.proofs.Common.{◌≡◌, ◌-◌, ◌+◌, ◌<◌, arith, length-take, length-drop}
use Rattle.frames.specs.Walk.{walk_begins, walk_room, walk_goes_on, walk_ends}
use Rattle.limiter.proofs.limit_channels.Goals as goal

pub loop-init : goal.loop-init
loop-init c = let all : c.args.channels - 0 ≡ c.args.channels = omega arith in rw all (walk_begins c.requires.0)

pub overflow_add-end : goal.overflow_add-end
overflow_add-end c = omega (arith, walk_room c.loop.invariant (omega arith))

pub offset_bounds-frame-start : goal.offset_bounds-frame-start
offset_bounds-frame-start c = omega (arith, walk_room c.loop.invariant (omega arith))

pub slice_bounds-limit-end : goal.slice_bounds-limit-end
slice_bounds-limit-end c = walk_room c.loop.invariant (omega arith)

pub limit-requires : goal.limit-requires
limit-requires c = simp (length-take, length-drop) (omega (arith, c.requires.1))

pub loop-preserved : goal.loop-preserved
loop-preserved c =
    let loop = c.loop in
    let made = c.limit in
    let more : 0 < c.args.channels - loop.counter = omega arith in
    let fewer : c.args.channels - loop.counter - 1 ≡ c.args.channels - (loop.counter + 1) = omega arith in
    rw fewer at (walk_goes_on loop.invariant more made.ensures made.auto.part)

pub returns : goal.returns
returns c = walk_ends c.loop.invariant (omega arith)
