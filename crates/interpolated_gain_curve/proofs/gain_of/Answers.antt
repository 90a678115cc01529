-- `interpolated_gain_curve::gain_of` meets its contract: the piece's number is below 32, so both tables have it. Assumes nothing.
use Rattle.std.proofs.Common.{◌<◌, arith}
use Rattle.interpolated_gain_curve.specs.Gain.{slope_bits, slopes, intercept_bits, intercepts, on_piece, gain_of}
use Rattle.interpolated_gain_curve.specs.Laws.Knots.{piece_inside}
use Rattle.interpolated_gain_curve.proofs.gain_of.Goals as goal
use Rattle.interpolated_gain_curve.proofs.gain_of.Goals.{After-piece_of-i}

inside : (c : After-piece_of-i) → c.piece_of-i.result < 32
inside c = rw c.piece_of-i.ensures (piece_inside c.args.level)

pub offset_bounds-i : goal.offset_bounds-i
offset_bounds-i c = let h = inside c.before in omega arith

pub bounds-i : goal.bounds-i
bounds-i c = inside c.before

pub offset_bounds-i-else-level-2 : goal.offset_bounds-i-else-level-2
offset_bounds-i-else-level-2 c = let h = inside c.before.before.before in omega arith

pub bounds-i-else-level-2 : goal.bounds-i-else-level-2
bounds-i-else-level-2 c = inside c.before.before.before

pub returns-then-level : goal.returns-then-level
unfolding gain_of
returns-then-level c = rw c.if-level.true

pub returns-then-level-2 : goal.returns-then-level-2
unfolding gain_of
returns-then-level-2 c = rw (c.if-level.false, c.if-level-2.true)

pub returns-else-level-2 : goal.returns-else-level-2
unfolding gain_of on_piece slopes slope_bits intercepts intercept_bits
returns-else-level-2 c = rw (c.if-level.false, c.if-level-2.false, c.piece_of-i.ensures)
