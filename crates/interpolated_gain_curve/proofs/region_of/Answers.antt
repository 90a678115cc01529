-- `interpolated_gain_curve::region_of` meets its contract: the same comparisons in the same order. Assumes nothing.
use Rattle.interpolated_gain_curve.specs.Gain.{region_of}
use Rattle.interpolated_gain_curve.specs.Curve.{number_of}
use Rattle.interpolated_gain_curve.proofs.region_of.Goals as goal

pub returns-then-level : goal.returns-then-level
unfolding region_of number_of
returns-then-level c = rw c.if-level.true

pub returns-then-level-2 : goal.returns-then-level-2
unfolding region_of number_of
returns-then-level-2 c = rw (c.if-level.false, c.if-level-2.true)

pub returns-then-level-3 : goal.returns-then-level-3
unfolding region_of number_of
returns-then-level-3 c = rw (c.if-level.false, c.if-level-2.false, c.if-level-3.true)

pub returns-else-level-3 : goal.returns-else-level-3
unfolding region_of number_of
returns-else-level-3 c = rw (c.if-level.false, c.if-level-2.false, c.if-level-3.false)
