-- `limiter::fill_first` meets its contract: each branch is a case of the definition. Assumes nothing.
use Rattle.limiter.specs.Factors.{first_part}
use Rattle.limiter.proofs.fill_first.Goals as goal

pub returns-then-end-start : goal.returns-then-end-start
unfolding first_part
returns-then-end-start c = rw c.if-end-start.true c.fill_curved.ensures

pub returns-else-end-start : goal.returns-else-end-start
unfolding first_part
returns-else-end-start c = rw c.if-end-start.false c.fill_straight.ensures
