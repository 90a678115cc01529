-- `limiter::Limiter::none` meets its contract. Assumes nothing.
use Rattle.limiter.specs.Limiter.{none}
use Rattle.limiter.proofs.Limiter.none.Goals as goal

pub returns : goal.returns
unfolding none
returns c = rw (c.none.ensures, c.new.ensures)
