-- `units::figures::is_level` meets its contract: `is_closed` at both ends. Assumes nothing.
use lib.Ieee.{neg, of_bits}
use Rattle.units.proofs.figures.is_level.Goals as goal

pub returns : goal.returns
unfolding neg of_bits
returns c = c.is_closed.ensures
