-- `units::figures::is_envelope` meets its contract: `is_closed` at both ends. Assumes nothing.
use lib.Ieee.{neg, of_bits}
use Rattle.units.proofs.figures.is_envelope.Goals as goal

pub returns : goal.returns
unfolding neg of_bits
returns c = c.is_closed.ensures
