-- `units::figures::is_rms` meets its contract: the two are the same comparisons. Assumes nothing.
use mathlib.Core.Path.{refl}
use lib.Ieee.{neg, of_bits}
use Rattle.units.proofs.figures.is_rms.Goals as goal

pub returns : goal.returns
unfolding neg of_bits
returns c = refl
