-- `units::figures::is_closed` meets its contract: the two are the same comparisons. Assumes nothing.
use mathlib.Core.Path.{refl}
use Rattle.units.proofs.figures.is_closed.Goals as goal

pub returns : goal.returns
returns c = refl
