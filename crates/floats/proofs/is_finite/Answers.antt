-- `floats::is_finite` meets its contract: x - x is 0 exactly where x is a number. Assumes nothing.
use Rattle.floats.specs.Laws.Kinds.{passed, self_difference}
use Rattle.floats.proofs.is_finite.Goals as goal

pub returns : goal.returns
returns c = self_difference c.args.x (passed c.well_formed.0.1)
