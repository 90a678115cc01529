-- `floats::is_negative_zero` meets its contract: 1 / x tells the zeros apart. Assumes nothing.
use Rattle.floats.specs.Laws.Kinds.{passed, reciprocal_sign}
use Rattle.floats.proofs.is_negative_zero.Goals as goal

pub returns : goal.returns
returns c = reciprocal_sign c.args.x (passed c.well_formed.0.1)
