-- `floats::magnitude` meets its contract: the larger of 0 - x and x is x without its sign. Assumes nothing.
use mathlib.Core.Path.{◌∙◌}
use Rattle.floats.specs.Laws.Kinds.{passed, larger_side}
use Rattle.floats.proofs.magnitude.Goals as goal

pub returns : goal.returns
returns c = c.larger.ensures ∙ larger_side c.args.x (passed c.well_formed.0.1)
