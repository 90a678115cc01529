-- `floats::smaller` meets its contract: the choice is the definition's. Assumes nothing.
use Rattle.floats.specs.Choice.{smaller}
use Rattle.floats.proofs.smaller.Goals as goal

pub returns : goal.returns
unfolding smaller
returns c = c.pick.ensures
