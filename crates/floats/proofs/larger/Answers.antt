-- `floats::larger` meets its contract: the choice is the definition's. Assumes nothing.
use Rattle.floats.specs.Choice.{larger}
use Rattle.floats.proofs.larger.Goals as goal

pub returns : goal.returns
unfolding larger
returns c = c.pick.ensures
