-- `floats::clamp` meets its contract: what the two calls ensure, one after the other. Assumes nothing.
use Rattle.floats.specs.Choice.{clamp}
use Rattle.floats.proofs.clamp.Goals as goal

pub returns : goal.returns
unfolding clamp
returns c = cc
