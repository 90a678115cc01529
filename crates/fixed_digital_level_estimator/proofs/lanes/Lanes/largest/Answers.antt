-- `lanes::Lanes::largest` meets its contract: the calls are the definition's. Assumes nothing.
use Rattle.fixed_digital_level_estimator.specs.Lanes.{peak}
use Rattle.fixed_digital_level_estimator.proofs.lanes.Lanes.largest.Goals as goal

pub returns : goal.returns
unfolding peak
returns c = cc
