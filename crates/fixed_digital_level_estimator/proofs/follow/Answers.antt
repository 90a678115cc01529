-- `fixed_digital_level_estimator::follow` meets its contract: the choice is the definition's. Assumes nothing.
use Rattle.fixed_digital_level_estimator.specs.Envelope.{decayed}
use Rattle.fixed_digital_level_estimator.proofs.follow.Goals as goal

pub returns : goal.returns
unfolding decayed
returns c = c.pick.ensures
