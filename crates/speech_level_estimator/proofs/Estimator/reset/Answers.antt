-- `speech_level_estimator::Estimator::reset` meets its contract. Assumes nothing.
use Rattle.speech_level_estimator.specs.Calls.{restarted}
use Rattle.speech_level_estimator.specs.Estimator.{passes}
use Rattle.speech_level_estimator.proofs.Tested.{carried_on}
use Rattle.speech_level_estimator.proofs.Estimator.reset.Goals as goal

pub returns : goal.returns
unfolding restarted
returns c = carried_on (passes c.args.self) _ _ _ _ c.in_ok-before.ensures (λ p same. rw (c.fresh.ensures, p, ← same))
