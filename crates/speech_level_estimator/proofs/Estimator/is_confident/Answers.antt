-- `speech_level_estimator::Estimator::is_confident` meets its contract. Assumes nothing.
use Rattle.speech_level_estimator.specs.Calls.{confidence_told}
use Rattle.speech_level_estimator.specs.Estimator.{passes}
use Rattle.speech_level_estimator.proofs.Tested.{carried_on}
use Rattle.speech_level_estimator.proofs.Estimator.is_confident.Goals as goal

pub returns : goal.returns
unfolding confidence_told
returns c = carried_on (passes c.args.self) _ _ _ _ c.in_ok-passed.ensures (λ p same. rw (p, ← same))
