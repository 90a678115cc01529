-- `speech_level_estimator::Estimator::gap` meets its contract. Assumes nothing.
use Rattle.speech_level_estimator.specs.Calls.{gap}
use Rattle.speech_level_estimator.specs.Estimator.{passes}
use Rattle.speech_level_estimator.proofs.Tested.{carried_on}
use Rattle.speech_level_estimator.proofs.Estimator.gap.Goals as goal

pub returns : goal.returns
unfolding gap
returns c = carried_on (passes c.args.self) _ _ _ _ c.in_ok-passed.ensures (λ p same. rw (c.interrupted.ensures, p, ← same))
