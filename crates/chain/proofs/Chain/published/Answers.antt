-- `chain::Chain::published` meets its contract. Assumes nothing.
use Rattle.speech_level_estimator.proofs.Tested.{carried_on}
use Rattle.chain.specs.Chain.{passes}
use Rattle.chain.specs.Calls.{published_told}
use Rattle.chain.proofs.Chain.published.Goals as goal

pub returns : goal.returns
unfolding published_told
returns c = carried_on (passes c.args.self) _ _ _ _ c.in_ok-chain.ensures (λ p same. rw (p, ← same))
