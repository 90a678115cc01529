-- `gain_applier::clip_samples` meets its contract: what the closure makes of a sample is the definition's. Assumes nothing.
use Rattle.std.proofs.Common.{rules}
use Rattle.gain_applier.specs.Laws.Blocks.{clipped_each}
use Rattle.gain_applier.proofs.clip_samples.Goals as goal

pub returns : goal.returns
returns c = clipped_each _ (λ x y r. search rules) _ _ c.change.ensures
