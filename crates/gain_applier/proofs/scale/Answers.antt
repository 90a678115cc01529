-- `gain_applier::scale` meets its contract: what the closure makes of a sample is the definition's. Assumes nothing.
use Rattle.std.proofs.Common.{rules}
use Rattle.gain_applier.specs.Laws.Blocks.{scaled_each}
use Rattle.gain_applier.proofs.scale.Goals as goal

pub returns : goal.returns
returns c = scaled_each _ c.args.gain (λ x y r. search rules) _ _ c.change.ensures
