-- `fixed_digital_level_estimator::raise` meets its contract. The invariant: what is done, then the raising of what is left, is the raising of the
-- whole. The right neighbour that is read is not raised yet, since the loop goes up. Assumes nothing.
use mathlib.Core.List.{◌++◌}
use mathlib.Core.Path.{◌≡◌}
use lib.ListN.{length, take, drop}
use Rattle.fixed_digital_level_estimator.specs.Envelope.{raised}
use Rattle.fixed_digital_level_estimator.proofs.raise.Given as goal

abbrev pub invariant-loop-k : goal.invariant-loop-k
invariant-loop-k l = (length l.out ≡ 20) × (take l.k l.out ++ raised (drop l.k l.out) ≡ raised l.initial.out)
