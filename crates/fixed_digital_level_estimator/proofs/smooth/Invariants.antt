-- `fixed_digital_level_estimator::smooth` meets its contract. The invariant: what is done, then the smoothing of what is left from the last value
-- on, is the smoothing of the whole. Assumes nothing.
use mathlib.Core.List.{◌++◌}
use mathlib.Core.Path.{◌≡◌}
use lib.ListN.{length, take, drop}
use Rattle.fixed_digital_level_estimator.specs.Envelope.{smoothed, linear}
use Rattle.fixed_digital_level_estimator.proofs.smooth.Given as goal

abbrev pub invariant-loop-k : goal.invariant-loop-k
invariant-loop-k l =
    (length l.out ≡ 20) × (take l.k l.out ++ linear (smoothed l.last (drop l.k l.fn.found)) ≡ linear (smoothed l.level l.fn.found))
