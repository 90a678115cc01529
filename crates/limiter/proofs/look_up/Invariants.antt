-- `limiter::look_up` meets its contract. The invariant: what is done, then the gains and the counts of what is left; and nothing that is left is refused.
-- Assumes nothing.
use Rattle.std.proofs.Common.{◌≡◌, T, ◌++◌, length, take, drop}
use Rattle.lists.specs.Each.{Each}
use Rattle.interpolated_gain_curve.specs.Curve as Curves
use Rattle.fixed_digital_level_estimator.specs.Envelope.{plain}
use Rattle.fixed_digital_level_estimator.specs.Range.{Level}
use Rattle.limiter.specs.Limiter.{gains_of, curve_after}
use Rattle.limiter.proofs.look_up.Given as goal

abbrev pub invariant-loop-k : goal.invariant-loop-k
invariant-loop-k l =
    (length l.gains ≡ 20) × (take l.k l.gains ++ gains_of l.counted (plain (drop l.k l.fn.levels)) ≡ gains_of l.initial.counted (plain l.fn.levels))
    × (curve_after l.counted (plain (drop l.k l.fn.levels)) ≡ curve_after l.initial.counted (plain l.fn.levels))
    × T (Curves.passes l.counted) × Each Level (plain (drop l.k l.fn.levels))
