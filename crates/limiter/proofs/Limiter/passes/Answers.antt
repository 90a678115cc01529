-- `limiter::Limiter::passes` meets its contract. Assumes nothing.
use mathlib.Core.Bool.{Bool, ◌&&◌}
use mathlib.Core.Path.{◌≡◌}
use Rattle.interpolated_gain_curve.specs.Curve as Curves
use Rattle.fixed_digital_level_estimator.specs.Estimator as Estimators
use Rattle.limiter.specs.declared.Limiter.{Limiter}
use Rattle.limiter.specs.Limiter.{carried_factor, passes}
use Rattle.limiter.proofs.Limiter.passes.Goals as goal

-- the state's test, with what the two that are called gave
all_three : (l : Limiter) (estimator curve : Bool) → estimator ≡ Estimators.passes l.estimator → curve ≡ Curves.passes l.curve
    → estimator && curve && carried_factor l.carried ≡ passes l
unfolding passes
all_three l estimator curve e c = rw (e, c)

pub returns : goal.returns
returns c = all_three _ _ _ c.passes.ensures c.passes-2.ensures
