-- `Estimator::passes` meets its contract: the tests are the definition's. Assumes nothing.
use mathlib.Core.Bool.{Bool, ◌&&◌}
use mathlib.Core.Path.{◌≡◌}
use Prim.Native.Nat.{◌/◌}
use lib.Dec.{eqb}
use Rattle.units.specs.Figures.{curve_level}
use Rattle.frames.specs.Shape.{is_samples}
use Rattle.fixed_digital_level_estimator.specs.declared.Estimator.{Estimator}
use Rattle.fixed_digital_level_estimator.specs.Estimator.{passes}
use Rattle.fixed_digital_level_estimator.proofs.Estimator.passes.Goals as goal

-- the state's test, with what the two that are called gave
all_three : (e : Estimator) (level shape : Bool) → level ≡ curve_level e.level → shape ≡ is_samples e.samples
    → level && shape && eqb e.part (e.samples / 20) ≡ passes e
unfolding passes
all_three e level shape l s = rw (l, s)

pub returns : goal.returns
returns c = all_three _ _ _ c.is_curve_level.ensures c.is_samples.ensures
