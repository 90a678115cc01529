-- `Estimator::none` meets its contract. Assumes nothing.
use Rattle.std.proofs.Common.{refl}
use Rattle.fixed_digital_level_estimator.specs.Estimator.{none}
use Rattle.fixed_digital_level_estimator.proofs.Estimator.none.Goals as goal

pub returns : goal.returns
unfolding none
returns c = refl
