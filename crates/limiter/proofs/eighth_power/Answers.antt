-- `limiter::eighth_power` meets its contract. Assumes nothing.
use mathlib.Core.Path.{refl}
use Rattle.limiter.specs.Factors.{eighth}
use Rattle.limiter.proofs.eighth_power.Goals as goal

pub returns : goal.returns
unfolding eighth
returns c = refl
