-- `units::settings::Settings::unset` meets its contract: the two are the same numbers. Assumes nothing.
use mathlib.Core.Path.{refl}
use lib.Ieee.{neg, of_bits}
use Rattle.units.specs.Settings.{unset}
use Rattle.units.proofs.settings.Settings.unset.Goals as goal

pub returns : goal.returns
unfolding unset neg of_bits
returns c = refl
