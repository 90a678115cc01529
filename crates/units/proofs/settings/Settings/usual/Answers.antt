-- `units::settings::Settings::usual` meets its contract: the two are the same numbers. Assumes nothing.
use mathlib.Core.Path.{refl}
use lib.Ieee.{neg, of_bits}
use Rattle.units.specs.Settings.{usual}
use Rattle.units.proofs.settings.Settings.usual.Goals as goal

pub returns : goal.returns
unfolding usual neg of_bits
returns c = refl
