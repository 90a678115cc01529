-- `units::settings::is_setting` meets its contract. Assumes nothing.
use mathlib.Core.Bool.{Bool, ◌&&◌, not}
use mathlib.Core.Path.{◌≡◌}
use lib.Ieee.{Float}
use Rattle.floats.specs.Kinds.{is_negative_zero}
use Rattle.units.specs.Ranges.{closed}
use Rattle.units.specs.Settings.{setting}
use Rattle.units.proofs.settings.is_setting.Goals as goal

-- the definition, with what the call gave
tested : (low x high : Float) (zero : Bool) → zero ≡ is_negative_zero x → closed low x high && not zero ≡ setting low x high
tested low x high zero z = rw z

pub returns : goal.returns
returns c = tested _ c.args.x _ _ c.is_negative_zero.ensures
