-- What a frame that is no speech leaves of the frames that were waited for: nothing. A law.
-- Assumes nothing.
use Rattle.std.specs.Prelude.{◌≡◌, ℕ, Bool, false, refl}
use Rattle.adaptive_digital_gain_controller.specs.Change.{waits}

-- After it all of them are still to come, however many there were before it.
pub closed_waits_again : (talks : Bool) (t waiting : ℕ) → talks ≡ false → waits talks t waiting ≡ t
unfolding waits
closed_waits_again talks t waiting silent = rw silent refl
