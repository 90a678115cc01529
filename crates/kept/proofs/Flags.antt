-- What `u32::from` makes of a flag is the flag's number. Assumes nothing.
use Rattle.std.specs.Prelude.{◌≡◌, refl, Bool, true, false}
use mir.Val.{bool_byte}
use Rattle.kept.specs.States.{number_of}

pub flag_number : (b : Bool) → bool_byte b ≡ number_of b
unfolding number_of
flag_number true = refl
flag_number false = refl
