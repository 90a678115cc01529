-- The words of the laws on the envelope's range. Definitions only.
use Rattle.std.specs.Prelude.{true, List, ◌≡◌, ℕ, T, Float, get_or}
use Rattle.std.specs.Float.{nan, binary32}
use Rattle.std.specs.Float.Ieee.{fits, of_bits}
use Rattle.rounding.specs.Units.{In}
use Rattle.floats.specs.Kinds.{magnitude}
use Rattle.fixed_digital_level_estimator.specs.Estimator.{passes}
use Rattle.fixed_digital_level_estimator.specs.declared.Estimator.{Estimator}

-- an f32 from 0 to 33554432
abbrev pub Level : Float → Type 0
Level x = In (of_bits binary32 0x0000_0000) (of_bits binary32 0x4c00_0000) x

-- a sample whose magnitude is one
abbrev pub Sound : Float → Type 0
Sound x = Level (magnitude x)

-- each element of a list is an f32: what the borrow checker knows of a slice
abbrev pub Held : List Float → Type 0
Held xs = (i : ℕ) → T (fits binary32 (get_or xs i nan))

-- a state that passes, and whose level is an f32, as the borrow checker knows of a handed-in state
pub record Ready (e : Estimator) : Type 0 where
  pub held : T (fits binary32 e.level)
  pub state : passes e ≡ true
