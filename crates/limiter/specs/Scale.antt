-- The words of the laws on full scale. Definitions only.
use Rattle.std.specs.Prelude.{List, true, ◌≡◌, T, Float}
use Rattle.std.specs.Float.{binary32}
use Rattle.std.specs.Float.Ieee.{fits, of_bits}
use Rattle.std.specs.Float.Ieee.Scale.{finite}
use Rattle.rounding.specs.Units.{In}
use Rattle.lists.specs.Each.{Each}
use Rattle.limiter.specs.Limiter.{passes}
use Rattle.limiter.specs.declared.Limiter.{Limiter}

-- a sample between -32768 and 32767
abbrev pub Fits16 : Float → Type 0
Fits16 x = In (of_bits binary32 0xc700_0000) (of_bits binary32 0x46ff_fe00) x

-- each sample of a frame is
abbrev pub FullScale : List Float → Type 0
FullScale xs = Each Fits16 xs

-- a sample or a factor that is no NaN and no infinity
abbrev pub Finite : Float → Type 0
Finite x = T (finite x)

-- a factor from 0 to 2, which is where the gains and the carried factor lie
abbrev pub Moderate : Float → Type 0
Moderate x = In (of_bits binary32 0x0000_0000) (of_bits binary32 0x4000_0000) x

-- a state that passes, and whose floats are f32, as the borrow checker knows of a handed-in state
pub record Ready (l : Limiter) : Type 0 where
  pub level : T (fits binary32 l.estimator.level)
  pub carried : T (fits binary32 l.carried)
  pub state : passes l ≡ true
