-- The words of the laws on the gain, the factor and the state. Definitions only.
use Rattle.std.specs.Prelude.{◌≡◌, true, T, from_bits, Float}
use Rattle.std.specs.Float.{binary32}
use Rattle.std.specs.Float.Ieee.{fits}
use Rattle.rounding.specs.Units.{In}
use Rattle.units.specs.declared.settings.Settings.{Settings as Set}
use Rattle.adaptive_digital_gain_controller.specs.Controller.{passes, largest}
use Rattle.adaptive_digital_gain_controller.specs.declared.Info.{Info}
use Rattle.adaptive_digital_gain_controller.specs.declared.Controller.{Controller}

abbrev pub zero : Float
zero = from_bits binary32 0x0000_0000

-- 50.000004, the f32 next above 50
abbrev pub past50 : Float
past50 = from_bits binary32 0x4248_0001

-- what a target can be: a number from 0 to the f32 next above 50
abbrev pub Goal : Float → Type 0
Goal x = In zero past50 x

-- what a gain can be: a number from 0 to 51
abbrev pub Gain : Float → Type 0
Gain x = In zero (from_bits binary32 0x424c_0000) x

-- what a factor can be: a number from 1 to 355
abbrev pub Factor : Float → Type 0
Factor x = In (from_bits binary32 0x3f80_0000) largest x

-- the floats of settings are f32, as the borrow checker knows of a handed-in struct
pub record HeldSettings (s : Set) : Type 0 where
  pub headroom : T (fits binary32 s.headroom.0)
  pub largest : T (fits binary32 s.largest.0)
  pub initial : T (fits binary32 s.initial.0)
  pub change : T (fits binary32 s.change)
  pub noise : T (fits binary32 s.noise.0)

-- so are those of a frame's figures
pub record HeldInfo (i : Info) : Type 0 where
  pub level : T (fits binary32 i.level.0)
  pub noise : T (fits binary32 i.noise.0)
  pub headroom : T (fits binary32 i.headroom.0)
  pub envelope : T (fits binary32 i.envelope.0)

-- and those of a state
pub record HeldState (c : Controller) : Type 0 where
  pub settings : HeldSettings c.settings
  pub change : T (fits binary32 c.change)
  pub gain : T (fits binary32 c.gain)
  pub last : T (fits binary32 c.applier.last)
  pub current : T (fits binary32 c.applier.current)

-- a state that passes, and whose floats are f32
pub record Ready (c : Controller) : Type 0 where
  pub held : HeldState c
  pub state : passes c ≡ true
