-- That the numbers of a state are f32, which is what the borrow checker knows of each. Definitions only.
use Rattle.std.specs.Prelude.{T}
use Rattle.std.specs.Float.{binary32}
use Rattle.std.specs.Float.Ieee.{fits}
use Rattle.units.specs.declared.settings.Settings.{Settings}
use Rattle.speech_level_estimator.specs.declared.Average.{Average}
use Rattle.speech_level_estimator.specs.declared.Estimator.{Estimator}

pub record Held (a : Average) : Type 0 where
  pub sum : T (fits binary32 a.sum)
  pub weight : T (fits binary32 a.weight)

-- of the settings, the two that the starting level is made of
pub record HeldSettings (s : Settings) : Type 0 where
  pub headroom : T (fits binary32 s.headroom.0)
  pub initial : T (fits binary32 s.initial.0)

pub record HeldEstimator (e : Estimator) : Type 0 where
  pub settings : HeldSettings e.settings
  pub initial : T (fits binary32 e.initial)
  pub level : T (fits binary32 e.level)
  pub preliminary : Held e.preliminary
  pub reliable : Held e.reliable
