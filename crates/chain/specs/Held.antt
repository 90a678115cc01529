-- That the numbers of a chain, of figures and of settings are f32, which is what the borrow checker knows of each; and a chain that passes besides.
-- Definitions only.
use Rattle.std.specs.Prelude.{◌≡◌, true, T}
use Rattle.std.specs.Float.{binary32}
use Rattle.std.specs.Float.Ieee.{fits}
use Rattle.speech_level_estimator.specs.Held.{HeldEstimator}
use Rattle.saturation_protector.specs.declared.Protector.{Protector}
use Rattle.adaptive_digital_gain_controller.specs.Range.{HeldState}
use Rattle.chain.specs.Chain.{passes}
use Rattle.chain.specs.declared.Chain.{Chain}
use Rattle.units.specs.declared.figures.Figures.{Figures}

pub record HeldProtector (s : Protector) : Type 0 where
  pub headroom : T (fits binary32 s.headroom)
  pub preliminary : T (fits binary32 s.preliminary.headroom)
  pub reliable : T (fits binary32 s.reliable.headroom)

pub record HeldChain (c : Chain) : Type 0 where
  pub estimator : HeldEstimator c.estimator
  pub protector : HeldProtector c.protector
  pub controller : HeldState c.controller
  pub level : T (fits binary32 c.limiter.estimator.level)
  pub carried : T (fits binary32 c.limiter.carried)

pub record HeldFigures (f : Figures) : Type 0 where
  pub probability : T (fits binary32 f.probability)
  pub rms : T (fits binary32 f.rms.0)
  pub peak : T (fits binary32 f.peak.0)
  pub noise : T (fits binary32 f.noise.0)
  pub envelope : T (fits binary32 f.envelope.0)

-- a chain that passes, and whose numbers are f32
pub record Ready (c : Chain) : Type 0 where
  pub held : HeldChain c
  pub state : passes c ≡ true
