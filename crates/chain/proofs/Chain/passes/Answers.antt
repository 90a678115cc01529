-- `chain::Chain::passes` meets its contract: test by test. Assumes nothing.
use mathlib.Core.Bool.{Bool, true, false, ◌&&◌}
use mathlib.Core.Path.{◌≡◌, refl}
use Rattle.std.proofs.Common.{◌∙◌}
use lib.Dec.{eqb}
use lib.Ieee.{eq}
use Rattle.speech_level_estimator.specs.Estimator as Level
use Rattle.saturation_protector.specs.Protector as Headroom
use Rattle.adaptive_digital_gain_controller.specs.Controller as Gain
use Rattle.limiter.specs.Limiter as Limiting
use Rattle.chain.specs.Chain.{initial, alike, passes}
use Rattle.chain.specs.declared.Chain.{Chain}
use Rattle.units.specs.declared.settings.Settings.{Settings}
use Rattle.chain.proofs.Chain.passes.Goals as goal

-- the definition, with what the calls gave
all-tests : (c : Chain) (level headroom gain limiting same : Bool) → level ≡ Level.passes c.estimator → headroom ≡ Headroom.passes c.protector
    → gain ≡ Gain.passes c.controller → limiting ≡ Limiting.passes c.limiter → same ≡ alike c.estimator.settings c.controller.settings
    → level && headroom && gain && limiting && eqb c.estimator.threshold c.protector.threshold && eqb c.estimator.threshold c.controller.threshold && same
    && eq c.protector.initial initial
    ≡ passes c
unfolding passes
all-tests c level headroom gain limiting same l h g m s = rw (l, h, g, m, s)

-- a struct's == asks its fields from the last pair on, and the definition from the first
from-the-first : (p q r s t : Bool) → p && (q && (r && (s && t))) ≡ p && q && r && s && t
from-the-first false q r s t = refl
from-the-first true false r s t = refl
from-the-first true true false s t = refl
from-the-first true true true false t = refl
from-the-first true true true true t = refl

same-settings : (a b : Settings) (same : Bool)
    → same ≡ eq a.headroom.0 b.headroom.0 && (eq a.largest.0 b.largest.0 && (eq a.initial.0 b.initial.0 && (eq a.change b.change && eq a.noise.0 b.noise.0)))
    → same ≡ alike a b
unfolding alike
same-settings a b same h =
    h ∙ from-the-first (eq a.headroom.0 b.headroom.0) (eq a.largest.0 b.largest.0) (eq a.initial.0 b.initial.0) (eq a.change b.change) (eq a.noise.0 b.noise.0)

pub returns : goal.returns
returns c =
    all-tests _ _ _ _ _ _ c.passes.ensures c.passes-2.ensures c.passes-3.ensures c.passes-4.ensures
    (same-settings c.args.self.estimator.settings c.args.self.controller.settings c.eq.result c.eq.ensures)
