-- What a chain that passes has, and what is accepted of figures; settings that are accepted are alike with themselves. Laws.
-- Assumes nothing.
use Rattle.std.specs.Prelude.{◌≡◌, true, [], ◌∷◌, T, eqb, Float}
use Rattle.std.specs.Float.{binary32}
use Rattle.std.specs.Float.Ieee.{fits, of_bits, eq, le, lt, size as bits}
use Rattle.std.specs.Float.Ieee.Bits.{is_true}
use Rattle.lists.specs.Tests.{each_of, ◌and◌}
use Rattle.rounding.specs.Laws.Exact.{constant_number}
use Rattle.rounding.specs.Laws.Order.{le→units, units→le}
use Rattle.intervals.specs.Laws.Choice.{leq_trans}
use Rattle.units.specs.Figures as Range
use Rattle.units.specs.Ranges as Ranges
use Rattle.units.specs.Settings as Settings
use Rattle.units.specs.declared.settings.Settings.{Settings as Set}
use Rattle.speech_level_estimator.specs.Estimator as Level
use Rattle.saturation_protector.specs.Protector as Headroom
use Rattle.gain_applier.specs.Laws.Again.{equals_itself}
use Rattle.adaptive_digital_gain_controller.specs.Controller as Gain
use Rattle.adaptive_digital_gain_controller.specs.Range.{HeldSettings}
use Rattle.adaptive_digital_gain_controller.specs.Laws.Boxes.{closed_box, in_settings}
use Rattle.limiter.specs.Limiter as Limiting
use Rattle.units.specs.Figures.{accepted}
use Rattle.chain.specs.Chain.{initial, alike, passes}
use Rattle.chain.specs.declared.Chain.{Chain}
use Rattle.units.specs.declared.figures.Figures.{Figures}

-- what a chain that passes has passed
pub record Passed (c : Chain) : Type 0 where
  pub estimator : Level.passes c.estimator ≡ true
  pub protector : Headroom.passes c.protector ≡ true
  pub controller : Gain.passes c.controller ≡ true
  pub limiter : Limiting.passes c.limiter ≡ true
  pub second : eqb c.estimator.threshold c.protector.threshold ≡ true
  pub third : eqb c.estimator.threshold c.controller.threshold ≡ true
  pub settings : alike c.estimator.settings c.controller.settings ≡ true
  pub start : eq c.protector.initial initial ≡ true

-- A chain that passes has passed each of the eight tests.
pub passed_all : (c : Chain) → passes c ≡ true → Passed c
unfolding passes
passed_all c h =
    let p = each_of (_ ∷ _ ∷ _ ∷ _ ∷ _ ∷ _ ∷ _ ∷ _ ∷ []) h in
    record { estimator = p 0; protector = p 1; controller = p 2; limiter = p 3; second = p 4; third = p 5; settings = p 6; start = p 7 }

-- And what has passed all eight passes.
pub passing : (c : Chain) → Passed c → passes c ≡ true
unfolding passes
passing c p = p.estimator and p.protector and p.controller and p.limiter and p.second and p.third and p.settings and p.start

-- what accepted figures have
pub record Inside (f : Figures) : Type 0 where
  pub probability : Range.probability f.probability ≡ true
  pub rms : Range.rms f.rms.0 ≡ true
  pub peak : Range.level f.peak.0 ≡ true
  pub noise : Range.level f.noise.0 ≡ true
  pub envelope : Range.envelope f.envelope.0 ≡ true

-- Accepted figures lie each in its range.
pub inside : (f : Figures) → accepted f ≡ true → Inside f
unfolding accepted
inside f h =
    let p = each_of (_ ∷ _ ∷ _ ∷ _ ∷ _ ∷ []) h in
    record { probability = p 0; rms = p 1; peak = p 2; noise = p 3; envelope = p 4 }

-- A published level, from -90 to 30, is a level of the speech, from -150 to 50.
pub published_level : (x : Float) → T (fits binary32 x) → Ranges.closed (of_bits binary32 0xc2b4_0000) x (of_bits binary32 0x41f0_0000) ≡ true → Range.level x ≡ true
unfolding of_bits le lt eq bits
published_level x f h =
    let i = (closed_box 0xc2b4_0000 0x41f0_0000 tt tt x f h).inside in
    let low = of_bits binary32 0xc316_0000 in
    let least = of_bits binary32 0xc2b4_0000 in
    let most = of_bits binary32 0x41f0_0000 in
    let high = of_bits binary32 0x4248_0000 in
    let down = le→units low least (constant_number 0xc316_0000 tt) (constant_number 0xc2b4_0000 tt) tt in
    let up = le→units most high (constant_number 0x41f0_0000 tt) (constant_number 0x4248_0000 tt) tt in
    is_true (le low x) (units→le low x (constant_number 0xc316_0000 tt) i.number (leq_trans low least x down i.above))
    and is_true (le x high) (units→le x high i.number (constant_number 0x4248_0000 tt) (leq_trans x most high i.below up))

-- Accepted settings are alike with themselves.
pub alike_itself : (s : Set) → HeldSettings s → Settings.accepted s ≡ true → alike s s ≡ true
unfolding alike
alike_itself s h a =
    let i = in_settings s h a in
    equals_itself s.headroom.0 i.headroom.inside.number and equals_itself s.largest.0 i.largest.inside.number
    and equals_itself s.initial.0 i.initial.inside.number
    and equals_itself s.change i.change.inside.number
    and equals_itself s.noise.0 i.noise.inside.number
