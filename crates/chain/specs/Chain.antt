-- The chain's state and its test. Definitions only.
use Rattle.std.specs.Prelude.{Bool, ◌&&◌, ℕ, eqb, Float}
use Rattle.std.specs.Float.{binary32}
use Rattle.std.specs.Float.Ieee.{of_bits, eq}
use Rattle.units.specs.declared.settings.Settings.{Settings}
use Rattle.speech_level_estimator.specs.Estimator as Level
use Rattle.saturation_protector.specs.Protector as Headroom
use Rattle.adaptive_digital_gain_controller.specs.Controller as Gain
use Rattle.limiter.specs.Limiter as Limiting
use Rattle.chain.specs.declared.Chain.{Chain}
use Rattle.chain.specs.declared.Published.{Published}

-- "initial headroom 20"
abbrev pub initial : Float
initial = of_bits binary32 0x41a0_0000

-- equal settings, each as a float
unfoldable pub alike : Settings → Settings → Bool
alike a b =
    eq a.headroom.0 b.headroom.0
    && eq a.largest.0 b.largest.0
    && eq a.initial.0 b.initial.0
    && eq a.change b.change
    && eq a.noise.0 b.noise.0

-- "a chain's parts alike in T and settings, initial headroom 20", and each part passes
unfoldable pub passes : Chain → Bool
unfolding Level.passes Headroom.passes Gain.passes Limiting.passes alike
passes c =
    Level.passes c.estimator
    && Headroom.passes c.protector
    && Gain.passes c.controller
    && Limiting.passes c.limiter
    && eqb c.estimator.threshold c.protector.threshold
    && eqb c.estimator.threshold c.controller.threshold
    && alike c.estimator.settings c.controller.settings
    && eq c.protector.initial initial

-- the samples that a chain was set to
abbrev pub samples_of : Chain → ℕ
samples_of c = c.limiter.estimator.samples

-- the capacity of both of its rings
abbrev pub capacities_of : Chain → ℕ × ℕ
capacities_of c = Headroom.capacities c.protector

-- "every published level, headroom, confidence, gain": what a chain publishes
abbrev pub published : Chain → Published
published c =
    record {
      level = record { 0 = c.estimator.level };
      headroom = record { 0 = c.protector.headroom };
      gain = record { 0 = c.controller.gain };
      confident = c.estimator.confident;
    }
