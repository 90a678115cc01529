-- The state of the estimator, and what each call answers, refusals first. Definitions only.
use Rattle.std.specs.Prelude.{Bool, true, ◌&&◌, cond, List, ℕ, ◌/◌, eqb, get_or, Float}
use Rattle.std.specs.Float.{binary32}
use Rattle.std.specs.Float.Ieee.{of_bits}
use Rattle.units.specs.Figures.{curve_level}
use Rattle.units.specs.Replies.{done, refusal}
use Rattle.frames.specs.Shape.{is_samples}
use Rattle.frames.specs.Samples.{largest_level}
use Rattle.frames.specs.Refusal.{frame_refusal}
use Rattle.fixed_digital_level_estimator.specs.Envelope.{silence, peaks_over, raised, smoothed, linear}
use Rattle.fixed_digital_level_estimator.specs.declared.Estimator.{Estimator}
use Rattle.units.specs.declared.kinds.LinearS16.{LinearS16}
use Rattle.fixed_digital_level_estimator.specs.declared.Levels.{Levels as Told}

-- a reply's number, and the estimator that goes on from there: the one that came in where it is refused, and all 0 where it is a new one
pub record Next : Type 0 where
  pub reply : ℕ
  pub estimator : Estimator

-- a reply's number, the estimator that goes on from there, and the envelope: all 0 where it is refused
pub record Levels : Type 0 where
  pub reply : ℕ
  pub estimator : Estimator
  pub envelope : List LinearS16

-- a reply's number, and a level: 0 where it is refused
pub record Heard : Type 0 where
  pub reply : ℕ
  pub level : LinearS16

-- "envelope 0 to 33554432; .. samples a shape's; sub-frame length .. as [its] rule gives": a twentieth
unfoldable pub passes : Estimator → Bool
unfolding is_samples
passes e = curve_level e.level && is_samples e.samples && eqb e.part (e.samples / 20)

-- all fields 0
unfoldable pub none : Estimator
none = record { level = of_bits binary32 0x0000_0000; samples = 0; part = 0 }

-- set to a number of samples
unfoldable pub sized_to : Estimator → ℕ → Estimator
sized_to e samples = record { level = e.level; samples = samples; part = samples / 20 }

-- a new estimator: reply 1 where the samples are not a shape's
unfoldable pub made : ℕ → Next
unfolding refusal is_samples sized_to none
made samples = record { reply = refusal (is_samples samples) true true true; estimator = cond (is_samples samples) (sized_to none samples) none }

-- the envelope of a frame
unfoldable pub envelope_of : Estimator → ℕ → List Float → List Float
unfolding peaks_over raised smoothed
envelope_of e channels frame = smoothed e.level (raised (peaks_over channels e.samples e.part silence frame))

-- its last value is the next state
unfoldable pub heard_up_to : Estimator → List Float → Estimator
heard_up_to e envelope = record { level = get_or envelope 19 e.level; samples = e.samples; part = e.part }

-- "1: .. or samples not those the level estimator .. was set to"
unfoldable pub computed : Estimator → List Float → ℕ → ℕ → Levels
unfolding frame_refusal passes envelope_of heard_up_to linear
computed e frame channels samples =
    let reply = frame_refusal frame channels samples (eqb samples e.samples) (passes e) true largest_level in
    let envelope = envelope_of e channels frame in
    record {
      reply = reply;
      estimator = cond (eqb reply done) (heard_up_to e envelope) e;
      envelope = linear (cond (eqb reply done) envelope silence);
    }

-- what is handed out of a frame that is taken
abbrev pub told : Levels → Told
told l = record { estimator = l.estimator; envelope = l.envelope }

-- other samples: the level stays
unfoldable pub changed : Estimator → ℕ → Next
unfolding refusal passes is_samples sized_to
changed e samples =
    record {
      reply = refusal (is_samples samples) (passes e) true true;
      estimator = cond (is_samples samples && passes e) (sized_to e samples) e;
    }

-- the level is 0 again
unfoldable pub cleared : Estimator → Next
unfolding refusal passes
cleared e =
    record {
      reply = refusal true (passes e) true true;
      estimator = cond (passes e) (record { level = of_bits binary32 0x0000_0000; samples = e.samples; part = e.part }) e;
    }

unfoldable pub heard : Estimator → Heard
unfolding refusal passes
heard e = record { reply = refusal true (passes e) true true; level = record { 0 = cond (passes e) e.level (of_bits binary32 0x0000_0000) } }
