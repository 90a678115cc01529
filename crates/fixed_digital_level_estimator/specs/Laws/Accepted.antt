-- What is known where a state passes, and where a frame is accepted.
-- Assumes nothing.
use Rattle.std.specs.Prelude.{◌≡◌, Bool, true, Result, Err, List, [], ◌∷◌, ℕ, ◌*◌, ◌/◌, eqb, length, Float}
use Rattle.std.proofs.Common.{sym, ap, ◌∙◌, arith, eqb-true}
use Rattle.units.specs.Figures.{curve_level}
use Rattle.units.specs.Replies.{done, refusal}
use Rattle.units.specs.Laws.Replies.{refused_first}
use Rattle.units.specs.Handed.{handed}
use Rattle.units.specs.Laws.Handed.{refused_not_done}
use Rattle.units.specs.declared.refusals.Refusal.{Refusal}
use Rattle.frames.specs.Shape.{is_samples}
use Rattle.frames.specs.Samples.{largest_level, all_within}
use Rattle.frames.specs.Refusal.{frame_refusal}
use Rattle.lists.specs.Tests.{each_of}
use Rattle.frames.specs.Facts.{samples_facts, shape_facts, taken}
use Rattle.fixed_digital_level_estimator.specs.Estimator.{passes}
use Rattle.fixed_digital_level_estimator.specs.declared.Estimator.{Estimator}

-- a state that passes
pub record Passing (e : Estimator) : Type 0 where
  pub level : curve_level e.level ≡ true
  pub samples : is_samples e.samples ≡ true
  pub part : e.part ≡ e.samples / 20
  pub whole : e.samples ≡ 20 * e.part

-- What a state that passes has; its samples are twenty sub-frames.
pub passing : (e : Estimator) → passes e ≡ true → Passing e
unfolding passes
passing e h =
    let p = each_of (curve_level e.level ∷ is_samples e.samples ∷ eqb e.part (e.samples / 20) ∷ []) h in
    let known = samples_facts e.samples (p 1) in
    let twentieth : e.part ≡ e.samples / 20 = eqb-true e.part (e.samples / 20) (p 2) in
    record { level = p 0; samples = p 1; part = twentieth; whole = omega arith }

-- a frame that the estimator accepts
pub record Accepted (e : Estimator) (frame : List Float) (channels samples : ℕ) : Type 0 where
  pub state : passes e ≡ true
  pub same : samples ≡ e.samples
  pub size : length frame ≡ channels * samples
  pub parts : samples ≡ 20 * e.part
  pub sound : all_within largest_level frame ≡ true

-- A frame that is not refused has its channels' samples, twenty sub-frames of them, all within the bound, and the state passes.
pub accepted : (e : Estimator) (frame : List Float) (channels samples : ℕ)
    → frame_refusal frame channels samples (eqb samples e.samples) (passes e) true largest_level ≡ done → Accepted e frame channels samples
accepted e frame channels samples h =
    let t = taken frame channels samples (eqb samples e.samples) (passes e) true largest_level h in
    let same = eqb-true samples e.samples t.same in
    record {
      state = t.settings;
      same = same;
      size = (shape_facts channels samples (length frame) t.shape).1;
      parts = same ∙ (passing e t.settings).whole;
      sound = t.sound;
    }

-- A frame that is refused before its samples are looked at is refused with that number, whatever the samples are.
pub refused_early : {B : Type 0} (shape setting sample : Bool) (e : Refusal) (made : B) → ◌≡◌ {A = Result (Unit {0}) Refusal} (Err e) (handed (refusal shape setting true true) tt)
    → handed (refusal shape setting true true) made ≡ handed (refusal shape setting true sample) made
refused_early shape setting sample e made h =
    ap (λ (n : ℕ). handed n made) (sym (refused_first shape setting true sample (refused_not_done (refusal shape setting true true) (tt {0}) e h)))
