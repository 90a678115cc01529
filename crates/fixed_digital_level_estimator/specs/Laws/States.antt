-- "Every state from a new or accepted call passes", and every envelope that is handed out lies from 0 to 33554432. Of the frame and of the state that come in
-- it is only asked that their floats are f32, which the borrow checker knows of every slice and every struct.
-- Assumes nothing.
use Rattle.std.specs.Prelude.{◌≡◌, refl, Bool, false, cond, List, T, get_or, Float}
use Rattle.std.proofs.Common.{◌∙◌, arith, eqb-true, eq-eqb}
use Rattle.std.proofs.Math.Bool.{true}
use Prim.Native.Nat.{ℕ, ◌/◌, ◌<◌}
use Rattle.std.proofs.Math.Dec.{eqb}
use Rattle.std.proofs.Math.ListN.{length, length-map}
use Rattle.std.specs.Float.Ieee.{nan, fits, of_bits}
use Rattle.std.specs.Float.{binary32}
use Rattle.units.specs.Figures.{curve_level}
use Rattle.units.specs.Replies.{done, refusal}
use Rattle.frames.specs.Shape.{is_samples}
use Rattle.frames.specs.Samples.{largest_level}
use Rattle.frames.specs.Refusal.{frame_refusal}
use Rattle.fixed_digital_level_estimator.specs.Envelope.{silence, peaks_over, raised, linear, plain}
use Rattle.fixed_digital_level_estimator.specs.Estimator.{passes, none, sized_to, made, envelope_of, heard_up_to, computed, changed, cleared}
use Rattle.lists.specs.Each.{Each, each_at}
use Rattle.fixed_digital_level_estimator.specs.Range.{Level, Held, Ready}
use Rattle.fixed_digital_level_estimator.specs.Laws.Lengths.{envelope_length}
use Rattle.fixed_digital_level_estimator.specs.Laws.Kinds.{linear_length, plain_linear}
use Rattle.fixed_digital_level_estimator.specs.Laws.Accepted.{passing, accepted}
use Rattle.fixed_digital_level_estimator.specs.Laws.Range.{level_zero, level_of, level_passes, samples_level, peaks_over_level, silence_level, raised_level, smoothed_level}
use Rattle.fixed_digital_level_estimator.specs.declared.Estimator.{Estimator}

-- ---- tests
is_true : (b : Bool) → T b → b ≡ true
is_true true t = refl
is_true false t = absurd t

-- the replies 1 and 4 are not 0
both_pass : (shape setting : Bool) → refusal shape setting true true ≡ done → (shape ≡ true) × (setting ≡ true)
unfolding refusal
both_pass true true h = (refl, refl)
both_pass true false h = absurd (omega arith)
both_pass false setting h = absurd (omega arith)

-- a level, samples that a frame can have, and a twentieth of them
ready : (level : Float) (samples part : ℕ) → Level level → is_samples samples ≡ true → part ≡ samples / 20 → Ready (record { level = level; samples = samples; part = part })
unfolding passes
ready level samples part l s p =
    record { held = l.number.held; state = rw (is_true (curve_level level) (level_passes level l), s, eq-eqb part (samples / 20) p) }

-- ---- the envelope
-- Whatever the reply, twenty values are handed out.
pub computed_length : (e : Estimator) (frame : List Float) (channels samples : ℕ) → length (computed e frame channels samples).envelope ≡ 20
unfolding computed
computed_length e frame channels samples = go (eqb (frame_refusal frame channels samples (eqb samples e.samples) (passes e) true largest_level) done)
  where
    go : (b : Bool) → length (linear (cond b (envelope_of e channels frame) silence)) ≡ 20
    go true = linear_length (envelope_of e channels frame) ∙ envelope_length e channels frame
    go false = linear_length silence

module _ (e : Estimator) (frame : List Float) (channels samples : ℕ) (level : T (fits binary32 e.level)) (sound : Held frame) where
  -- The envelope of an accepted frame lies from 0 to 33554432.
  pub envelope_levels : frame_refusal frame channels samples (eqb samples e.samples) (passes e) true largest_level ≡ done → Each Level (envelope_of e channels frame)
  unfolding envelope_of
  envelope_levels h =
      let a = accepted e frame channels samples h in
      let peaks = peaks_over channels e.samples e.part silence frame in
      smoothed_level e.level (raised peaks) (level_of e.level level (passing e a.state).level)
      (raised_level peaks (peaks_over_level channels e.samples e.part silence frame silence_level (samples_level frame sound a.sound)))

  -- Whatever the reply, the envelope that is handed out lies there: of a refused frame it is 0.
  pub computed_levels : Each Level (plain (computed e frame channels samples).envelope)
  unfolding computed
  computed_levels = go (eqb reply done) (λ (t : eqb reply done ≡ true). envelope_levels (eqb-true reply done t))
    where
      reply : ℕ
      reply = frame_refusal frame channels samples (eqb samples e.samples) (passes e) true largest_level

      go : (b : Bool) → (b ≡ true → Each Level (envelope_of e channels frame)) → Each Level (plain (linear (cond b (envelope_of e channels frame) silence)))
      go true f = rw (plain_linear (envelope_of e channels frame)) (f refl)
      go false f = rw (plain_linear silence) silence_level

  -- So the curve accepts each of them.
  pub computed_curve_levels : (k : ℕ) → k < 20 → T (curve_level (get_or (plain (computed e frame channels samples).envelope) k nan))
  unfolding plain
  computed_curve_levels k h =
      let all = (computed e frame channels samples).envelope in
      let xs = plain all in
      let long : length xs ≡ 20 = length-map all _ ∙ computed_length e frame channels samples in
      level_passes (get_or xs k nan) (each_at Level xs nan k (rw long h) computed_levels)

  -- The state after an accepted frame passes.
  pub computed_ready : (computed e frame channels samples).reply ≡ done → Ready (computed e frame channels samples).estimator
  unfolding computed heard_up_to
  computed_ready h =
      let a = accepted e frame channels samples h in
      let p = passing e a.state in
      let xs = envelope_of e channels frame in
      let all = envelope_length e channels frame in
      rw h (ready (get_or xs 19 e.level) e.samples e.part (each_at Level xs e.level 19 (omega arith) (envelope_levels h)) p.samples p.part)

-- ---- the other calls
-- A new state that is not refused passes.
pub made_ready : (samples : ℕ) → (made samples).reply ≡ done → Ready (made samples).estimator
unfolding made sized_to none
made_ready samples h =
    let t = (both_pass (is_samples samples) true h).0 in
    rw t (ready (of_bits binary32 0x0000_0000) samples (samples / 20) level_zero t refl)

-- The state that is set to other samples passes, where that is not refused.
pub changed_ready : (e : Estimator) (samples : ℕ) → T (fits binary32 e.level) → (changed e samples).reply ≡ done → Ready (changed e samples).estimator
unfolding changed sized_to
changed_ready e samples level h =
    let t = both_pass (is_samples samples) (passes e) h in
    rw (t.0, t.1) (ready e.level samples (samples / 20) (level_of e.level level (passing e t.1).level) t.0 refl)

-- The state that is reset passes, where that is not refused.
pub cleared_ready : (e : Estimator) → (cleared e).reply ≡ done → Ready (cleared e).estimator
unfolding cleared
cleared_ready e h =
    let t = (both_pass true (passes e) h).1 in
    let p = passing e t in
    rw t (ready (of_bits binary32 0x0000_0000) e.samples e.part level_zero p.samples p.part)
