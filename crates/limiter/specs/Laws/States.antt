-- New and every accepted call give a state that passes.
use Rattle.std.specs.Prelude.{◌≡◌, refl, Bool, true, ◌&&◌, cond, List, ℕ, T, Float}
use Rattle.std.proofs.Common.{ap, ap₂, ◌∙◌, subst}
use Rattle.std.specs.Float.{binary32}
use Rattle.std.specs.Float.Ieee.{of_bits, lt, fits}
use Rattle.std.specs.Float.Ieee.Bits.{of_bits-fits}
use Rattle.lists.specs.Tests.{◌and◌}
use Rattle.units.specs.Replies.{done, refusal}
use Rattle.units.specs.Laws.Replies.{none_refused}
use Rattle.frames.specs.Shape.{is_samples}
use Rattle.fixed_digital_level_estimator.specs.Range.{Held, Ready as EstimatorReady}
use Rattle.fixed_digital_level_estimator.specs.declared.Estimator.{Estimator}
use Rattle.fixed_digital_level_estimator.specs.Estimator as E
use Rattle.fixed_digital_level_estimator.specs.Laws.States.{made_ready, changed_ready, cleared_ready}
use Rattle.interpolated_gain_curve.specs.Curve as C
use Rattle.limiter.specs.declared.Limiter.{Limiter}
use Rattle.limiter.specs.Limiter.{carried_factor, passes, processed, made, starting, changed, cleared, hearing}
use Rattle.limiter.specs.Scale.{FullScale, Ready}
use Rattle.limiter.specs.Laws.Taking.{parts_pass}
use Rattle.limiter.specs.Laws.Taken.{full_scale_lem, after_ready}

-- An accepted frame: every sample lies between -32768 and 32767, and the state passes again. Stated of what `process` promises.
module _ (l : Limiter) (frame : List Float) (channels samples : ℕ) (held : Held frame) (ready : Ready l) where
  pub processed_full_scale : (processed l frame channels samples).next.reply ≡ done → FullScale (processed l frame channels samples).frame
  unfolding processed
  processed_full_scale h = rw h (full_scale_lem l frame channels samples ready held h)

  pub processed_ready : (processed l frame channels samples).next.reply ≡ done → Ready (processed l frame channels samples).next.limiter
  unfolding processed
  processed_ready h = rw h (after_ready l frame channels samples ready held h)

-- ---- the other calls
unrefused : refusal true true true true ≡ done
unfolding refusal
unrefused = refl

-- a state whose estimator, curve and carried factor pass
whole_state : (l : Limiter) → EstimatorReady l.estimator → C.passes l.curve ≡ true → T (fits binary32 l.carried) → carried_factor l.carried ≡ true → Ready l
unfolding passes
whole_state l e c f k = record { level = e.held; carried = f; state = e.state and c and k }

starting_estimator : (samples : ℕ) → is_samples samples ≡ true → EstimatorReady (E.sized_to E.none samples)
unfolding E.made
starting_estimator samples t = subst EstimatorReady (ap (λ (b : Bool). cond b (E.sized_to E.none samples) E.none) t) (made_ready samples (ap (λ (b : Bool). refusal b true true true) t ∙ unrefused))

pub made_passes : (samples : ℕ) → (made samples).reply ≡ done → Ready (made samples).limiter
unfolding made starting E.made E.sized_to E.none C.fresh C.passes of_bits lt
made_passes samples h =
    let t = (none_refused (is_samples samples) true true true h).0 in
    rw t (whole_state (starting samples) (starting_estimator samples t) refl (of_bits-fits binary32 0x3f80_0000) refl)

sized_estimator : (e : Estimator) (samples : ℕ) → T (fits binary32 e.level) → is_samples samples ≡ true → E.passes e ≡ true → EstimatorReady (E.sized_to e samples)
unfolding E.changed
sized_estimator e samples v t p =
    subst EstimatorReady (ap₂ (λ (a b : Bool). cond (a && b) (E.sized_to e samples) e) t p)
    (changed_ready e samples v (ap₂ (λ (a b : Bool). refusal a b true true) t p ∙ unrefused))

silent_estimator : (e : Estimator) → E.passes e ≡ true → EstimatorReady (record { level = of_bits binary32 0x0000_0000; samples = e.samples; part = e.part })
unfolding E.cleared
silent_estimator e p =
    subst EstimatorReady (ap (λ (b : Bool). cond b (record { level = of_bits binary32 0x0000_0000; samples = e.samples; part = e.part }) e) p)
    (cleared_ready e (ap (λ (b : Bool). refusal true b true true) p ∙ unrefused))

pub changed_passes : (l : Limiter) (samples : ℕ) → T (fits binary32 l.estimator.level) → T (fits binary32 l.carried) → (changed l samples).reply ≡ done → Ready (changed l samples).limiter
unfolding changed hearing
changed_passes l samples v f h =
    let t = none_refused (is_samples samples) (passes l) true true h in
    let p = parts_pass l t.1 in
    rw (t.0, t.1) (whole_state (hearing l (E.sized_to l.estimator samples)) (sized_estimator l.estimator samples v t.0 p.estimator) p.curve f p.carried)

pub cleared_passes : (l : Limiter) → T (fits binary32 l.estimator.level) → T (fits binary32 l.carried) → (cleared l).reply ≡ done → Ready (cleared l).limiter
unfolding cleared hearing
cleared_passes l v f h =
    let t = (none_refused true (passes l) true true h).1 in
    let p = parts_pass l t in
    rw t (whole_state (hearing l (record { level = of_bits binary32 0x0000_0000; samples = l.estimator.samples; part = l.estimator.part })) (silent_estimator l.estimator p.estimator) p.curve f p.carried)
