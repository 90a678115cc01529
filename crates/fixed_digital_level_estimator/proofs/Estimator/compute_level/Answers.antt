-- `Estimator::compute_level` meets its contract: where the reply is 0 the peaks are raised and smoothed, and the last value is the state. The samples are looked
-- at only where the shape and the state pass, and no reply depends on them elsewhere. Assumes nothing.
use mathlib.Core.Bool.{Bool, true, false, cond, ◌&&◌}
use mathlib.Core.List.{List, [], ◌∷◌}
use mathlib.Core.Path.{◌≡◌, refl, sym, ap, ◌∙◌}
use Prim.Native.Nat.{ℕ, ◌*◌, ◌<◌}
use native.Mathlib.Omega.{arith}
use lib.Dec.{eqb}
use lib.Ieee.{Float}
use lib.ListN.{length, get_or}
use borrow.Author.Tests.{eqb-true}
use Rattle.std.specs.Prelude.{Result, Ok, Err, Some, None}
use Rattle.std.specs.Result.{IsErrAnd}
use Rattle.std.proofs.lemmas.Result.{err_from_is_err_and}
use Rattle.units.specs.declared.refusals.Refusal.{Refusal}
use Rattle.units.specs.declared.refusals.Refusal.TheVariants.{Sample}
use Rattle.fixed_digital_level_estimator.specs.declared.Levels.{Levels}
use Rattle.units.specs.Replies.{refusal}
use Rattle.units.specs.Laws.Replies.{none_refused}
use Rattle.units.specs.Handed.{handed, refusal_of}
use Rattle.units.specs.Laws.Handed.{refused_by, passed_done}
use Rattle.units.specs.declared.kinds.LinearS16.{LinearS16}
use Rattle.frames.specs.Refusal.{frame_refusal}
use Rattle.frames.specs.Shape.{is_shape}
use Rattle.frames.specs.Samples.{largest_level, all_within}
use Rattle.lists.specs.Tests.{each_of}
use Rattle.frames.specs.Facts.{shape_facts}
use Rattle.fixed_digital_level_estimator.specs.declared.Estimator.{Estimator}
use Rattle.fixed_digital_level_estimator.specs.Envelope.{silence, peaks_over, raised, smoothed, linear}
use Rattle.fixed_digital_level_estimator.specs.Estimator.{computed, told, envelope_of, heard_up_to, passes}
use Rattle.fixed_digital_level_estimator.specs.Laws.Lengths.{envelope_length}
use Rattle.fixed_digital_level_estimator.specs.Laws.Kinds.{linear_at}
use Rattle.fixed_digital_level_estimator.specs.Laws.Accepted.{passing, refused_early}
use Rattle.fixed_digital_level_estimator.proofs.Estimator.compute_level.Goals as goal

module _ (e : Estimator) (frame : List Float) (channels samples : ℕ) where
  abbrev shape : Bool
  shape = is_shape channels samples (length frame) && eqb samples e.samples

  -- the reply of a frame
  replied : refusal shape (passes e) true (all_within largest_level frame) ≡ (computed e frame channels samples).reply
  unfolding computed frame_refusal
  replied = refl

  -- a frame that gets so far has the shape that its peaks ask for
  shaped : shape ≡ true → passes e ≡ true → (length frame ≡ channels * samples) × (samples ≡ 20 * e.part) × (0 < samples)
  shaped t p =
      let s = each_of (is_shape channels samples (length frame) ∷ eqb samples e.samples ∷ []) t in
      let known = shape_facts channels samples (length frame) (s 0) in
      let least = known.0.each.least in
      (known.1, eqb-true samples e.samples (s 1) ∙ (passing e p).whole, omega arith)

  -- one that is taken
  taken : shape ≡ true → passes e ≡ true → all_within largest_level frame ≡ true → (envelope : List LinearS16) (d : LinearS16)
      → envelope ≡ linear (smoothed e.level (raised (peaks_over channels samples e.part silence frame)))
      → Ok (record { estimator = record { level = (get_or envelope 19 d).0; samples = e.samples; part = e.part }; envelope = envelope })
      ≡ handed (computed e frame channels samples).reply (told (computed e frame channels samples))
  unfolding computed frame_refusal heard_up_to envelope_of refusal handed
  taken s p w envelope d h =
      let same = eqb-true samples e.samples (each_of (is_shape channels samples (length frame) ∷ eqb samples e.samples ∷ []) s 1) in
      let whole : envelope ≡ linear (envelope_of e channels frame) = rw (h, same) in
      let all = envelope_length e channels frame in
      rw (s, p, w, whole, linear_at (envelope_of e channels frame) 19 d e.level (omega arith))

pub returns-in_err-check : goal.returns-in_err-check
returns-in_err-check c =
    let a = c.args in
    let test = shape a.self a.frame.now a.channels a.samples in
    let h = rw (c.is_shape.ensures, c.passes.ensures) at c.in_err-check.ensures in
    let all = told (computed a.self a.frame.now a.channels a.samples) in
    refused_by _ _ _ tt all c.from_residual.ensures.1 h
    ∙ refused_early test (passes a.self) (all_within largest_level a.frame.now) _ all h
    ∙ ap (λ (n : ℕ). handed n all) (replied a.self a.frame.now a.channels a.samples)

pub frame_peaks-requires : goal.frame_peaks-requires
frame_peaks-requires c =
    let a = c.args in
    let test = shape a.self a.frame.now a.channels a.samples in
    let t = none_refused test (passes a.self) true true (passed_done _ _ _ (rw (c.is_shape.ensures, c.passes.ensures) at c.in_ok-check.ensures)) in
    shaped a.self a.frame.now a.channels a.samples t.0 t.1

-- what the peaks show of the samples
found : (within : Bool) (want peaks : List Float) → Some peaks ≡ cond within (Some want) None → (within ≡ true) × (peaks ≡ want)
found true want peaks h = (refl, cc)
found false want peaks h = absurd (cc)

lost : (within : Bool) (want : List Float) → None ≡ cond within (Some want) None → within ≡ false
lost true want h = absurd (cc)
lost false want h = refl

-- one with a sample that is refused
dropped : (e : Estimator) (frame : List Float) (channels samples : ℕ) → shape e frame channels samples ≡ true → passes e ≡ true → all_within largest_level frame ≡ false
    → (r : Result Levels Refusal) (d : Refusal) → IsErrAnd r (λ x. x ≡ d) → d ≡ Sample
    → r ≡ handed (computed e frame channels samples).reply (told (computed e frame channels samples))
unfolding computed frame_refusal refusal handed refusal_of
dropped e frame channels samples s p w r d h k =
    let a = err_from_is_err_and r h in
    rw (s, p, w) (a.1 ∙ ap Err (a.2 ∙ k))

pub returns-in_err-peaks : goal.returns-in_err-peaks
returns-in_err-peaks c =
    let a = c.args in
    let test = shape a.self a.frame.now a.channels a.samples in
    let t = none_refused test (passes a.self) true true (passed_done _ _ _ (rw (c.is_shape.ensures, c.passes.ensures) at c.in_ok-check.ensures)) in
    let peaks = c.in_err-peaks.ensures.ok_part in
    let told = rw peaks at c.in_err-peaks.ensures.value in
    dropped a.self a.frame.now a.channels a.samples t.0 t.1 (lost _ _ (sym peaks ∙ c.frame_peaks.ensures)) _ _ c.from_residual-in_err-peaks.ensures.1 (cc told)

pub returns : goal.returns
returns c =
    let a = c.args in
    let test = shape a.self a.frame.now a.channels a.samples in
    let t = none_refused test (passes a.self) true true (passed_done _ _ _ (rw (c.is_shape.ensures, c.passes.ensures) at c.in_ok-check.ensures)) in
    let peaks = found _ _ _ (sym c.in_ok-peaks.ensures.ok_part ∙ c.frame_peaks.ensures) in
    taken a.self a.frame.now a.channels a.samples t.0 t.1 peaks.0 c.smooth-envelope.result _ (rw (← peaks.1, ← c.raise.ensures) c.smooth-envelope.ensures)
