-- A frame is as long after a step of the chain as before it. Laws.
-- Assumes nothing.
use Rattle.std.specs.Prelude.{◌≡◌, true, ℕ, suc, eqb, Float}
use Rattle.std.proofs.Math.Path.{refl}
use Rattle.std.proofs.Common.{ap, ◌∙◌}
use mathlib.Core.List.{List, [], ◌∷◌}
use Rattle.std.proofs.Math.ListN.{length}
use Rattle.units.specs.Replies.{done}
use Rattle.units.specs.declared.figures.Figures.{Figures}
use Rattle.frames.specs.Refusal.{frame_refusal}
use Rattle.frames.specs.Samples.{largest_level}
use Rattle.frames.specs.Walk.{each_part_length}
use Rattle.limiter.specs.Factors.{factors, limited}
use Rattle.limiter.specs.Limiter.{passes, gains_of, levels_of, processed}
use Rattle.limiter.specs.declared.Limiter.{Limiter}
use Rattle.speech_level_estimator.specs.Estimator as Level
use Rattle.saturation_protector.specs.Protector as Headroom
use Rattle.adaptive_digital_gain_controller.specs.Controller as Gain
use Rattle.gain_applier.specs.Applier as Applying
use Rattle.chain.specs.Calls.{informed, stepped, refused, called}
use Rattle.chain.specs.Laws.Frames.{either, applied_long}
use Rattle.chain.specs.declared.Chain.{Chain}

limited_long : (fs xs : List Float) → length (limited fs xs) ≡ length xs
unfolding limited
limited_long [] [] = refl
limited_long [] (x ∷ xs) = refl
limited_long (f ∷ fs) [] = refl
limited_long (f ∷ fs) (x ∷ xs) = ap suc (limited_long fs xs)

processed_long : (l : Limiter) (frame : List Float) (channels samples : ℕ) → length (processed l frame channels samples).frame ≡ length frame
unfolding processed
processed_long l frame channels samples =
    let by = factors l.estimator.part l.carried (gains_of l.curve (levels_of l frame channels)) in
    either (λ (xs : List Float). length xs ≡ length frame) (eqb (frame_refusal frame channels samples (eqb samples l.estimator.samples) (passes l) true largest_level) done)
    (each_part_length (limited by) (limited_long by) channels samples frame) refl

module _ (c : Chain) (f : Figures) (frame : List Float) (channels samples : ℕ) where
  stepped_long : length (stepped c f frame channels samples).frame ≡ length frame
  unfolding stepped
  stepped_long =
      let e = Level.updated c.estimator f.rms.0 f.probability in
      let s = Headroom.analyzed c.protector f.probability f.peak.0 e.level in
      let g = Gain.decided c.controller (informed e s f) in
      processed_long c.limiter (Applying.applied g.applier frame channels samples).frame channels samples ∙ applied_long g.applier frame channels samples

  -- What the chain hands out has as many samples as came in.
  pub called_long : length (called c f frame channels samples).frame ≡ length frame
  unfolding called
  called_long = either (λ (xs : List Float). length xs ≡ length frame) (eqb (refused c f frame channels samples) done) stepped_long refl
