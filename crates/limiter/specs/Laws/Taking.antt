-- Which frames the limiter takes: its reply from the estimator's, and what a frame that is taken has. Assumes nothing.
use Rattle.std.specs.Prelude.{◌≡◌, refl, Bool, false, ◌&&◌, ◌||◌, List, [], ◌∷◌, ℕ, ◌*◌, ◌/◌, ◌%◌, ◌≤◌, length, get_or, Float}
use Rattle.std.proofs.Common.{sym, ◌∙◌}
use Rattle.std.proofs.Math.Path.{ap}
use Rattle.std.proofs.Math.Bool.{true, cond, and_assoc}
use native.Mathlib.Omega.{arith}
use Rattle.std.proofs.Math.Dec.{eqb}
use Rattle.std.specs.Float.{nan}
use borrow.Author.Tests.{eqb-true}
use Rattle.lists.specs.Tests.{each_of}
use Rattle.units.specs.Replies.{done, refusal}
use Rattle.units.specs.Figures.{curve_level}
use Rattle.frames.specs.Shape.{is_shape, is_samples}
use Rattle.frames.specs.Samples.{all_within, largest_level}
use Rattle.frames.specs.Refusal.{frame_refusal}
use Rattle.frames.specs.Facts.{taken, not_refused, shape_facts}
use Rattle.fixed_digital_level_estimator.specs.Estimator.{Levels}
use Rattle.fixed_digital_level_estimator.specs.Estimator as E
use Rattle.fixed_digital_level_estimator.specs.Envelope.{linear, plain}
use Rattle.fixed_digital_level_estimator.specs.Laws.Kinds.{plain_linear}
use Rattle.interpolated_gain_curve.specs.Curve as C
use Rattle.limiter.specs.declared.Limiter.{Limiter}
use Rattle.interpolated_gain_curve.specs.declared.Curve.{Curve}
use Rattle.frames.specs.Parts.{each_part}
use Rattle.limiter.specs.Factors.{factors, limited}
use Rattle.limiter.specs.Limiter.{carried_factor, passes, levels_of, gains_of, curve_after, after}

-- the estimator's reply is the limiter's, but where another part of the state fails
merged : (b e r w : Bool) → cond ((e && r) || eqb (refusal b e true w) 1) (refusal b e true w) 4 ≡ refusal b (e && r) true w
unfolding refusal
merged true true true true = refl
merged true true true false = refl
merged true true false true = refl
merged true true false false = refl
merged true false r true = refl
merged true false r false = refl
merged false true true w = refl
merged false true false w = refl
merged false false r w = refl

-- what a state that passes has passed
pub record Parts (l : Limiter) : Type 0 where
  pub estimator : E.passes l.estimator ≡ true
  pub curve : C.passes l.curve ≡ true
  pub carried : carried_factor l.carried ≡ true

-- A state that passes has passed each of the three tests.
pub parts_pass : (l : Limiter) → passes l ≡ true → Parts l
unfolding passes
parts_pass l h =
    let p = each_of (_ ∷ _ ∷ _ ∷ []) h in
    record { estimator = p 0; curve = p 1; carried = p 2 }

module _ (l : Limiter) (frame : List Float) (channels samples : ℕ) where
  -- the state's test, with the estimator's first
  split : passes l ≡ E.passes l.estimator && (C.passes l.curve && carried_factor l.carried)
  unfolding passes
  split = and_assoc (E.passes l.estimator) (C.passes l.curve) (carried_factor l.carried)

  pub reply_is : cond (passes l || eqb (E.computed l.estimator frame channels samples).reply 1) (E.computed l.estimator frame channels samples).reply 4
      ≡ frame_refusal frame channels samples (eqb samples l.estimator.samples) (passes l) true largest_level
  unfolding E.computed frame_refusal
  reply_is =
      let b = is_shape channels samples (length frame) && eqb samples l.estimator.samples in
      let first = refusal b (E.passes l.estimator) true (all_within largest_level frame) in
      let rest = C.passes l.curve && carried_factor l.carried in
      ap (λ (z : Bool). cond (z || eqb first 1) first 4) split
      ∙ merged b (E.passes l.estimator) rest (all_within largest_level frame)
      ∙ ap (λ (z : Bool). refusal b z true (all_within largest_level frame)) (sym split)

  -- what a frame that is taken has
  pub record Fine : Type 0 where
    pub most : samples ≤ 480
    pub long : length frame ≡ channels * samples
    pub parts : samples ≡ 20 * l.estimator.part
    pub some : 2 ≤ l.estimator.part
    pub small : l.estimator.part ≤ 24
    pub settings : passes l ≡ true
    pub estimator : frame_refusal frame channels samples (eqb samples l.estimator.samples) (E.passes l.estimator) true largest_level ≡ done
    pub sound : all_within largest_level frame ≡ true
    pub found : E.computed l.estimator frame channels samples
        ≡ record { reply = done; estimator = E.heard_up_to l.estimator (levels_of l frame channels); envelope = linear (levels_of l frame channels) }

  pub fine : frame_refusal frame channels samples (eqb samples l.estimator.samples) (passes l) true largest_level ≡ done → Fine
  unfolding E.computed E.passes levels_of
  fine h =
      let t = taken frame channels samples (eqb samples l.estimator.samples) (passes l) true largest_level h in
      let s = shape_facts channels samples (length frame) t.shape in
      let est = E.passes l.estimator in
      let ok : est ≡ true = (parts_pass l t.settings).estimator in
      let equal : samples ≡ l.estimator.samples = eqb-true samples l.estimator.samples t.same in
      let part : l.estimator.part ≡ l.estimator.samples / 20 =
      eqb-true l.estimator.part (l.estimator.samples / 20) (each_of (curve_level l.estimator.level ∷ is_samples l.estimator.samples ∷ _ ∷ []) ok 2)
      in
      let again : frame_refusal frame channels samples (eqb samples l.estimator.samples) est true largest_level ≡ done =
      not_refused frame channels samples (eqb samples l.estimator.samples) est true largest_level (record { shape = t.shape; same = t.same; settings = ok; figures = refl; sound = t.sound })
      in
      let most = s.0.each.most in
      let whole = s.0.each.whole in
      record {
        most = most;
        long = s.1;
        parts = twentieth samples l.estimator.samples l.estimator.part equal part whole;
        some = enough samples l.estimator.samples l.estimator.part equal part s.0.each.least;
        small = few samples l.estimator.samples l.estimator.part equal part most;
        settings = t.settings;
        estimator = again;
        sound = t.sound;
        found = rw again;
      }
    where
      twentieth : (s n p : ℕ) → s ≡ n → p ≡ n / 20 → s % 20 ≡ 0 → s ≡ 20 * p
      twentieth s n p a b c = omega arith

      enough : (s n p : ℕ) → s ≡ n → p ≡ n / 20 → 40 ≤ s → 2 ≤ p
      enough s n p a b c = omega arith

      few : (s n p : ℕ) → s ≡ n → p ≡ n / 20 → s ≤ 480 → p ≤ 24
      few s n p a b c = omega arith

  -- the factors that the steps give
  pub factors_are : (v : Levels) (gains by : List Float)
      → v ≡ record { reply = done; estimator = E.heard_up_to l.estimator (levels_of l frame channels); envelope = linear (levels_of l frame channels) }
      → gains ≡ gains_of l.curve (plain v.envelope)
      → by ≡ factors l.estimator.part l.carried gains
      → by ≡ factors l.estimator.part l.carried (gains_of l.curve (levels_of l frame channels))
  factors_are v gains by e g b = cc (plain_linear (levels_of l frame channels))

  -- what each step gives, joined
  pub joined : (v : Levels) (gains : List Float) (curve : Curve) (by out : List Float)
      → v ≡ record { reply = done; estimator = E.heard_up_to l.estimator (levels_of l frame channels); envelope = linear (levels_of l frame channels) }
      → gains ≡ gains_of l.curve (plain v.envelope)
      → curve ≡ curve_after l.curve (plain v.envelope)
      → by ≡ factors l.estimator.part l.carried gains
      → out ≡ each_part (limited by) channels samples frame
      → (◌≡◌ {A = Limiter} (record { estimator = v.estimator; curve = curve; carried = get_or gains 19 nan }) (after l (levels_of l frame channels)))
      × (out ≡ each_part (limited (factors l.estimator.part l.carried (gains_of l.curve (levels_of l frame channels)))) channels samples frame)
  unfolding after
  joined v gains curve by out e g c b o =
      let numbers = plain_linear (levels_of l frame channels) in
      (cc, cc)
