-- Of a frame that is taken: its factors and its samples are numbers, every sample comes out between -32768 and 32767, and the state passes again, its carried factor above 0 and below 2.
use Rattle.std.specs.Prelude.{◌≡◌, refl, List, [], ◌∷◌, Bool, true, false, ◌||◌, ℕ, suc, ◌*◌, ◌≤◌, T, eqb, length, get_or}
use Rattle.std.proofs.Common.{sym, ◌∙◌, le_of_lt, le_of_eq, le_trans, arith, lit≤}
use Rattle.std.proofs.Math.Path.{ap, subst}
use lib.Ieee.{Float, nan, inf, fin, binary32, of_bits, lt, le, fits}
use Rattle.std.specs.Float.Ieee.Bits.{is_true}
use Rattle.rounding.specs.Units.{Number}
use Rattle.rounding.specs.Laws.Exact.{constant_number}
use Rattle.rounding.specs.Laws.Order.{between, lt→units}
use Rattle.units.specs.Replies.{done}
use Rattle.frames.specs.Refusal.{frame_refusal}
use Rattle.frames.specs.Samples.{largest_level}
use Rattle.floats.specs.Kinds.{magnitude}
use Rattle.floats.specs.Laws.Kinds.{passed}
use Rattle.interpolated_gain_curve.specs.declared.Curve.{Curve}
use Rattle.interpolated_gain_curve.specs.Curve.{Looked}
use Rattle.interpolated_gain_curve.specs.Curve as C
use Rattle.interpolated_gain_curve.specs.Laws.Passes.{accepts, still_passes}
use Rattle.interpolated_gain_curve.specs.Laws.Range.{Gain, gain_in_range}
use Rattle.fixed_digital_level_estimator.specs.Estimator as E
use Rattle.lists.specs.Each.{Each, each_at, each_so}
use Rattle.lists.specs.Tests.{each_passed, ◌and◌}
use Rattle.fixed_digital_level_estimator.specs.Range.{Level, Sound, Held, Ready as EstimatorReady}
use Rattle.fixed_digital_level_estimator.specs.Estimator.{Levels}
use Rattle.fixed_digital_level_estimator.specs.Laws.Range.{samples_level, level_passes}
use Rattle.fixed_digital_level_estimator.specs.Laws.Lengths.{envelope_length}
use Rattle.fixed_digital_level_estimator.specs.Laws.States.{envelope_levels, computed_ready}
use Rattle.limiter.specs.declared.Limiter.{Limiter}
use Rattle.limiter.specs.Limiter.{carried_factor, passes, gains_of, curve_after, levels_of, after}
use Rattle.limiter.specs.Factors.{factors, limited}
use Rattle.frames.specs.Parts.{each_part}
use Rattle.limiter.specs.Scale.{FullScale, Finite, Moderate, Ready}
use Rattle.limiter.specs.Laws.Numbers.{factor_numbers}
use Rattle.limiter.specs.Laws.Taking.{Parts, parts_pass, Fine, fine}
use Rattle.limiter.specs.Laws.FullScale.{factors_long, frame_scale}

-- ---- the gains
-- each level is accepted, so each gain is the curve's
gain_of_lem : (c : Curve) (level : Float) → T (C.passes c) → Level level → Gain (C.looked c level).gain
gain_of_lem c level s h =
    let t = level_passes level h in
    subst Gain (sym (ap (λ (z : Looked). z.gain) (accepts c level s t))) (gain_in_range level h.number.held t)

pub gains_in_range : (c : Curve) (levels : List Float) → T (C.passes c) → Each Level levels → Each Gain (gains_of c levels)
unfolding gains_of Each
gains_in_range c [] s h = tt
gains_in_range c (level ∷ levels) s h = (gain_of_lem c level s h.0, gains_in_range (C.looked c level).curve levels (still_passes c level s) h.1)

gains_long : (c : Curve) (levels : List Float) → length (gains_of c levels) ≡ length levels
unfolding gains_of
gains_long c [] = refl
gains_long c (level ∷ levels) = ap suc (gains_long (C.looked c level).curve levels)

pub curve_passes : (c : Curve) (levels : List Float) → T (C.passes c) → T (C.passes (curve_after c levels))
unfolding curve_after
curve_passes c [] s = s
curve_passes c (level ∷ levels) s = curve_passes (C.looked c level).curve levels (still_passes c level s)

-- ---- a factor above 0 and below 2 is moderate
abbrev nought : Float
nought = of_bits binary32 0x0000_0000

abbrev two : Float
two = of_bits binary32 0x4000_0000

nought_number : Number nought
unfolding of_bits
nought_number = constant_number 0x0000_0000 tt

two_number : Number two
unfolding of_bits
two_number = constant_number 0x4000_0000 tt

moderate : (x : Float) → Number x → T (lt nought x) → T (lt x two) → Moderate x
moderate x n a b = record { number = n; above = le_of_lt (lt→units nought x nought_number n a); below = le_of_lt (lt→units x two n two_number b) }

gains_moderate : (xs : List Float) → Each Gain xs → Each Moderate xs
unfolding Each
gains_moderate [] h = tt
gains_moderate (x ∷ xs) h = (moderate x h.0.number h.0.above h.0.below, gains_moderate xs h.1)

lt→le : (x y : Float) → T (lt x y) → T (le x y)
unfolding le
lt→le x y t = go (lt x y) (lib.Ieee.eq x y) t
  where
    go : (a b : Bool) → T a → T (a || b)
    go true b t = tt
    go false b t = absurd t

carried_moderate : (x : Float) → T (fits binary32 x) → carried_factor x ≡ true → Moderate x
carried_moderate x f h =
    let p = each_passed (lt nought x ∷ lt x two ∷ []) (passed h) in
    moderate x (between nought two x nought_number two_number f (lt→le nought x (p 0)) (lt→le x two (p 1))) (p 0) (p 1)

-- a sample whose magnitude is a number is one
sample_finite : (x : Float) → Sound x → Finite x
unfolding magnitude
sample_finite nan h = h.number.real
sample_finite (inf s) h = h.number.real
sample_finite (fin s m e) h = tt

-- ---- a frame that is taken
module _ (l : Limiter) (frame : List Float) (channels samples : ℕ) (ready : Ready l) (held : Held frame)
    (taken_it : frame_refusal frame channels samples (eqb samples l.estimator.samples) (passes l) true largest_level ≡ done) where
  facts : Fine l frame channels samples
  facts = fine l frame channels samples taken_it

  pub levels : Each Level (levels_of l frame channels)
  unfolding levels_of
  levels = envelope_levels l.estimator frame channels samples ready.level held facts.estimator

  parts : Parts l
  parts = parts_pass l ready.state

  gains : Each Gain (gains_of l.curve (levels_of l frame channels))
  gains = gains_in_range l.curve (levels_of l frame channels) (passed parts.curve) levels

  twenty : length (gains_of l.curve (levels_of l frame channels)) ≡ 20
  unfolding levels_of
  twenty = gains_long l.curve (levels_of l frame channels) ∙ envelope_length l.estimator channels frame

  -- every factor is a number, and so is every sample
  pub factors_finite : Each Finite (factors l.estimator.part l.carried (gains_of l.curve (levels_of l frame channels)))
  factors_finite =
      let f = facts in
      let gs = gains_of l.curve (levels_of l frame channels) in
      let carried = carried_moderate l.carried ready.carried parts.carried in
      each_so Number Finite (λ (x : Float) (n : Number x). n.real) _
      (factor_numbers l.estimator.part (le_trans (lit≤ tt) f.some) f.small l.carried gs carried (gains_moderate gs gains))

  pub samples_finite : Each Finite frame
  samples_finite = each_so Sound Finite sample_finite frame (samples_level frame held facts.sound)

  -- every sample comes out between -32768 and 32767
  pub full_scale_lem : FullScale (each_part (limited (factors l.estimator.part l.carried (gains_of l.curve (levels_of l frame channels)))) channels samples frame)
  full_scale_lem =
      let f = facts in
      let gs = gains_of l.curve (levels_of l frame channels) in
      let p = l.estimator.part in
      let n = factors_long p l.carried gs in
      frame_scale (factors p l.carried gs) factors_finite channels samples (room (length (factors p l.carried gs)) (length gs) p samples n twenty f.parts) frame samples_finite f.long
    where
      room : (a n p s : ℕ) → a ≡ n * p → n ≡ 20 → s ≡ 20 * p → s ≤ a
      room a n p s i j k = subst (λ (z : ℕ). s ≤ z) (sym (i ∙ ap (λ (z : ℕ). z * p) j)) (le_of_eq k)

  -- the carried factor stays above 0 and below 2
  pub carried_stays : Gain (after l (levels_of l frame channels)).carried
  unfolding after
  carried_stays = each_at Gain (gains_of l.curve (levels_of l frame channels)) nan 19 (omega (arith, twenty)) gains

  -- the state after it passes
  pub after_ready : Ready (after l (levels_of l frame channels))
  unfolding after passes
  after_ready =
      let f = facts in
      let e : (E.computed l.estimator frame channels samples).reply ≡ done = ap (λ (z : Levels). z.reply) f.found in
      let r = subst EstimatorReady (ap (λ (z : Levels). z.estimator) f.found) (computed_ready l.estimator frame channels samples ready.level held e) in
      let c = curve_passes l.curve (levels_of l frame channels) (passed parts.curve) in
      let g = carried_stays in
      record {
        level = r.held;
        carried = g.number.held;
        state =
            r.state and is_true (C.passes (curve_after l.curve (levels_of l frame channels))) c
            and (is_true (lt nought (get_or (gains_of l.curve (levels_of l frame channels)) 19 nan)) g.above and is_true (lt (get_or (gains_of l.curve (levels_of l frame channels)) 19 nan) two) g.below);
      }
