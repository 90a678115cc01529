-- The state of the limiter, and what each call answers, refusals first. Definitions only.
use Rattle.std.specs.Prelude.{Bool, true, ◌&&◌, cond, List, [], ◌∷◌, ℕ, eqb, get_or, Float}
use Rattle.std.specs.Float.{nan, binary32}
use Rattle.std.specs.Float.Ieee.{of_bits}
use Rattle.units.specs.Ranges.{inside}
use Rattle.units.specs.Replies.{done, refusal}
use Rattle.frames.specs.Shape.{is_samples}
use Rattle.frames.specs.Samples.{largest_level}
use Rattle.frames.specs.Refusal.{frame_refusal}
use Rattle.frames.specs.Parts.{each_part}
use Rattle.interpolated_gain_curve.specs.declared.Curve.{Curve}
use Rattle.interpolated_gain_curve.specs.Curve as Curves
use Rattle.fixed_digital_level_estimator.specs.declared.Estimator.{Estimator}
use Rattle.fixed_digital_level_estimator.specs.Estimator as Estimators
use Rattle.limiter.specs.Factors.{factors, limited}
use Rattle.limiter.specs.declared.Limiter.{Limiter}
use Rattle.units.specs.declared.kinds.LinearS16.{LinearS16}

-- a reply's number, and the limiter that goes on from there: the one that came in where it is refused, and all 0, false and identity where it is a new one
pub record Next : Type 0 where
  pub reply : ℕ
  pub limiter : Limiter

-- a reply's number, and a level: 0 where it is refused
pub record Heard : Type 0 where
  pub reply : ℕ
  pub level : LinearS16

-- "carried factor above 0, below 2"
abbrev pub carried_factor : Float → Bool
carried_factor x = inside (of_bits binary32 0x0000_0000) x (of_bits binary32 0x4000_0000)

unfoldable pub passes : Limiter → Bool
unfolding Estimators.passes Curves.passes
passes l = Estimators.passes l.estimator && Curves.passes l.curve && carried_factor l.carried

-- ---- the gains of the twenty levels, and the curve after them
unfoldable pub gains_of : Curve → List Float → List Float
unfolding Curves.looked
gains_of c [] = []
gains_of c (level ∷ levels) = (Curves.looked c level).gain ∷ gains_of (Curves.looked c level).curve levels

unfoldable pub curve_after : Curve → List Float → Curve
unfolding Curves.looked
curve_after c [] = c
curve_after c (level ∷ levels) = curve_after (Curves.looked c level).curve levels

-- ---- new, and other samples
-- all fields 0, false and identity
unfoldable pub none : Limiter
unfolding Estimators.none Curves.fresh
none = record { estimator = Estimators.none; curve = Curves.fresh; carried = of_bits binary32 0x0000_0000 }

-- a new limiter carries the factor 1
unfoldable pub starting : ℕ → Limiter
unfolding Estimators.sized_to Estimators.none Curves.fresh
starting samples = record { estimator = Estimators.sized_to Estimators.none samples; curve = Curves.fresh; carried = of_bits binary32 0x3f80_0000 }

unfoldable pub made : ℕ → Next
unfolding refusal is_samples starting none
made samples = record { reply = refusal (is_samples samples) true true true; limiter = cond (is_samples samples) (starting samples) none }

-- with another estimator
unfoldable pub hearing : Limiter → Estimator → Limiter
hearing l e = record { estimator = e; curve = l.curve; carried = l.carried }

unfoldable pub changed : Limiter → ℕ → Next
unfolding refusal passes is_samples hearing Estimators.sized_to
changed l samples =
    record {
      reply = refusal (is_samples samples) (passes l) true true;
      limiter = cond (is_samples samples && passes l) (hearing l (Estimators.sized_to l.estimator samples)) l;
    }

-- "Reset clears only the envelope state: the carried factor and counts stay."
unfoldable pub cleared : Limiter → Next
unfolding refusal passes hearing
cleared l = record { reply = refusal true (passes l) true true; limiter = cond (passes l) (hearing l (record { level = of_bits binary32 0x0000_0000; samples = l.estimator.samples; part = l.estimator.part })) l }

unfoldable pub heard : Limiter → Heard
unfolding refusal passes
heard l = record { reply = refusal true (passes l) true true; level = record { 0 = cond (passes l) l.estimator.level (of_bits binary32 0x0000_0000) } }

-- ---- a frame
-- the envelope of a frame, and the gains of its twenty levels
unfoldable pub levels_of : Limiter → List Float → ℕ → List Float
unfolding Estimators.envelope_of
levels_of l frame channels = Estimators.envelope_of l.estimator channels frame

-- the limiter after a frame with these levels
unfoldable pub after : Limiter → List Float → Limiter
unfolding Estimators.heard_up_to curve_after gains_of
after l levels =
    record {
      estimator = Estimators.heard_up_to l.estimator levels;
      curve = curve_after l.curve levels;
      carried = get_or (gains_of l.curve levels) 19 nan;
    }

-- a call over a lent frame: what it answers, and the frame as it leaves it
pub record Processed : Type 0 where
  pub next : Next
  pub frame : List Float

unfoldable pub processed : Limiter → List Float → ℕ → ℕ → Processed
unfolding frame_refusal passes levels_of after gains_of factors limited each_part
processed l frame channels samples =
    let reply = frame_refusal frame channels samples (eqb samples l.estimator.samples) (passes l) true largest_level in
    let levels = levels_of l frame channels in
    record {
      next = record { reply = reply; limiter = cond (eqb reply done) (after l levels) l };
      frame = cond (eqb reply done) (each_part (limited (factors l.estimator.part l.carried (gains_of l.curve levels))) channels samples frame) frame;
    }
