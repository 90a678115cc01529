-- A new curve passes its test, and so does every state that an accepted look-up answers.
use Rattle.std.specs.Prelude.{◌≡◌, ℕ, Bool, true, false, cond, ◌&&◌, T, ℤ, pos, negsuc, ◌==◌, nat_le, Float}
use Rattle.std.specs.Float.Ieee.{lt}
use Rattle.std.specs.Float.Ieee.Bits.{is_true}
use Rattle.std.specs.Float.Ieee.Fits.{and_i, and_r}
use Rattle.floats.specs.Laws.Kinds.{passed}
use Rattle.units.specs.Figures.{curve_level}
use Rattle.units.specs.Replies.{done, refusal}
use Rattle.units.specs.Laws.Replies.{none_refused}
use Rattle.interpolated_gain_curve.specs.Gain.{region_of, gain_of, saturation, first_knot, knee_end, largest_level}
use Rattle.interpolated_gain_curve.specs.Curve.{fresh, passes, not_negative, longer, lasting, in_region, looked}
use Rattle.interpolated_gain_curve.specs.declared.Curve.{Curve}

-- A new curve passes.
pub fresh_passes : T (passes fresh)
unfolding passes fresh not_negative
fresh_passes = tt

-- ---- the step keeps the test
-- a level's region is one of the four
pub region_is_one : (level : Float) → T (nat_le (region_of level) saturation)
unfolding region_of
region_is_one level = go (lt level first_knot) (lt level knee_end) (lt level largest_level)
  where
    go : (a b c : Bool) → T (nat_le (cond a 0 (cond b 1 (cond c 2 3))) 3)
    go true b c = tt
    go false true c = tt
    go false false true = tt
    go false false false = tt

longer_passes : (d : ℤ) → T (not_negative d) → T (not_negative (longer d))
unfolding not_negative longer
longer_passes (pos n) t = tt
longer_passes (negsuc n) t = t

lasting_passes : (now before : ℕ) (d : ℤ) → T (not_negative d) → T (not_negative (lasting now before d))
unfolding not_negative lasting
lasting_passes now before d t = go (now == before)
  where
    go : (b : Bool) → T (not_negative (cond b (longer d) (pos 0)))
    go true = longer_passes d t
    go false = tt

-- A passing state passes after a level of any region.
pub step_passes : (c : Curve) (level : Float) → T (passes c) → T (passes (in_region c (region_of level)))
unfolding passes in_region
step_passes c level t =
    and_i (nat_le (region_of level) saturation) (not_negative (lasting (region_of level) c.region c.duration)) (region_is_one level)
    (lasting_passes (region_of level) c.region c.duration (and_r (nat_le c.region saturation) (not_negative c.duration) t))

-- ---- the calls
-- A passing state still passes after a look-up, accepted or refused.
pub still_passes : (c : Curve) (level : Float) → T (passes c) → T (passes (looked c level).curve)
unfolding looked
still_passes c level t = go (passes c && curve_level level)
  where
    go : (b : Bool) → T (passes (cond b (in_region c (region_of level)) c))
    go true = step_passes c level t
    go false = t

-- the test of a state, and that of a level
pub record Both (a b : Bool) : Type 0 where
  pub state : T a
  pub figure : T b

-- A look-up is accepted only where the state passes and the level lies from 0 to 33554432.
pub accepted : (c : Curve) (level : Float) → (looked c level).reply ≡ done → Both (passes c) (curve_level level)
unfolding looked
accepted c level e =
    let t = none_refused true (passes c) (curve_level level) true e in
    record { state = passed t.1; figure = passed t.2 }

-- And always there: the level is counted, and the gain is its own.
pub accepts : (c : Curve) (level : Float) → T (passes c) → T (curve_level level)
    → looked c level ≡ record { reply = done; curve = in_region c (region_of level); gain = gain_of level }
unfolding looked refusal
accepts c level s f = rw (is_true (passes c) s, is_true (curve_level level) f)

-- Every accepted look-up answers a state that passes.
pub accepted_passes : (c : Curve) (level : Float) → (looked c level).reply ≡ done → T (passes (looked c level).curve)
accepted_passes c level e = still_passes c level (accepted c level e).state
