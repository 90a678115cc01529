-- What a speech frame brings, in whole units: its probability, its level and the leak. Laws.
-- Assumes nothing.
use Rattle.std.specs.Prelude.{◌≡◌, ℕ, ◌+◌, ◌-◌, ◌*◌, ◌%◌, ◌<◌, ◌≤◌, Bool, true, false, cond, ◌||◌, T, ◌⊎◌, [], ◌∷◌, ◌==◌, ◌≢◌, refl, Float}
use Rattle.std.proofs.Common.{ap, inl, inr, le_of_eq, arith, eqb-true, lit≤}
use Rattle.std.proofs.lemmas.Bool.{eqb-false}
use Rattle.std.specs.Float.{binary32}
use Rattle.std.specs.Float.Ieee.{fits, lt, le, eq, of_bits}
use Rattle.lists.specs.Tests.{each_passed}
use Rattle.rounding.specs.Units.{U, size, P, N, Number, Value}
use Rattle.rounding.specs.Laws.Exact.{constant_number}
use Rattle.rounding.specs.Laws.Order.{le→units, between}
use Rattle.rounding.specs.Laws.Whole.{sides}
use Rattle.floats.specs.Laws.Kinds.{nought}
use Rattle.units.specs.Figures.{probability, rms}
use Rattle.runs.specs.Runs.{speech}
use Rattle.speech_level_estimator.specs.Average.{leak_factor, leak}
use Rattle.speech_level_estimator.specs.Laws.Facts.{one, one_value}
use Rattle.speech_level_estimator.specs.Laws.Near.{u, u_pos}

-- a probability of speech: from 0.95, which is 62259 u and more, to 1
pub record Chance (p : Float) : Type 0 where
  pub number : Number p
  pub none_below : N p ≡ 0
  pub least : 60000 * u ≤ P p
  pub most : P p ≤ U

abbrev least_speech : Float
least_speech = of_bits binary32 0x3f73_3333

least_number : Number least_speech
unfolding of_bits
least_number = constant_number 0x3f73_3333 tt

least_units : (60000 * u ≤ P least_speech) × (N least_speech ≡ 0)
unfolding P N size U u of_bits
least_units = (lit≤ tt, refl)

-- An accepted probability that is speech is such a number.
pub chance : (p : Float) → T (fits binary32 p) → T (speech p) → T (probability p) → Chance p
chance p f s t =
    let o = one_value in
    let b = each_passed (le nought p ∷ le p one ∷ []) t 1 in
    let n = between least_speech one p least_number o.number f s b in
    let low = le→units least_speech p least_number n s in
    let high = le→units p one n o.number b in
    let e = ends (P p) (N p) (P least_speech) (N least_speech) (P one) (N one) u U (sides p n).one least_units.0 least_units.1 o.plus o.minus u_pos low high in
    record { number = n; none_below = e.0; least = e.1; most = e.2 }
  where
    ends : (a n c d e g v w : ℕ) → (a ≡ 0) ⊎ (n ≡ 0) → 60000 * v ≤ c → d ≡ 0 → e ≡ w → g ≡ 0 → 0 < v → c + n ≤ a + d → a + g ≤ e + n → (n ≡ 0) × (60000 * v ≤ a) × (a ≤ w)
    ends a n c d e g v w (inl i) j k l m o x y = absurd (omega arith)
    ends a n c d e g v w (inr i) j k l m o x y = (i, omega arith, omega arith)

-- an rms level: less than 150 from zero
pub record Loud (r : Float) : Type 0 where
  pub number : Number r
  pub most : P r + N r ≤ 150 * U

abbrev lowest : Float
lowest = of_bits binary32 0xc316_0000

abbrev highest : Float
highest = of_bits binary32 0x4248_0000

lowest_value : Value lowest 0 (150 * U)
unfolding P N size U of_bits
lowest_value = record { number = constant_number 0xc316_0000 tt; plus = refl; minus = refl }

highest_value : Value highest (50 * U) 0
unfolding P N size U of_bits
highest_value = record { number = constant_number 0x4248_0000 tt; plus = refl; minus = refl }

below_at_most : (x y : Float) → T (lt x y) → T (le x y)
unfolding le
below_at_most x y t = go (lt x y) t
  where
    go : (b : Bool) → T b → T (b || eq x y)
    go true k = tt
    go false k = absurd k

-- An accepted rms is such a number.
pub loud : (r : Float) → T (fits binary32 r) → T (rms r) → Loud r
loud r f t =
    let both = each_passed (lt lowest r ∷ lt r highest ∷ []) t in
    let a = below_at_most lowest r (both 0) in
    let b = below_at_most r highest (both 1) in
    let v = lowest_value in
    let w = highest_value in
    let n = between lowest highest r v.number w.number f a b in
    record {
      number = n;
      most =
          ends (P r) (N r) (P lowest) (N lowest) (P highest) (N highest) U (sides r n).one v.plus v.minus w.plus w.minus
          (le→units lowest r v.number n a) (le→units r highest n w.number b);
    }
  where
    ends : (p n a b c d o : ℕ) → (p ≡ 0) ⊎ (n ≡ 0) → a ≡ 0 → b ≡ 150 * o → c ≡ 50 * o → d ≡ 0 → a + n ≤ p + b → p + d ≤ c + n → p + n ≤ 150 * o
    ends p n a b c d o (inl i) j k l m x y = omega arith
    ends p n a b c d o (inr i) j k l m x y = omega arith

-- ---- the leak
-- l is the leak, and what the largest weight leaks to, with 1 more, is a weight of the next frame
pub record Leak (l : Float) (left : ℕ) : Type 0 where
  pub number : Number l
  pub none_below : N l ≡ 0
  pub half : U ≤ 2 * P l
  pub most : P l ≤ U
  pub top : ℕ
  pub next : top + 1 ≤ 450 - (left - 10)
  pub kept : (450 - left) * P l ≤ top * U

leak_number : Number leak_factor
unfolding of_bits
leak_number = constant_number 0x3f7f_5c29 tt

leak_units : (N leak_factor ≡ 0) × (U ≤ 2 * P leak_factor) × (P leak_factor ≤ U) × (450 * P leak_factor ≤ 449 * U)
unfolding P N size U of_bits
leak_units = (refl, lit≤ tt, lit≤ tt, lit≤ tt)

-- With no time left the leak is 1 - 1/400, and otherwise 1: it is such a number.
pub leaks : (left : ℕ) → left ≤ 400 → left % 10 ≡ 0 → Leak (leak left) left
leaks left small tens = go (left == 0) refl
  where
    ten : (left ≢ 0) → 10 ≤ left
    ten some = omega arith

    go : (b : Bool) → (left == 0) ≡ b → Leak (cond b leak_factor one) left
    go true e =
        let none : left ≡ 0 = eqb-true left 0 e in
        record {
          number = leak_number;
          none_below = leak_units.0;
          half = leak_units.1;
          most = leak_units.2;
          top = 449;
          next = omega arith;
          kept = rw none leak_units.3;
        }
    go false e =
        let v = one_value in
        let plus = v.plus in
        let more = ten (eqb-false left 0 e) in
        record {
          number = v.number;
          none_below = v.minus;
          half = omega arith;
          most = omega arith;
          top = 450 - left;
          next = omega arith;
          kept = le_of_eq (ap (λ (z : ℕ). (450 - left) * z) plus);
        }
