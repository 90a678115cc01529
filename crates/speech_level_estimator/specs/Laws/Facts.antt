-- What an average that passes has passed, in whole units, and that this is all it takes. The code's test of an average is the definition's. Laws.
-- Assumes nothing.
use Rattle.std.specs.Prelude.{◌≡◌, ℕ, ◌+◌, ◌-◌, ◌*◌, ◌%◌, ◌^◌, ◌<◌, ◌≤◌, Bool, true, false, ◌&&◌, T, ◌⊎◌, [], ◌∷◌, pos, ◌==◌, nat_le, refl, Float}
use Rattle.std.proofs.Common.{inl, inr, lt_of_lt_of_le, arith, le-leb, eq-eqb, leb→le, eqb→eq}
use Rattle.std.specs.Float.{binary32, binary64}
use Rattle.std.specs.Float.Ieee.{fits, mul, neg, le, of_bits, of_int}
use Rattle.std.specs.Float.Ieee.Bits.{is_true}
use Rattle.std.specs.Float.Ieee.Fits.{and_i}
use Rattle.std.specs.Float.Ieee.Scale.{finite}
use Rattle.lists.specs.Tests.{each_passed, ◌and◌}
use Rattle.rounding.specs.Units.{U, size, P, N, Number, Value}
use Rattle.rounding.specs.Laws.Exact.{constant_number, whole_number}
use Rattle.rounding.specs.Laws.Order.{le→units, units→le, between}
use Rattle.rounding.specs.Laws.Whole.{U_pos, sides}
use Rattle.floats.specs.Laws.Kinds.{passed as holds}
use Rattle.speech_level_estimator.specs.Average.{time, weighs, sums, passes}
use Rattle.speech_level_estimator.specs.Held.{Held}
use Rattle.speech_level_estimator.specs.declared.Average.{Average}
use Rattle.speech_level_estimator.specs.Laws.Exactly.{most, sums_exact}

abbrev pub one : Float
one = of_bits binary32 0x3f80_0000

-- 1 is U units.
pub one_value : Value one U 0
unfolding P N size U of_bits
one_value = record { number = constant_number 0x3f80_0000 tt; plus = refl; minus = refl }

-- ---- the weight
pub record Weight (w : Float) (left : ℕ) : Type 0 where
  pub number : Number w
  pub none_below : N w ≡ 0
  pub least : U ≤ P w
  pub most : P w ≤ (450 - left) * U

-- what lies from 1 to a number of c units, of p units above zero and n below it
ends : (p n c u a b d e : ℕ) → 0 < u → (p ≡ 0) ⊎ (n ≡ 0) → a ≡ u → b ≡ 0 → d ≡ c → e ≡ 0 → a + n ≤ p + b → p + e ≤ d + n → (n ≡ 0) × (u ≤ p) × (p ≤ c)
ends p n c u a b d e k (inl i) f g h j l m = absurd (omega arith)
ends p n c u a b d e k (inr i) f g h j l m = (i, omega arith, omega arith)

few : (left : ℕ) → 450 - left < 2 ^ 24
few left = omega arith

-- What a weight that passes is, in units.
pub weight_facts : (w : Float) (left : ℕ) → T (fits binary32 w) → T (weighs w left) → Weight w left
weight_facts w left f t =
    let top = of_int binary32 (pos (450 - left)) in
    let v = whole_number (450 - left) (few left) in
    let o = one_value in
    let both = each_passed (le one w ∷ le w top ∷ []) t in
    let a = both 0 in
    let b = both 1 in
    let n = between one top w o.number v.number f a b in
    let e = ends (P w) (N w) ((450 - left) * U) U (P one) (N one) (P top) (N top) U_pos (sides w n).one o.plus o.minus v.plus v.minus (le→units one w o.number n a) (le→units w top n v.number b) in
    record { number = n; none_below = e.0; least = e.1; most = e.2 }

-- And such a weight passes.
pub weight_passes : (w : Float) (left : ℕ) → Weight w left → T (weighs w left)
weight_passes w left h =
    let top = of_int binary32 (pos (450 - left)) in
    let v = whole_number (450 - left) (few left) in
    let o = one_value in
    and_i (le one w) (le w top)
    (units→le one w o.number h.number (low (P one) (N w) (P w) (N one) U o.plus o.minus h.none_below h.least))
    (units→le w top h.number v.number (high (P w) (N top) (P top) (N w) ((450 - left) * U) v.plus v.minus h.none_below h.most))
  where
    low : (a n p b u : ℕ) → a ≡ u → b ≡ 0 → n ≡ 0 → u ≤ p → a + n ≤ p + b
    low a n p b u i j k l = omega arith

    high : (p e d n c : ℕ) → d ≡ c → e ≡ 0 → n ≡ 0 → p ≤ c → p + e ≤ d + n
    high p e d n c i j k l = omega arith

-- ---- the whole test
pub record Passed (a : Average) : Type 0 where
  pub time : a.left ≤ 400
  pub tens : a.left % 10 ≡ 0
  pub weight : Weight a.weight a.left
  pub sum : Number a.sum
  pub small : P a.sum + N a.sum ≤ 151 * P a.weight

-- a number above zero has its units there
above_size : (w : Float) (left : ℕ) → Weight w left → size w ≡ P w
above_size w left h = let s = (sides w h.number).both in let z = h.none_below in omega arith

-- What an average that passes has passed.
pub passed : (a : Average) → Held a → passes a ≡ true → Passed a
unfolding passes
passed a f h =
    let t = each_passed (nat_le a.left 400 ∷ (a.left % 10 == 0) ∷ weighs a.weight a.left ∷ sums a.sum a.weight ∷ []) (holds h) in
    let s = each_passed (finite a.sum ∷ nat_le (size a.sum) (151 * size a.weight) ∷ []) (t 3) in
    let weight = weight_facts a.weight a.left f.weight (t 2) in
    let n : Number a.sum = record { real = s 0; held = f.sum } in
    let small = leb→le (size a.sum) (151 * size a.weight) (s 1) in
    let both = (sides a.sum n).both in
    let all = above_size a.weight a.left weight in
    record { time = leb→le a.left 400 (t 0); tens = eqb→eq (a.left % 10) 0 (t 1); weight = weight; sum = n; small = omega arith }

-- And what has all of that passes.
pub passing : (a : Average) → Passed a → passes a ≡ true
unfolding passes
passing a p =
    let both = (sides a.sum p.sum).both in
    let all = above_size a.weight a.left p.weight in
    let few = p.small in
    let small : size a.sum ≤ 151 * size a.weight = omega arith in
    le-leb a.left 400 p.time and eq-eqb (a.left % 10) 0 p.tens
    and is_true (weighs a.weight a.left) (weight_passes a.weight a.left p.weight)
    and (is_true (finite a.sum) p.sum.real and le-leb (size a.sum) (151 * size a.weight) small)

-- ---- the code
-- where the first test fails the second has no say
guarded : (g x y : Bool) → (T g → x ≡ y) → g && x ≡ g && y
guarded true x y h = h tt
guarded false x y h = refl

-- The code's test of an average, whose last part is in f64, is the definition's, also where the weight is out of its range.
pub passes_exact : (a : Average) → Held a
    → time a.left && weighs a.weight a.left && (le a.sum (mul binary64 most a.weight) && le (neg (mul binary64 most a.weight)) a.sum) ≡ passes a
unfolding passes
passes_exact a f =
    let t = time a.left in
    let w = weighs a.weight a.left in
    let b = mul binary64 most a.weight in
    guarded (t && w) (le a.sum b && le (neg b) a.sum) (sums a.sum a.weight)
    (λ (g : T (t && w)).
    let v = weight_facts a.weight a.left f.weight (each_passed (t ∷ w ∷ []) g 1) in
    sums_exact a.sum a.weight f.sum v.number (lt_of_lt_of_le U_pos v.least))
