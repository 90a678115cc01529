-- A test of a sample's magnitude by its square, which takes fewer operations: where the bound is a power of two, x * x is at most the bound's square
-- exactly where the magnitude of x is at most the bound. Rounding keeps the order, and the square of the next f32 above the bound is rounded to
-- more than the bound's square. A NaN, an infinity and a square that is too large for an f32 fail both tests. Laws.
-- Assumes nothing.
use Rattle.std.specs.Prelude.{◌≡◌, ◌⊎◌, Bool, not, ℕ, zero, suc, ◌+◌, ◌*◌, ◌^◌, ◌≤◌, ◌<◌, T, leb, ℤ, pos, Float}
use Rattle.std.proofs.Math.Path.{refl, subst}
use Rattle.std.proofs.Common.{sym, ap, ◌∙◌, inl, inr, le_trans, le_of_eq, mul-pos, mul-le-mul, mul-le-mul_right, mul_right_comm, le_of_mul-le-mul_right, leb→le, lit<, pow-add, pow_pos}
use Rattle.std.proofs.Math.Bool.{true, false}
use Rattle.std.proofs.lemmas.Bool.{false≢true}
use Rattle.std.proofs.Math.Nat.{mul-mul-mul_comm}
use native.Mathlib.Omega.{arith}
use Rattle.std.proofs.Math.Dec.{nleb→lt}
use Rattle.std.specs.Float.Ieee.{nan, fin, of_bits, round, mul, le, lt, eq, fits, up, down, size as bits}
use Rattle.std.specs.Float.{inf, binary32}
use Rattle.std.specs.Float.Ieee.Order.{round_mono}
use Rattle.std.specs.Float.Ieee.Positive.{positive, between, le_trans_positive, den_pos}
use borrow.Author.Tests.{eqb-true}
use Rattle.rounding.specs.Units.{U, size, P, N, Number, Value}
use Rattle.rounding.specs.Laws.Whole.{U_pos, sides, whole, digits_of}
use Rattle.rounding.specs.Laws.Gaps.{next_up}
use Rattle.rounding.specs.Laws.Same.{same_number}
use Rattle.rounding.specs.Laws.Order.{same_test, eq_units, le→units, units→le}
use Rattle.rounding.specs.Laws.Exact.{constant_number}
use Rattle.floats.specs.Kinds.{magnitude}
use Rattle.frames.specs.Samples.{largest_input, largest_level, within}

-- the test by the square is the test by the bound, for each f32
unfoldable pub Squares : Float → Float → Type 0
unfolding within
Squares bound square = (x : Float) → T (fits binary32 x) → le (mul binary32 x x) square ≡ within bound x

-- the squares of the two bounds
abbrev pub input_square : Float
input_square = of_bits binary32 0x4f80_0000

abbrev pub level_square : Float
level_square = of_bits binary32 0x5880_0000

-- the next f32 above 2 ^ k, in units
abbrev beyond : ℕ → ℕ
beyond k = (2 ^ 23 + 1) * 2 ^ (k + 126)

-- ---- the square of a / d, and the bounds of a / d
-- a / d is S units, and at most B of them: so a is at most b times d, where b is B units
at_most : (a d S b : ℕ) → a * U ≡ S * d → S ≤ b * U → a ≤ b * d
at_most a d S b h l =
    le_of_mul-le-mul_right (le_trans (le_of_eq h) (le_trans (mul-le-mul_right d l) (le_of_eq (mul_right_comm b U d)))) U_pos

square_at_most : (a d b : ℕ) → a ≤ b * d → a * a * 1 ≤ b * b * (d * d)
square_at_most a d b h = le_trans (le_of_eq (one (a * a))) (le_trans (mul-le-mul h h) (le_of_eq (mul-mul-mul_comm b d b d)))
  where
    one : (n : ℕ) → n * 1 ≡ n
    one n = omega arith

square_at_least : (a d S n : ℕ) → a * U ≡ S * d → n ≤ S → n * n * (d * d) ≤ a * a * (U * U)
square_at_least a d S n h l =
    let one : n * d ≤ a * U = le_trans (mul-le-mul_right d l) (le_of_eq (sym h)) in
    le_trans (le_of_eq (mul-mul-mul_comm n n d d)) (le_trans (mul-le-mul one one) (le_of_eq (mul-mul-mul_comm a U a U)))

-- 2 ^ k, with 24 digits
in_digits : (k : ℕ) → 2 ^ k * U ≡ 2 ^ 23 * 2 ^ (k + 126)
unfolding U
in_digits k = sym (pow-add 2 k 149) ∙ ap (λ (z : ℕ). 2 ^ z) (sum k) ∙ pow-add 2 23 (k + 126)
  where
    sum : (k : ℕ) → k + 149 ≡ 23 + (k + 126)
    sum k = omega arith

le_of_not_lt : (a b : ℕ) → (b < a → ⊥) → a ≤ b
le_of_not_lt a b n = go (leb a b) (leb→le a b) (nleb→lt a b)
  where
    go : (c : Bool) → (T c → a ≤ b) → (T (not c) → b < a) → a ≤ b
    go true f g = f tt
    go false f g = absurd (n (g tt))

-- 2 ^ k
abbrev power : ℕ → Float
power k = fin false 1 (pos k)

-- the sign has no part in whether a number fits
pub without_sign : (s : Bool) (m : ℕ) (e : ℤ) → T (fits binary32 (fin s m e)) → T (fits binary32 (fin false m e))
unfolding fits
without_sign s zero e f = f
without_sign s (suc m) e f = f

-- ---- over a bound of 2 ^ k, whose square is an f32, and where the next f32 has a larger one
module _ (k j : ℕ) (value : Value (power k) (2 ^ k * U) 0) (exact : power j ≡ round binary32 false (2 ^ k * 2 ^ k) 1)
    (more : T (positive (round binary32 false (beyond k * beyond k) (U * U)))) (apart : T (le (round binary32 false (beyond k * beyond k) (U * U)) (power j)) → ⊥) where
  abbrev bound : Float
  bound = power k

  abbrev square : Float
  square = power j

  module _ (m : ℕ) (e : ℤ) (t : T (fits binary32 (fin false m e))) where
    abbrev y : Float
    y = fin false m e

    number : Number y
    number = record { real = tt; held = t }

    abbrev r : Float
    r = round binary32 false (m * up e * (m * up e)) (down e * down e)

    P-is : P y ≡ size y
    unfolding P
    P-is = refl

    N-is : N y ≡ 0
    unfolding N
    N-is = refl

    low : T (le y bound) → T (le r square)
    low h =
        let l : size y ≤ 2 ^ k * U = under (P y) (N y) (P bound) (N bound) (size y) (2 ^ k * U) P-is N-is value.plus value.minus (le→units y bound number value.number h) in
        subst (λ (z : Float). T (le r z)) (sym exact)
        (round_mono binary32 (m * up e * (m * up e)) (down e * down e) (2 ^ k * 2 ^ k) 1 (mul-pos (den_pos y) (den_pos y)) (lit< tt)
        (square_at_most (m * up e) (down e) (2 ^ k) (at_most (m * up e) (down e) (size y) (2 ^ k) (whole false m e t) l)))
      where
        under : (p n q o a b : ℕ) → p ≡ a → n ≡ 0 → q ≡ b → o ≡ 0 → p + o ≤ q + n → a ≤ b
        under p n q o a b i j u v l = omega arith

    high : T (le r square) → T (le y bound)
    high h = units→le y bound number value.number (over (P y) (N y) (P bound) (N bound) (size y) (2 ^ k * U) P-is N-is value.plus value.minus not_beyond)
      where
        over : (p n q o a b : ℕ) → p ≡ a → n ≡ 0 → q ≡ b → o ≡ 0 → a ≤ b → p + o ≤ q + n
        over p n q o a b i j u v l = omega arith

        next : 2 ^ k * U < size y → beyond k ≤ size y
        next l =
            let d = digits_of y number in
            let j = next_up (k + 126) (2 ^ 23) d.digits d.zeros d.few (le_of_eq refl) (subst (λ (z : ℕ). z < d.digits * 2 ^ d.zeros) (in_digits k) (subst (λ (z : ℕ). 2 ^ k * U < z) d.are l)) in
            subst (λ (z : ℕ). beyond k ≤ z) (sym d.are) (le_trans (le_of_eq (one (2 ^ 23) (2 ^ (k + 126)))) j)
          where
            one : (m z : ℕ) → (m + 1) * z ≡ m * z + z
            one m z = omega arith

        too_large : 2 ^ k * U < size y → ⊥
        too_large l =
            let c : T (le (round binary32 false (beyond k * beyond k) (U * U)) r) =
            round_mono binary32 (beyond k * beyond k) (U * U) (m * up e * (m * up e)) (down e * down e) (mul-pos U_pos U_pos) (mul-pos (den_pos y) (den_pos y))
            (square_at_least (m * up e) (down e) (size y) (beyond k) (whole false m e t) (next l))
            in
            let p = between (round binary32 false (beyond k * beyond k) (U * U)) r square more tt c h in
            apart (le_trans_positive (round binary32 false (beyond k * beyond k) (U * U)) r square more p tt c h)

        not_beyond : size y ≤ 2 ^ k * U
        not_beyond = le_of_not_lt (size y) (2 ^ k * U) too_large

  squares : Squares (power k) (power j)
  unfolding Squares within magnitude mul le lt eq
  squares nan t = refl
  squares (inf true) t = refl
  squares (inf false) t = refl
  squares (fin true m e) t = same_test (le (r m e (without_sign true m e t)) square) (le (fin false m e) bound) (high m e (without_sign true m e t)) (low m e (without_sign true m e t))
  squares (fin false m e) t = same_test (le (r m e t) square) (le (fin false m e) bound) (high m e t) (low m e t)

-- Into controller or applier: the bound is 65536.
pub squares_input : Squares largest_input input_square
unfolding of_bits
squares_input = squares 16 32 (unfold P N size U in record { number = constant_number 0x4780_0000 tt; plus = refl; minus = refl }) (unfold round bits in refl) (unfold round bits U in tt) (unfold round bits U le lt eq in λ h. h)

-- Into level estimator or limiter: the bound is 33554432.
pub squares_level : Squares largest_level level_square
unfolding of_bits
squares_level = squares 25 50 (unfold P N size U in record { number = constant_number 0x4c00_0000 tt; plus = refl; minus = refl }) (unfold round bits in refl) (unfold round bits U in tt) (unfold round bits U le lt eq in λ h. h)

-- ---- a number that equals a bound is that bound
module _ (k : ℕ) (value : Value (power k) (2 ^ k * U) 0) where
  same_as : (x : Float) → T (fits binary32 x) → eq x (power k) ≡ true → x ≡ power k
  unfolding eq
  same_as nan t h = absurd (false≢true h)
  same_as (inf s) t h = absurd (false≢true h)
  same_as (fin s m e) t h =
      let x = fin s m e in
      let n : Number x = record { real = tt; held = t } in
      let q = eqb-true (P x + N (power k)) (P (power k) + N x) (sym (eq_units x (power k) n value.number) ∙ h) in
      let p : 0 < P (power k) = subst (λ (z : ℕ). 0 < z) (sym value.plus) (mul-pos (pow_pos k) U_pos) in
      let g = split (P x) (N x) (P (power k)) (N (power k)) (sides x n).one value.minus p q in
      same_number x (power k) n value.number g.0 g.1 g.2
    where
      split : (a b c d : ℕ) → (a ≡ 0) ⊎ (b ≡ 0) → d ≡ 0 → 0 < c → a + d ≡ c + b → (a ≡ c) × (b ≡ d) × (0 < a + b)
      split a b c d (inl i) j p q = absurd (omega arith)
      split a b c d (inr i) j p q = (omega arith, omega arith, omega arith)

pub same_input : (x : Float) → T (fits binary32 x) → eq x largest_input ≡ true → x ≡ largest_input
unfolding of_bits
same_input = same_as 16 (unfold P N size U in record { number = constant_number 0x4780_0000 tt; plus = refl; minus = refl })

pub same_level : (x : Float) → T (fits binary32 x) → eq x largest_level ≡ true → x ≡ largest_level
unfolding of_bits
same_level = same_as 25 (unfold P N size U in record { number = constant_number 0x4c00_0000 tt; plus = refl; minus = refl })
