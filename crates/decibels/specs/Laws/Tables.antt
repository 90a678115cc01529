-- Each entry of the two tables is the f32 nearest to its power: one test over each table, which the checker computes.
use Rattle.std.specs.Prelude.{◌≡◌, ℕ, ◌+◌, ◌-◌, ◌*◌, ◌/◌, ◌^◌, ◌<◌, ◌≤◌, Bool, true, false, ◌&&◌, ◌||◌, T, ltb, leb, ◌⊎◌, map, ◌==◌, nat_eq, nat_le, nat_lt, Float}
use Rattle.std.proofs.Math.Path.{sym, subst}
use Rattle.std.proofs.Common.{ap, ◌∙◌, inl, inr, le_of_eq, lt_of_lt_of_le, one-mul, mul-le-mul_right, add-zero, pow_pos, leb→le, lit<, lit≤}
use Rattle.std.proofs.Math.Nat.{le_trans, pow-le-pow_left}
use native.Mathlib.Omega.{arith}
use Rattle.std.proofs.Math.Dec.{ltb→lt, eqb→eq}
use Rattle.std.specs.Float.{nan}
use Rattle.std.specs.Float.Ieee.{binary32, lt, fits, of_bits, size as bits}
use Rattle.std.specs.Float.Ieee.Fits.{and_l, and_r}
use Rattle.std.specs.Float.Ieee.Scale.{finite}
use Rattle.lists.specs.Table.{at}
use Rattle.rounding.specs.Units.{U, size, P, N, Number}
use Rattle.rounding.specs.Laws.Order.{lt→units}
use Rattle.rounding.specs.Laws.Whole.{sides, digits_of}
use Rattle.rounding.specs.Laws.Gaps.{next_up, next_down}
use Rattle.decibels.specs.Nearest.{Nearest}
use Rattle.decibels.specs.Ratio.{whole_bits, sixteenth_bits, A, B}

-- the power, with both sides doubled and raised
power : ℕ → ℕ → ℕ
power d n = 10 ^ n * (2 * U) ^ d

-- a is a number, and it is either the power itself, or m * 2 ^ k units with 24 digits, and the middles of the gaps beside it are beyond the power
near : ℕ → ℕ → Float → Bool
near d n a =
    let p = P a in
    let k = bits p - 24 in
    let m = p / 2 ^ k in
    let w = power d n in
    (finite a && fits binary32 a && N a == 0 && m * 2 ^ k == p && nat_lt (2 ^ 23 - 1) m)
    && ((p + p) ^ d == w || (nat_lt (2 ^ 23) m && nat_le ((p + p - 2 ^ k) ^ d) w && nat_le w ((p + p + 2 ^ k) ^ d)))

-- ---- the units above zero of any number: 24 digits, and zeros after them
record Digits (y : Float) : Type 0 where
  pub digits : ℕ
  pub zeros : ℕ
  pub few : digits < 2 ^ 24
  pub are : P y ≡ digits * 2 ^ zeros

plus_digits : (y : Float) → Number y → Digits y
plus_digits y h = go (sides y h).one
  where
    go : (P y ≡ 0) ⊎ (N y ≡ 0) → Digits y
    go (inl e) = record { digits = 0; zeros = 0; few = lit< tt; are = e }
    go (inr e) =
        let d = digits_of y h in
        record { digits = d.digits; zeros = d.zeros; few = d.few; are = sym (add-zero (P y)) ∙ ap (λ (z : ℕ). P y + z) (sym e) ∙ (sides y h).both ∙ d.are }

-- a number below one that is above zero has fewer units
fewer : (y a : Float) → Number y → Number a → N a ≡ 0 → 0 < P a → T (lt y a) → P y < P a
fewer y a h k e some t = go (sides y h).one (lt→units y a h k t)
  where
    go : (P y ≡ 0) ⊎ (N y ≡ 0) → P y + N a < P a + N y → P y < P a
    go (inl q) l = omega arith
    go (inr q) l = omega arith

more : (a y : Float) → Number a → Number y → N a ≡ 0 → T (lt a y) → P a < P y
more a y k h e t = let l = lt→units a y k h t in omega arith

-- ---- in whole numbers, with p for the units of a and w for the power
module _ (a : Float) (d n : ℕ) (k m : ℕ) (number : Number a) (none : N a ≡ 0) (are : P a ≡ m * 2 ^ k) (all : 2 ^ 23 ≤ m) where
  some : 0 < P a
  some = subst (λ (z : ℕ). 0 < z) (sym are) (lt_of_lt_of_le (pow_pos k) (le_trans (le_of_eq (sym (one-mul (2 ^ k)))) (mul-le-mul_right (2 ^ k) (le_trans (lit≤ tt) all))))

  at_power : (P a + P a) ^ d ≡ power d n → Nearest d n a
  unfolding power
  at_power e =
      record {
        number = number;
        below = λ (y : Float) (h : Number y) (t : T (lt y a)).
            let l = fewer y a h number none some t in
            le_trans (pow-le-pow_left (low (P y) (P a) l) d) (le_of_eq e);
        above = λ (y : Float) (h : Number y) (t : T (lt a y)).
            let l = more a y number h none t in
            le_trans (le_of_eq (sym e)) (pow-le-pow_left (high (P y) (P a) l) d);
      }
    where
      low : (y p : ℕ) → y < p → y + p ≤ p + p
      low y p l = omega arith

      high : (y p : ℕ) → p < y → p + p ≤ y + p
      high y p l = omega arith

  between : 2 ^ 23 < m → (P a + P a - 2 ^ k) ^ d ≤ power d n → power d n ≤ (P a + P a + 2 ^ k) ^ d → Nearest d n a
  unfolding power
  between odd under over =
      record {
        number = number;
        below = λ (y : Float) (h : Number y) (t : T (lt y a)).
            let l = fewer y a h number none some t in
            let g = plus_digits y h in
            let j = next_down k m g.digits g.zeros g.few odd (subst (λ (z : ℕ). z < m * 2 ^ k) g.are (subst (λ (z : ℕ). P y < z) are l)) in
            let i : P y + 2 ^ k ≤ P a = subst (λ (z : ℕ). P y + 2 ^ k ≤ z) (sym are) (subst (λ (z : ℕ). z + 2 ^ k ≤ m * 2 ^ k) (sym g.are) j) in
            le_trans (pow-le-pow_left (low (P y) (P a) (2 ^ k) i) d) under;
        above = λ (y : Float) (h : Number y) (t : T (lt a y)).
            let l = more a y number h none t in
            let g = plus_digits y h in
            let j = next_up k m g.digits g.zeros g.few all (subst (λ (z : ℕ). m * 2 ^ k < z) g.are (subst (λ (z : ℕ). z < P y) are l)) in
            let i : P a + 2 ^ k ≤ P y = subst (λ (z : ℕ). z + 2 ^ k ≤ P y) (sym are) (subst (λ (z : ℕ). m * 2 ^ k + 2 ^ k ≤ z) (sym g.are) j) in
            le_trans over (pow-le-pow_left (high (P y) (P a) (2 ^ k) i) d);
      }
    where
      low : (y p g : ℕ) → y + g ≤ p → y + p ≤ p + p - g
      low y p g i = omega arith

      high : (y p g : ℕ) → p + g ≤ y → p + p + g ≤ y + p
      high y p g i = omega arith

-- ---- from the test to the rule
module _ (d n : ℕ) (a : Float) where
  k : ℕ
  k = bits (P a) - 24

  m : ℕ
  m = P a / 2 ^ k

  from_test : T (near d n a) → Nearest d n a
  unfolding near k m
  from_test t =
      let t1 = finite a in
      let t2 = fits binary32 a in
      let t3 = nat_eq (N a) 0 in
      let t4 = nat_eq (m * 2 ^ k) (P a) in
      let t5 = ltb (2 ^ 23 - 1) m in
      let e1 = nat_eq ((P a + P a) ^ d) (power d n) in
      let e2 = ltb (2 ^ 23) m in
      let e3 = leb ((P a + P a - 2 ^ k) ^ d) (power d n) in
      let e4 = leb (power d n) ((P a + P a + 2 ^ k) ^ d) in
      let first = and_l (t1 && t2 && t3 && t4 && t5) (e1 || (e2 && e3 && e4)) t in
      let last = and_r (t1 && t2 && t3 && t4 && t5) (e1 || (e2 && e3 && e4)) t in
      let f4 = and_l (t1 && t2 && t3 && t4) t5 first in
      let f3 = and_l (t1 && t2 && t3) t4 f4 in
      let f2 = and_l (t1 && t2) t3 f3 in
      let number : Number a = record { real = and_l t1 t2 f2; held = and_r t1 t2 f2 } in
      let none : N a ≡ 0 = eqb→eq (N a) 0 (and_r (t1 && t2) t3 f3) in
      let are : P a ≡ m * 2 ^ k = sym (eqb→eq (m * 2 ^ k) (P a) (and_r (t1 && t2 && t3) t4 f4)) in
      let all : 2 ^ 23 ≤ m = ltb→lt (2 ^ 23 - 1) m (and_r (t1 && t2 && t3 && t4) t5 first) in
      go e1 (e2 && e3 && e4) last
      (λ (u : T e1). at_power a d n k m number none are all (eqb→eq ((P a + P a) ^ d) (power d n) u))
      (λ (u : T (e2 && e3 && e4)).
      between a d n k m number none are all (ltb→lt (2 ^ 23) m (and_l e2 e3 (and_l (e2 && e3) e4 u))) (leb→le ((P a + P a - 2 ^ k) ^ d) (power d n) (and_r e2 e3 (and_l (e2 && e3) e4 u)))
      (leb→le (power d n) ((P a + P a + 2 ^ k) ^ d) (and_r (e2 && e3) e4 u)))
    where
      go : (x y : Bool) → T (x || y) → (T x → Nearest d n a) → (T y → Nearest d n a) → Nearest d n a
      go true y u f g = f tt
      go false y u f g = g u

-- ---- the two tables
pub whole_nearest : (n : ℕ) → n < 52 → Nearest 20 n (A n)
unfolding A whole_bits near power P N size U of_bits fits bits
whole_nearest n h = from_test 20 n (A n) (at (near 20) nan (map (of_bits binary32) whole_bits) tt n h)

pub sixteenth_nearest : (k : ℕ) → k < 16 → Nearest 320 k (B k)
unfolding B sixteenth_bits near power P N size U of_bits fits bits
sixteenth_nearest k h = from_test 320 k (B k) (at (near 320) nan (map (of_bits binary32) sixteenth_bits) tt k h)
