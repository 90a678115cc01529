-- What an f32 operation rounds to where its exact value is below a whole number b: a number of at most b, and how far off it is. Laws.
-- Assumes nothing.
use Rattle.std.specs.Prelude.{◌≡◌, ℕ, ◌+◌, ◌-◌, ◌*◌, ◌^◌, ◌<◌, ◌≤◌, Bool, true, false, not, T, nat_le, refl, Float}
use Rattle.std.proofs.Common.{sym, ap, ◌∙◌, subst, le_trans, le_of_eq, lt_of_lt_of_le, mul-one, mul-le-mul_right, mul-lt-mul_of_pos_right, arith, leb→le, lit<, lit≤}
use Rattle.std.proofs.Math.Nat.{sub-zero, zero-sub}
use Rattle.std.proofs.Math.Dec.{nleb→lt}
use Rattle.rounding.specs.Units.{U, limit, P, N, Number, Value, rnd, Rounding}
use Rattle.rounding.specs.Laws.Rnd.{rnd_mono, rnd_exact, rnd_zero, under_hi, under_lo}
use Rattle.rounding.specs.Laws.Whole.{limit_pos}

-- half of the step between two f32 from 256 to 512
unfoldable pub u : ℕ
u = 2 ^ 133

-- u is above 0.
pub u_pos : 0 < u
unfolding u
u_pos = lit< tt

-- 1 is 65536 u.
pub U-is : U ≡ 65536 * u
unfolding U u
U-is = refl

-- a whole number of 24 digits stays
kept : (b : ℕ) → b < 2 ^ 24 → rnd (b * U) 1 ≡ b * U
unfolding U
kept b few = ap (λ (z : ℕ). rnd z 1) (sym (mul-one (b * 2 ^ 149))) ∙ rnd_exact b 149 1 (lit< tt) few

-- What is at most b rounds to at most b.
pub rnd_most : (a v b : ℕ) → 0 < v → b < 2 ^ 24 → a ≤ b * U * v → rnd a v ≤ b * U
rnd_most a v b C few h =
    le_trans (rnd_mono a v (b * U) 1 C (lit< tt) (le_trans (le_of_eq (mul-one a)) h)) (le_of_eq (kept b few))

-- Below 131072 a rounding is at most 256 u too large,
pub large_hi : (a v : ℕ) → 0 < v → a < 131072 * U * v → 2 * (rnd a v * v) ≤ 2 * a + v * (512 * u)
unfolding U u
large_hi a v C h = under_hi 142 a v C h

-- below 512 at most u too large,
pub small_hi : (a v : ℕ) → 0 < v → a < 512 * U * v → 2 * (rnd a v * v) ≤ 2 * a + v * (2 * u)
unfolding U u
small_hi a v C h = under_hi 134 a v C h

-- and at most u too small.
pub small_lo : (a v : ℕ) → 0 < v → a < 512 * U * v → 2 * a ≤ 2 * (rnd a v * v) + v * (2 * u)
unfolding U u
small_lo a v C h = under_lo 134 a v C h

-- the magnitude of a rounding is at most the rounding of the magnitude
split : (p n v : ℕ) → 0 < v → rnd (p - n) v + rnd (n - p) v ≤ rnd (p + n) v
split p n v C = go (nat_le p n) (leb→le p n) (nleb→lt p n)
  where
    go : (b : Bool) → (T b → p ≤ n) → (T (not b) → n < p) → rnd (p - n) v + rnd (n - p) v ≤ rnd (p + n) v
    go true f g =
        let h = f tt in
        let none : p - n ≡ 0 = omega arith in
        let zero : rnd (p - n) v ≡ 0 = ap (λ (z : ℕ). rnd z v) none ∙ rnd_zero v C in
        let less : n - p ≤ p + n = omega arith in
        let most : rnd (n - p) v ≤ rnd (p + n) v = rnd_mono (n - p) v (p + n) v C C (mul-le-mul_right v less) in
        omega arith
    go false f g =
        let h = g tt in
        let none : n - p ≡ 0 = omega arith in
        let zero : rnd (n - p) v ≡ 0 = ap (λ (z : ℕ). rnd z v) none ∙ rnd_zero v C in
        let less : p - n ≤ p + n = omega arith in
        let most : rnd (p - n) v ≤ rnd (p + n) v = rnd_mono (p - n) v (p + n) v C C (mul-le-mul_right v less) in
        omega arith

-- r is a number of at most b, and its magnitude at most the rounding of a / v units
pub record Near (r : Float) (a v b : ℕ) : Type 0 where
  pub number : Number r
  pub most : P r + N r ≤ rnd a v
  pub under : P r + N r ≤ b * U

room : (b : ℕ) → b < 2 ^ 24 → b * U < limit
unfolding U limit
room b h = lt_of_lt_of_le (mul-lt-mul_of_pos_right h (lit< tt)) (lit≤ tt)

-- What is rounded from a value of magnitude at most b is near.
pub near : (r : Float) (p n v b : ℕ) → 0 < v → b < 2 ^ 24 → Rounding r p n v → p + n ≤ b * U * v → Near r (p + n) v b
near r p n v b C few h e =
    let both = split p n v C in
    let top = rnd_most (p + n) v b C few e in
    let fine = room b few in
    let x = h.value (omega arith) (omega arith) in
    let plus = x.plus in
    let minus = x.minus in
    record { number = x.number; most = omega arith; under = omega arith }

-- What is rounded from a value that is not below zero has the units that it rounds to, and none below zero.
pub above : (r : Float) (a v b : ℕ) → 0 < v → b < 2 ^ 24 → Rounding r a 0 v → a ≤ b * U * v → Value r (rnd a v) 0
above r a v b C few h e =
    let top = rnd_most a v b C few e in
    let fine = room b few in
    let some : rnd (a - 0) v ≡ rnd a v = ap (λ (z : ℕ). rnd z v) (sub-zero a) in
    let none : rnd (0 - a) v ≡ 0 = ap (λ (z : ℕ). rnd z v) (zero-sub a) ∙ rnd_zero v C in
    let x = h.value (omega arith) (subst (λ (z : ℕ). z < limit) (sym none) limit_pos) in
    record { number = x.number; plus = x.plus ∙ some; minus = x.minus ∙ none }
