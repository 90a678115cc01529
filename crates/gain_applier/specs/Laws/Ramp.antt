-- Where both gain factors are at most m units, and m is at most 512, every gain of the ramp keeps its magnitude at or below m and 1;
-- so with factors up to 355 at or below 512.
-- The step times the samples is the difference of the two factors, but for the rounding; and the additions drift from the exact sum by little.
use Rattle.std.specs.Prelude.{◌≡◌, ℕ, ◌+◌, ◌-◌, ◌*◌, ◌^◌, ◌<◌, ◌≤◌, true, ◌⊎◌, pos, refl, Float}
use Rattle.std.proofs.Common.{sym, ap, ◌∙◌, inl, inr, le_trans, lt_of_lt_of_le, lt_of_le_of_lt, mul-le-mul_right, mul-le-mul_left, le_of_mul-le-mul_right, lit<, lit≤}
use Rattle.std.proofs.Math.Path.{subst}
use native.Mathlib.Omega.{arith}
use Rattle.std.specs.Float.{binary32}
use Rattle.std.specs.Float.Ieee.{sub, mul}
use Rattle.rounding.specs.Units.{U, limit, P, N, Number, Value, rnd}
use Rattle.rounding.specs.Loops.{added, Within}
use Rattle.rounding.specs.Laws.Rnd.{err_hi, under_hi}
use Rattle.rounding.specs.Laws.Whole.{U_pos, sides}
use Rattle.rounding.specs.Laws.Operations.{sub_above, mul_rounds}
use Rattle.rounding.specs.Laws.Loops.{added_within, added_drift}
use Rattle.frames.specs.Shape.{is_samples}
use Rattle.frames.specs.Facts.{samples_facts}
use Rattle.gain_applier.specs.Sound.{step_of}
use Rattle.gain_applier.specs.Applier.{inverse_of}
use Rattle.gain_applier.specs.Range.{UpTo}
use Rattle.gain_applier.specs.Laws.Inverse.{e, U-e, e_large, inverse_number, inverse_above, inverse_share}

-- ---- powers of two, in the measure of e
step_units : 2 ^ 135 ≡ 512 * e
unfolding e
step_units = refl

all_units : 2 ^ (25 + 135) ≡ 2048 * U
unfolding U
all_units = refl

below_all : 512 * U < 2 ^ (24 + 135) * 1
unfolding U
below_all = lit< tt

few_units : 1024 * U ≤ limit
unfolding U limit
few_units = lit≤ tt

-- ---- the difference of the factors
rounded_up : (a : ℕ) → a ≤ 512 * U → rnd a 1 ≤ a + 256 * e
rounded_up a h = plain (rnd a 1) a (2 ^ 135) e (under_hi 135 a 1 (lit< tt) (lt_of_le_of_lt h below_all)) step_units
  where
    plain : (r a z e : ℕ) → 2 * (r * 1) ≤ 2 * a + 1 * z → z ≡ 512 * e → r ≤ a + 256 * e
    plain r a z e i j = omega arith

under_limit : (r a m : ℕ) → r ≤ a + m * e → a ≤ 513 * U → m ≤ 1024 → r < limit
under_limit r a m h i j = lt_of_lt_of_le (plain r a m U e h i (mul-le-mul_right e j) U-e e_large) few_units
  where
    plain : (r a m u e : ℕ) → r ≤ a + m * e → a ≤ 513 * u → m * e ≤ 1024 * e → u ≡ 8388608 * e → 1024 ≤ e → r < 1024 * u
    plain r a m u e h i j k l = omega arith

module _ (m : ℕ) (low : m ≤ 512 * U) (last current : Float) (l : UpTo m last) (c : UpTo m current) where
  up_most : P current - P last ≤ 512 * U
  up_most = let h = c.most in omega arith

  down_most : P last - P current ≤ 512 * U
  down_most = let h = l.most in omega arith

  looser : (a u : ℕ) → a ≤ 512 * u → a ≤ 513 * u
  looser a u h = omega arith

  difference : Value (sub binary32 current last) (rnd (P current - P last) 1) (rnd (P last - P current) 1)
  difference =
      (sub_above current last c.number l.number c.none_below l.none_below).value
      (under_limit (rnd (P current - P last) 1) (P current - P last) 256 (rounded_up (P current - P last) up_most) (looser (P current - P last) U up_most) (lit≤ tt))
      (under_limit (rnd (P last - P current) 1) (P last - P current) 256 (rounded_up (P last - P current) down_most) (looser (P last - P current) U down_most) (lit≤ tt))

-- ---- a product by a number that is not below zero: each side of zero by itself
one_side : (a b i j : ℕ) → (a ≡ 0) ⊎ (b ≡ 0) → j ≡ 0 → (a * i + b * j - (a * j + b * i) ≡ a * i) × (a * j + b * i - (a * i + b * j) ≡ b * i)
one_side a b i j (inl p) q = rw (p, q) (omega arith, omega arith)
one_side a b i j (inr p) q = rw (p, q) (omega arith, omega arith)

product : (x y : Float) → Number x → Number y → N y ≡ 0 → rnd (P x * P y) U < limit → rnd (N x * P y) U < limit
    → Value (mul binary32 x y) (rnd (P x * P y) U) (rnd (N x * P y) U)
product x y h k none up down =
    let o = one_side (P x) (N x) (P y) (N y) (sides x h).one none in
    let up_is = ap (λ (z : ℕ). rnd z U) o.0 in
    let down_is = ap (λ (z : ℕ). rnd z U) o.1 in
    let v = (mul_rounds x y h k).value (subst (λ (z : ℕ). z < limit) (sym up_is) up) (subst (λ (z : ℕ). z < limit) (sym down_is) down) in
    record { number = v.number; plus = v.plus ∙ up_is; minus = v.minus ∙ down_is }

-- a share of a units, taken n times: a units, or 772 * e more at most
share : (a i n : ℕ) → a ≤ 513 * U → n * i ≤ U + e → n ≤ 480 → n * rnd (a * i) U ≤ a + 772 * e
share a i n h k few = plain (rnd (a * i) U) a i n U e U_pos (mul-le-mul_left n (err_hi (a * i) U U_pos)) (mul-le-mul_left a k) (mul-le-mul_right e h) U-e h few e_large
  where
    plain : (s a i n u e : ℕ) → 0 < u → n * (2 ^ 24 * (s * u)) ≤ n * (2 ^ 24 * (a * i) + a * i + 2 ^ 23 * u) → a * (n * i) ≤ a * (u + e) → a * e ≤ 513 * u * e → u ≡ 8388608 * e → a ≤ 513 * u → n ≤ 480 → 1024 ≤ e
        → n * s ≤ a + 772 * e
    plain s a i n u e u_pos p q r t h few large = cancelled (le_of_mul-le-mul_right over u_pos)
      where
        over : 16777216 * (n * s) * u ≤ (16777217 * (a + 513 * e) + 8388608 * n) * u
        over = omega (arith, p, q, r)

        cancelled : 16777216 * (n * s) ≤ 16777217 * (a + 513 * e) + 8388608 * n → n * s ≤ a + 772 * e
        cancelled g = omega (arith, g, t, h, few, large)

-- ---- the step: taken n times, it is the difference, or 1028 * e units more at most
module _ (n : ℕ) (some : 1 ≤ n) (few : n ≤ 480) (m : ℕ) (low : m ≤ 512 * U) (last current : Float) (l : UpTo m last) (c : UpTo m current) where
  D : Float
  D = sub binary32 current last

  inverse : Float
  inverse = inverse_of (pos n)

  step : Float
  step = step_of last current (inverse_of (pos n))

  up : P D ≤ P current - P last + 256 * e
  unfolding D
  up = subst (λ (z : ℕ). z ≤ P current - P last + 256 * e) (sym (difference m low last current l c).plus) (rounded_up (P current - P last) (up_most m low last current l c))

  down : N D ≤ P last - P current + 256 * e
  unfolding D
  down = subst (λ (z : ℕ). z ≤ P last - P current + 256 * e) (sym (difference m low last current l c).minus) (rounded_up (P last - P current) (down_most m low last current l c))

  room : (d a : ℕ) → d ≤ a + 256 * e → a ≤ 512 * U → d ≤ 513 * U
  room d a h k = omega (arith, U-e)

  up_share : n * rnd (P D * P inverse) U ≤ P D + 772 * e
  unfolding inverse
  up_share = share (P D) (P inverse) n (room (P D) (P current - P last) up (up_most m low last current l c)) (inverse_share n some few) few

  down_share : n * rnd (N D * P inverse) U ≤ N D + 772 * e
  unfolding inverse
  down_share = share (N D) (P inverse) n (room (N D) (P last - P current) down (down_most m low last current l c)) (inverse_share n some few) few

  one_of : (s d : ℕ) → n * s ≤ d + 772 * e → s ≤ d + 772 * e
  one_of s d h = let m : 1 * s ≤ n * s = mul-le-mul_right s some in omega arith

  value : Value step (rnd (P D * P inverse) U) (rnd (N D * P inverse) U)
  unfolding step D inverse step_of
  value =
      product D inverse (difference m low last current l c).number (inverse_number n some few) (inverse_above n some few)
      (under_limit (rnd (P D * P inverse) U) (P D) 772 (one_of (rnd (P D * P inverse) U) (P D) up_share) (room (P D) (P current - P last) up (up_most m low last current l c)) (lit≤ tt))
      (under_limit (rnd (N D * P inverse) U) (N D) 772 (one_of (rnd (N D * P inverse) U) (N D) down_share) (room (N D) (P last - P current) down (down_most m low last current l c)) (lit≤ tt))

  up_steps : n * P step ≤ P current - P last + 1028 * e
  up_steps = subst (λ (z : ℕ). n * z ≤ P current - P last + 1028 * e) (sym value.plus) (omega (arith, up_share, up))

  down_steps : n * N step ≤ P last - P current + 1028 * e
  down_steps = subst (λ (z : ℕ). n * z ≤ P last - P current + 1028 * e) (sym value.minus) (omega (arith, down_share, down))

  -- ---- the ramp
  module _ (k : ℕ) (h : k ≤ n) where
    k_up : k * P step ≤ P current - P last + 1028 * e
    k_up = le_trans (mul-le-mul_right (P step) h) up_steps

    k_down : k * N step ≤ P last - P current + 1028 * e
    k_down = le_trans (mul-le-mul_right (N step) h) down_steps

    k_half : k * 2 ^ 135 ≤ 245760 * e
    k_half = plain k (2 ^ 135) e (mul-le-mul_right (2 ^ 135) (le_trans h few)) step_units
      where
        plain : (k z e : ℕ) → k * z ≤ 480 * z → z ≡ 512 * e → k * z ≤ 245760 * e
        plain k z e i j = omega arith

    from : Within m last
    from = let z = l.none_below in record { number = l.number; plus = l.most; minus = omega arith }

    by : Within (P step + N step) step
    by = record { number = value.number; plus = omega arith; minus = omega arith }

    small : m + k * (P step + N step + 2 ^ 135) < 2 ^ (25 + 135)
    small = plain (P last) (P current) k (P step) (N step) (2 ^ 135) (2 ^ (25 + 135)) m U e low l.most c.most k_up k_down k_half all_units U-e e_large
      where
        plain : (l c k p q z y m u e : ℕ) → m ≤ 512 * u → l ≤ m → c ≤ m → k * p ≤ c - l + 1028 * e → k * q ≤ l - c + 1028 * e → k * z ≤ 245760 * e → y ≡ 2048 * u → u ≡ 8388608 * e → 1024 ≤ e
            → m + k * (p + q + z) < y
        plain l c k p q z y m u e v i j f g w a r s = omega arith

    -- Every gain of the ramp is a number at most m and 1 from zero.
    pub ramp_close : Within (m + U) (added k last (step_of last current (inverse_of (pos n))))
    unfolding step
    ramp_close =
        let w = added_within 135 (P step + N step) (lit≤ tt) k m last step from by small in
        let d = added_drift 135 (P step + N step) (lit≤ tt) k m last step from by small in
        let g = added k last step in
        let o = (sides g w.number).one in
        record {
          number = w.number;
          plus = over (P g) (N g) (P last) (N last) (P current) k (P step) (N step) (2 ^ 135) m U e o d.0 l.most c.most k_up k_half U-e e_large;
          minus = under (P g) (N g) (P last) (N last) (P current) k (P step) (N step) (2 ^ 135) m U e o d.1 l.none_below l.most c.most k_down k_half U-e e_large;
        }
      where
        over : (p n l i c k q r z m u e : ℕ) → (p ≡ 0) ⊎ (n ≡ 0) → p + i + k * r ≤ n + l + k * q + k * z → l ≤ m → c ≤ m → k * q ≤ c - l + 1028 * e → k * z ≤ 245760 * e → u ≡ 8388608 * e → 1024 ≤ e → p ≤ m + u
        over p n l i c k q r z m u e (inl j) h f g a b w s = omega arith
        over p n l i c k q r z m u e (inr j) h f g a b w s = omega arith

        under : (p n l i c k q r z m u e : ℕ) → (p ≡ 0) ⊎ (n ≡ 0) → l + k * q + n ≤ p + i + k * r + k * z → i ≡ 0 → l ≤ m → c ≤ m → k * r ≤ l - c + 1028 * e → k * z ≤ 245760 * e → u ≡ 8388608 * e → 1024 ≤ e → n ≤ m + u
        under p n l i c k q r z m u e (inl j) h x f g a b w s = omega arith
        under p n l i c k q r z m u e (inr j) h x f g a b w s = omega arith

-- With factors from 0 to b, which is at most 512, every gain of the ramp over a frame's samples is a number of magnitude at most c, for any c above b.
ramp_below : (b c : ℕ) → b ≤ 512 → b + 1 ≤ c → (n : ℕ) → is_samples n ≡ true → (last current : Float) → UpTo (b * U) last → UpTo (b * U) current → (k : ℕ) → k ≤ n
    → Within (c * U) (added k last (step_of last current (inverse_of (pos n))))
ramp_below b c i j n s last current l r k h =
    let f = samples_facts n s in
    let w = ramp_close n (omega arith) f.most (b * U) (mul-le-mul_right U i) last current l r k h in
    record { number = w.number; plus = looser (P g) U (mul-le-mul_right U j) w.plus; minus = looser (N g) U (mul-le-mul_right U j) w.minus }
  where
    g : Float
    g = added k last (step_of last current (inverse_of (pos n)))

    looser : (a u : ℕ) → (b + 1) * u ≤ c * u → a ≤ b * u + u → a ≤ c * u
    looser a u z h = omega (arith, z, h)

-- With factors from 0 to 355 that magnitude is at most 512.
pub ramp_within : (n : ℕ) → is_samples n ≡ true → (last current : Float) → UpTo (355 * U) last → UpTo (355 * U) current → (k : ℕ) → k ≤ n
    → Within (512 * U) (added k last (step_of last current (inverse_of (pos n))))
ramp_within = ramp_below 355 512 (omega arith) (omega arith)

-- With factors up to 512 it is at most 513.
pub ramp_number : (n : ℕ) → is_samples n ≡ true → (last current : Float) → UpTo (512 * U) last → UpTo (512 * U) current → (k : ℕ) → k ≤ n
    → Within (513 * U) (added k last (step_of last current (inverse_of (pos n))))
ramp_number = ramp_below 512 513 (omega arith) (omega arith)
