-- How far the next f32 is: between m * 2 ^ k units with 24 digits and the next number on either side there is nothing.
use Rattle.std.specs.Prelude.{◌≡◌, Bool, true, false, not, ℕ, suc, ◌+◌, ◌-◌, ◌*◌, ◌^◌, ◌≤◌, ◌<◌, T, leb}
use Rattle.std.proofs.Common.{sym, ap, ◌∙◌, subst, le_trans, le_of_eq, le_of_lt, lt_of_lt_of_le, mul_assoc, mul-le-mul_right, lt_of_mul-lt-mul_right, lt_irrefl, arith, leb→le, pow-add, pow_mono, shl_lt}
use Rattle.std.proofs.Math.Dec.{nleb→lt}
use Rattle.std.specs.Float.Ieee.Digits.{back}

-- y is q * 2 ^ i, with at most 24 digits: either a multiple of 2 ^ k, or below 2 ^ 23 of them
data Place (k y : ℕ) : Type 0 where
  multiple : (n : ℕ) → y ≡ n * 2 ^ k → Place k y
  fine : y < 2 ^ 23 * 2 ^ k → Place k y

place : (k q i : ℕ) → q < 2 ^ 24 → Place k (q * 2 ^ i)
place k q i few = go (leb k i) (leb→le k i) (nleb→lt k i)
  where
    go : (b : Bool) → (T b → k ≤ i) → (T (not b) → i < k) → Place k (q * 2 ^ i)
    go true f g = multiple (q * 2 ^ (i - k)) (ap (λ (z : ℕ). q * z) (ap (λ (z : ℕ). 2 ^ z) (sym (back i k (f tt))) ∙ pow-add 2 (i - k) k) ∙ sym (mul_assoc q (2 ^ (i - k)) (2 ^ k)))
    go false f g = fine (lt_of_lt_of_le (shl_lt 24 i few) (le_trans (pow_mono (shift i k (g tt))) (le_of_eq (pow-add 2 23 k))))
      where
        shift : (i k : ℕ) → i < k → 24 + i ≤ 23 + k
        shift i k h = omega arith

-- the next number up is 2 ^ k further at least
pub next_up : (k m q i : ℕ) → q < 2 ^ 24 → 2 ^ 23 ≤ m → m * 2 ^ k < q * 2 ^ i → m * 2 ^ k + 2 ^ k ≤ q * 2 ^ i
next_up k m q i few all h = go (place k q i few)
  where
    go : Place k (q * 2 ^ i) → m * 2 ^ k + 2 ^ k ≤ q * 2 ^ i
    go (multiple n e) =
        let l : m < n = lt_of_mul-lt-mul_right (2 ^ k) (subst (λ (z : ℕ). m * 2 ^ k < z) e h) in
        subst (λ (z : ℕ). m * 2 ^ k + 2 ^ k ≤ z) (sym e) (more m n (2 ^ k) (mul-le-mul_right (2 ^ k) l))
      where
        more : (m n z : ℕ) → suc m * z ≤ n * z → m * z + z ≤ n * z
        more m n z j = omega arith
    go (fine l) = absurd (lt_irrefl (q * 2 ^ i) (lt_of_lt_of_le l (le_trans (mul-le-mul_right (2 ^ k) all) (le_of_lt h))))

-- and the next number down as far, unless m is a power of two
pub next_down : (k m q i : ℕ) → q < 2 ^ 24 → 2 ^ 23 < m → q * 2 ^ i < m * 2 ^ k → q * 2 ^ i + 2 ^ k ≤ m * 2 ^ k
next_down k m q i few all h = go (place k q i few)
  where
    more : (m n z : ℕ) → suc n * z ≤ m * z → n * z + z ≤ m * z
    more m n z j = omega arith

    go : Place k (q * 2 ^ i) → q * 2 ^ i + 2 ^ k ≤ m * 2 ^ k
    go (multiple n e) =
        let l : n < m = lt_of_mul-lt-mul_right (2 ^ k) (subst (λ (z : ℕ). z < m * 2 ^ k) e h) in
        subst (λ (z : ℕ). z + 2 ^ k ≤ m * 2 ^ k) (sym e) (more m n (2 ^ k) (mul-le-mul_right (2 ^ k) l))
    go (fine l) = le_trans (one_more (q * 2 ^ i) (2 ^ 23 * 2 ^ k) (2 ^ k) l) (more m (2 ^ 23) (2 ^ k) (mul-le-mul_right (2 ^ k) all))
      where
        one_more : (y b z : ℕ) → y < b → y + z ≤ b + z
        one_more y b z j = omega arith
