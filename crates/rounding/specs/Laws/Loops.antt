-- A bound that no number of additions in a loop breaks: while all stays below 2 ^ (25 + h) units, an addition is off by 2 ^ h units at most.
use Rattle.std.specs.Prelude.{◌≡◌, Bool, true, false, not, ℕ, zero, suc, ◌+◌, ◌-◌, ◌*◌, ◌^◌, ◌≤◌, ◌<◌, T, leb, Float}
use Rattle.std.proofs.Common.{sym, ap, ◌∙◌, subst, lt_of_lt_of_le, lt_of_le_of_lt, pow-suc, sub-eq-zero_of_le, le_of_lt, arith, leb→le, lit<, pow_mono}
use Rattle.std.proofs.Math.Dec.{nleb→lt}
use Rattle.std.specs.Float.{binary32}
use Rattle.std.specs.Float.Ieee.{add}
use Rattle.rounding.specs.Units.{limit, P, N, Number, rnd}
use Rattle.rounding.specs.Loops.{added, Within}
use Rattle.rounding.specs.Laws.Rnd.{rnd_zero, under_hi, under_lo}
use Rattle.rounding.specs.Laws.Operations.{add_rounds}
use Rattle.rounding.specs.Laws.Between.{known}

-- a rounded number of units, off by 2 ^ h at most
off : (h a b : ℕ) → a ≤ b → b < 2 ^ (25 + h) → rnd a 1 ≤ b + 2 ^ h
off h a b l small =
    let u = under_hi (suc h) a 1 (lit< tt) (room h a (lt_of_le_of_lt l small)) in
    let d : 2 ^ suc h ≡ 2 ^ h * 2 = pow-suc 2 h in
    omega arith
  where
    room : (h a : ℕ) → a < 2 ^ (25 + h) → a < 2 ^ (24 + suc h) * 1
    room h a g = subst (λ (z : ℕ). a < 2 ^ z * 1) (same h) (times (2 ^ (25 + h)) g)
      where
        same : (h : ℕ) → 25 + h ≡ 24 + suc h
        same h = omega arith

        times : (z : ℕ) → a < z → a < z * 1
        times z q = omega arith

pub add_within : (h b e : ℕ) (x y : Float) → Within b x → Within e y → b + e < 2 ^ (25 + h) → b + e + 2 ^ h < limit → Within (b + e + 2 ^ h) (add binary32 x y)
add_within h b e x y v w small fine =
    let p = off h (P x + P y - (N x + N y)) (b + e) (one_side (P x) (P y) (N x + N y) v.plus w.plus) small in
    let n = off h (N x + N y - (P x + P y)) (b + e) (one_side (N x) (N y) (P x + P y) v.minus w.minus) small in
    let r = (add_rounds x y v.number w.number).value (lt_of_le_of_lt p fine) (lt_of_le_of_lt n fine) in
    record {
      number = r.number;
      plus = subst (λ (z : ℕ). z ≤ b + e + 2 ^ h) (sym r.plus) p;
      minus = subst (λ (z : ℕ). z ≤ b + e + 2 ^ h) (sym r.minus) n;
    }
  where
    one_side : (p q m : ℕ) → p ≤ b → q ≤ e → p + q - m ≤ b + e
    one_side p q m i j = omega arith

within_limit : (h : ℕ) → 25 + h ≤ 277 → 2 ^ (25 + h) ≤ limit
unfolding limit
within_limit h w = pow_mono w

pub added_within : (h e : ℕ) → 25 + h ≤ 277 → (k b : ℕ) (g d : Float) → Within b g → Within e d → b + k * (e + 2 ^ h) < 2 ^ (25 + h)
    → Within (b + k * (e + 2 ^ h)) (added k g d)
unfolding added
added_within h e wide zero b g d v w small = subst (λ (z : ℕ). Within z g) (sym (nothing b (e + 2 ^ h))) v
  where
    nothing : (b z : ℕ) → b + 0 * z ≡ b
    nothing b z = omega arith
added_within h e wide (suc k) b g d v w small =
    let all : b + suc k * (e + 2 ^ h) ≡ b + e + 2 ^ h + k * (e + 2 ^ h) = one_more b e (2 ^ h) k in
    let small' : b + e + 2 ^ h + k * (e + 2 ^ h) < 2 ^ (25 + h) = subst (λ (z : ℕ). z < 2 ^ (25 + h)) all small in
    let next = add_within h b e g d v w (first b e (2 ^ h) (k * (e + 2 ^ h)) (2 ^ (25 + h)) small') (lt_of_lt_of_le (second b e (2 ^ h) (k * (e + 2 ^ h)) (2 ^ (25 + h)) small') (within_limit h wide)) in
    subst (λ (z : ℕ). Within z (added k (add binary32 g d) d)) (sym all) (added_within h e wide k (b + e + 2 ^ h) (add binary32 g d) d next w small')
  where
    one_more : (b e z k : ℕ) → b + suc k * (e + z) ≡ b + e + z + k * (e + z)
    one_more b e z k = omega arith

    first : (b e z r l : ℕ) → b + e + z + r < l → b + e < l
    first b e z r l q = omega arith

    second : (b e z r l : ℕ) → b + e + z + r < l → b + e + z < l
    second b e z r l q = omega arith

-- ---- how far a loop of additions drifts from the exact sum
-- a difference of units that is not below zero, rounded: off by 2 ^ h at most
near : (h p n : ℕ) → n ≤ p → p - n < 2 ^ (25 + h)
    → (rnd (n - p) 1 ≡ 0) × (rnd (p - n) 1 + n ≤ p + 2 ^ h) × (p ≤ rnd (p - n) 1 + n + 2 ^ h)
near h p n le small =
    let room = within_room h (p - n) small in
    let a = under_hi (suc h) (p - n) 1 (lit< tt) room in
    let b = under_lo (suc h) (p - n) 1 (lit< tt) room in
    let d : 2 ^ suc h ≡ 2 ^ h * 2 = pow-suc 2 h in
    let back : p - n + n ≡ p = omega arith in (
      ap (λ (z : ℕ). rnd z 1) (sub-eq-zero_of_le le) ∙ rnd_zero 1 (lit< tt),
      upper (rnd (p - n) 1) (p - n) n p (2 ^ h) (2 ^ suc h) a d back,
      lower (rnd (p - n) 1) (p - n) n p (2 ^ h) (2 ^ suc h) b d back,
    )
  where
    upper : (r a n p z y : ℕ) → 2 * (r * 1) ≤ 2 * a + 1 * y → y ≡ z * 2 → a + n ≡ p → r + n ≤ p + z
    upper r a n p z y i j k = omega arith

    lower : (r a n p z y : ℕ) → 2 * a ≤ 2 * (r * 1) + 1 * y → y ≡ z * 2 → a + n ≡ p → p ≤ r + n + z
    lower r a n p z y i j k = omega arith

    within_room : (h a : ℕ) → a < 2 ^ (25 + h) → a < 2 ^ (24 + suc h) * 1
    within_room h a g = subst (λ (z : ℕ). a < 2 ^ z * 1) (same h) (times (2 ^ (25 + h)) g)
      where
        same : (h : ℕ) → 25 + h ≡ 24 + suc h
        same h = omega arith

        times : (z : ℕ) → a < z → a < z * 1
        times z q = omega arith

-- r is the exact p - n, off by z at most, whatever the signs
record Near (r : Float) (p n z : ℕ) : Type 0 where
  above : P r + n ≤ p + N r + z
  below : p + N r ≤ P r + n + z

near_value : (h p n : ℕ) (r : Float) → p - n < 2 ^ (25 + h) → n - p < 2 ^ (25 + h) → P r ≡ rnd (p - n) 1 → N r ≡ rnd (n - p) 1 → Near r p n (2 ^ h)
near_value h p n r up down e g = go (leb n p) (leb→le n p) (nleb→lt n p)
  where
    joined : (x y p n z : ℕ) → y ≡ 0 → x + n ≤ p + z → p ≤ x + n + z → (x + n ≤ p + y + z) × (p + y ≤ x + n + z)
    joined x y p n z i j k = omega arith

    go : (b : Bool) → (T b → n ≤ p) → (T (not b) → p < n) → Near r p n (2 ^ h)
    go true f k =
        let w = near h p n (f tt) up in
        let j = joined (rnd (p - n) 1) (rnd (n - p) 1) p n (2 ^ h) w.0 w.1 w.2 in
        record { above = rw (e, g) j.0; below = rw (e, g) j.1 }
    go false f k =
        let w = near h n p (le_of_lt (k tt)) down in
        let j = joined (rnd (n - p) 1) (rnd (p - n) 1) n p (2 ^ h) w.0 w.1 w.2 in
        record { above = rw (e, g) (turned (rnd (p - n) 1) (rnd (n - p) 1) p n (2 ^ h) j.1); below = rw (e, g) (turned' (rnd (p - n) 1) (rnd (n - p) 1) p n (2 ^ h) j.0) }
      where
        turned : (x y p n z : ℕ) → n + x ≤ y + p + z → x + n ≤ p + y + z
        turned x y p n z i = omega arith

        turned' : (x y p n z : ℕ) → y + p ≤ n + x + z → p + y ≤ x + n + z
        turned' x y p n z i = omega arith

one_near : (h b e : ℕ) (x y : Float) → Within b x → Within e y → b + e < 2 ^ (25 + h) → Number (add binary32 x y)
    → Near (add binary32 x y) (P x + P y) (N x + N y) (2 ^ h)
one_near h b e x y v w small number =
    let r = known (add_rounds x y v.number w.number) number.real in
    near_value h (P x + P y) (N x + N y) (add binary32 x y)
    (lt_of_le_of_lt (one_side (P x) (P y) (N x + N y) v.plus w.plus) small)
    (lt_of_le_of_lt (one_side (N x) (N y) (P x + P y) v.minus w.minus) small)
    r.plus r.minus
  where
    one_side : (p q m : ℕ) → p ≤ b → q ≤ e → p + q - m ≤ b + e
    one_side p q m i j = omega arith

-- k additions of d are off by k * 2 ^ h units from k times d at most, on either side
pub added_drift : (h e : ℕ) → 25 + h ≤ 277 → (k b : ℕ) (g d : Float) → Within b g → Within e d → b + k * (e + 2 ^ h) < 2 ^ (25 + h)
    → (P (added k g d) + N g + k * N d ≤ N (added k g d) + P g + k * P d + k * 2 ^ h)
    × (P g + k * P d + N (added k g d) ≤ P (added k g d) + N g + k * N d + k * 2 ^ h)
unfolding added
added_drift h e wide zero b g d v w small = none (P g) (N g) (P d) (N d) (2 ^ h)
  where
    none : (p n q m z : ℕ) → (p + n + 0 * m ≤ n + p + 0 * q + 0 * z) × (p + 0 * q + n ≤ p + n + 0 * m + 0 * z)
    none p n q m z = omega arith
added_drift h e wide (suc k) b g d v w small =
    let all : b + suc k * (e + 2 ^ h) ≡ b + e + 2 ^ h + k * (e + 2 ^ h) = one_more b e (2 ^ h) k in
    let small' : b + e + 2 ^ h + k * (e + 2 ^ h) < 2 ^ (25 + h) = subst (λ (z : ℕ). z < 2 ^ (25 + h)) all small in
    let room = first b e (2 ^ h) (k * (e + 2 ^ h)) (2 ^ (25 + h)) small' in
    let next = add_within h b e g d v w room (lt_of_lt_of_le (second b e (2 ^ h) (k * (e + 2 ^ h)) (2 ^ (25 + h)) small') (within_limit h wide)) in
    let step = one_near h b e g d v w room next.number in
    let rest = added_drift h e wide k (b + e + 2 ^ h) (add binary32 g d) d next w small' in
    let r = added k (add binary32 g d) d in
    let m = add binary32 g d in (
      upper (P r) (N r) (P m) (N m) (P g) (N g) (P d) (N d) (2 ^ h) k rest.0 step.above,
      lower (P r) (N r) (P m) (N m) (P g) (N g) (P d) (N d) (2 ^ h) k rest.1 step.below,
    )
  where
    one_more : (b e z k : ℕ) → b + suc k * (e + z) ≡ b + e + z + k * (e + z)
    one_more b e z k = omega arith

    first : (b e z r l : ℕ) → b + e + z + r < l → b + e < l
    first b e z r l q = omega arith

    second : (b e z r l : ℕ) → b + e + z + r < l → b + e + z < l
    second b e z r l q = omega arith

    upper : (rp rn mp mn gp gn dp dn z k : ℕ) → rp + mn + k * dn ≤ rn + mp + k * dp + k * z → mp + (gn + dn) ≤ gp + dp + mn + z
        → rp + gn + suc k * dn ≤ rn + gp + suc k * dp + suc k * z
    upper rp rn mp mn gp gn dp dn z k i j = omega arith

    lower : (rp rn mp mn gp gn dp dn z k : ℕ) → mp + k * dp + rn ≤ rp + mn + k * dn + k * z → gp + dp + mn ≤ mp + (gn + dn) + z
        → gp + suc k * dp + rn ≤ rp + gn + suc k * dn + suc k * z
    lower rp rn mp mn gp gn dp dn z k i j = omega arith
