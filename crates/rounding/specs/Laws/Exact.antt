-- Where nothing is rounded: a constant, a whole number of 24 bits, a product by a power of two, a number without its fraction.
use Rattle.std.specs.Prelude.{◌≡◌, Bool, true, false, not, ℕ, ◌+◌, ◌-◌, ◌*◌, ◌/◌, ◌^◌, ◌%◌, ◌≤◌, ◌<◌, min, ℤ, pos, T, leb, Float}
use Rattle.std.proofs.Common.{sym, ap, ap₂, ◌∙◌, subst, le_of_lt, lt_of_le_of_lt, mul-div_cancel, lt_of_lt_of_le, mul-lt-mul_of_pos_right, mul_assoc, mul-one, add-zero, leb→le, lit<, lit≤, pow-add, pow_pos}
use Rattle.std.proofs.Math.Nat.{mod-le, mul-mod_left, zero-div, min-eq_left, sub-zero, zero-sub}
use Rattle.std.proofs.Math.Dec.{nleb→lt}
use Rattle.std.proofs.Math.Arith.{mod-mul}
use Rattle.std.specs.Float.{nan, inf, fin, binary32}
use Rattle.std.specs.Float.Ieee.{up, down, fits, mul, of_int, of_bits, to_unsigned}
use Rattle.std.specs.Float.Ieee.Bits.{of_bits-fits}
use Rattle.std.specs.Float.Ieee.Digits.{back}
use Rattle.std.specs.Float.Ieee.Fits.{down_pos}
use Rattle.std.specs.Float.Ieee.Nearest.{div_same}
use Rattle.std.specs.Float.Ieee.Scale.{finite}
use Rattle.rounding.specs.Units.{U, limit, size, P, N, Number, Value, rnd}
use Rattle.rounding.specs.Laws.Rnd.{rnd_exact, rnd_zero}
use Rattle.rounding.specs.Laws.Whole.{U_pos, limit_pos, whole, sides, digits_of}
use Rattle.rounding.specs.Laws.Operations.{mul_above, rounded}

-- what is written as bits is an f32
pub constant_number : (b : ℕ) → T (finite (of_bits binary32 b)) → Number (of_bits binary32 b)
constant_number b t = record { real = t; held = of_bits-fits binary32 b }

-- ---- a whole number of 24 bits
units_room : (n : ℕ) → n < 2 ^ 24 → n * U < limit
unfolding U limit
units_room n h = lt_of_lt_of_le (mul-lt-mul_of_pos_right h (lit< tt)) (lit≤ tt)

units_kept : (n : ℕ) → n < 2 ^ 24 → rnd (n * U) 1 ≡ n * U
unfolding U
units_kept n h = ap (λ (z : ℕ). rnd z 1) (sym (mul-one (n * 2 ^ 149))) ∙ rnd_exact n 149 1 (lit< tt) h

pub whole_number : (n : ℕ) → n < 2 ^ 24 → Value (of_int binary32 (pos n)) (n * U) 0
unfolding of_int
whole_number n h =
    let same = units_kept n h in
    let r = rounded false n 1 (subst (λ (z : ℕ). z < limit) (sym same) (units_room n h)) in
    record { number = r.number; plus = r.plus ∙ same; minus = r.minus }

-- ---- a product by 2 ^ k: nothing is rounded, as long as it is below the limit
double : (q j k : ℕ) → q * 2 ^ j * 2 ^ k ≡ q * 2 ^ (j + k)
double q j k = mul_assoc q (2 ^ j) (2 ^ k) ∙ ap (λ (z : ℕ). q * z) (sym (pow-add 2 j k))

-- z units with 24 digits, times 2 ^ k
scaled : (z q j k : ℕ) → z ≡ q * 2 ^ j → q < 2 ^ 24 → rnd (z * (2 ^ k * U)) U ≡ z * 2 ^ k
scaled z q j k e few =
    let f : z * 2 ^ k ≡ q * 2 ^ (j + k) = ap (λ (y : ℕ). y * 2 ^ k) e ∙ double q j k in
    ap (λ (y : ℕ). rnd y U) (sym (mul_assoc z (2 ^ k) U) ∙ ap (λ (y : ℕ). y * U) f) ∙ rnd_exact q (j + k) U U_pos few ∙ sym f

pub twofold : (x c : Float) (k : ℕ) → Number x → N x ≡ 0 → Value c (2 ^ k * U) 0 → P x * 2 ^ k < limit → Value (mul binary32 x c) (P x * 2 ^ k) 0
twofold x c k h e v small =
    let d = digits_of x h in
    let are : P x ≡ d.digits * 2 ^ d.zeros = sym (add-zero (P x)) ∙ ap (λ (z : ℕ). P x + z) (sym e) ∙ (sides x h).both ∙ d.are in
    let plus : rnd (P x * P c - 0) U ≡ P x * 2 ^ k =
    ap (λ (z : ℕ). rnd z U) (sub-zero (P x * P c) ∙ ap (λ (z : ℕ). P x * z) v.plus) ∙ scaled (P x) d.digits d.zeros k are d.few
    in
    let minus : rnd (0 - P x * P c) U ≡ 0 = ap (λ (z : ℕ). rnd z U) (zero-sub (P x * P c)) ∙ rnd_zero U U_pos in
    let w = (mul_above x c h v.number e v.minus).value (subst (λ (z : ℕ). z < limit) (sym plus) small) (subst (λ (z : ℕ). z < limit) (sym minus) limit_pos) in
    record { number = w.number; plus = w.plus ∙ plus; minus = w.minus ∙ minus }

-- ---- a number that is not below zero, without its fraction
-- the whole part, by the fraction and by units
pub whole_part : (s : Bool) (m : ℕ) (e : ℤ) → T (fits binary32 (fin s m e)) → m * up e / down e ≡ size (fin s m e) / U
whole_part s m e t = div_same (m * up e) (down e) (size (fin s m e)) U (down_pos e) U_pos (whole s m e t)

pub truncated : (w : ℕ) (x : Float) → Number x → N x ≡ 0 → P x / U ≤ 2 ^ w - 1 → to_unsigned w x ≡ P x / U
unfolding to_unsigned P N
truncated w nan h e l = absurd h.real
truncated w (inf s) h e l = absurd h.real
truncated w (fin true m e) h n l = sym (zero-div U)
truncated w (fin false m e) h n l =
    ap (λ (z : ℕ). min z (2 ^ w - 1)) (whole_part false m e h.held) ∙ min-eq_left l

-- ---- what is left of a number by a power of two is a number
pub remainder_kept : (k q i : ℕ) → q < 2 ^ 24 → rnd (q * 2 ^ i % 2 ^ k) 1 ≡ q * 2 ^ i % 2 ^ k
remainder_kept k q i few = go (leb k i) (leb→le k i) (nleb→lt k i)
  where
    go : (b : Bool) → (T b → k ≤ i) → (T (not b) → i < k) → rnd (q * 2 ^ i % 2 ^ k) 1 ≡ q * 2 ^ i % 2 ^ k
    go true f g =
        let none : q * 2 ^ i % 2 ^ k ≡ 0 =
        ap (λ (z : ℕ). q * z % 2 ^ k) (ap (λ (z : ℕ). 2 ^ z) (sym (back i k (f tt))) ∙ pow-add 2 (i - k) k)
        ∙ ap (λ (z : ℕ). z % 2 ^ k) (sym (mul_assoc q (2 ^ (i - k)) (2 ^ k)))
        ∙ mul-mod_left (q * 2 ^ (i - k)) (2 ^ k)
        in
        ap (λ (z : ℕ). rnd z 1) none ∙ rnd_zero 1 (lit< tt) ∙ sym none
    go false f g =
        let part : q * 2 ^ i % 2 ^ k ≡ q % 2 ^ (k - i) * 2 ^ i =
        ap (λ (z : ℕ). q * 2 ^ i % z) (ap (λ (z : ℕ). 2 ^ z) (sym (back k i (le_of_lt (g tt)))) ∙ pow-add 2 (k - i) i)
        ∙ mod-mul (q * 2 ^ i) (pow_pos (k - i)) (pow_pos i)
        ∙ ap₂ (λ (a b : ℕ). a % 2 ^ (k - i) * 2 ^ i + b) (mul-div_cancel q (pow_pos i)) (mul-mod_left q (2 ^ i))
        ∙ add-zero (q % 2 ^ (k - i) * 2 ^ i)
        in
        ap (λ (z : ℕ). rnd z 1) (part ∙ sym (mul-one (q % 2 ^ (k - i) * 2 ^ i)))
        ∙ rnd_exact (q % 2 ^ (k - i)) i 1 (lit< tt) (lt_of_le_of_lt (mod-le q (2 ^ (k - i))) few)
        ∙ sym part
