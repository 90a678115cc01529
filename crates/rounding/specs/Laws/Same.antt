-- Two numbers of the same units are the same, but for the sign of a zero.
use Rattle.std.specs.Prelude.{◌≡◌, refl, Bool, true, false, cond, ℕ, zero, suc, ◌+◌, ◌-◌, ◌*◌, ◌/◌, ◌^◌, ◌<◌, ℤ, pos, negsuc, T, Float}
use Rattle.std.proofs.Common.{sym, ap, ◌∙◌, mul-pos, mul-one, one-mul, zero-lt-suc, lt_of_mul-lt-mul_right, zero-mul, lt_of_lt_of_le, lt_of_le_of_lt, le_of_eq, pow-suc, arith, eqb→eq, pow_pos}
use Rattle.std.specs.Float.{nan, inf, fin, binary32}
use Rattle.std.specs.Float.Ieee.{down, fits, to_bits, of_bits, top, hid}
use Rattle.std.specs.Float.Ieee as Ieee
use Rattle.std.specs.Float.Ieee.Fits.{up_pos}
use Rattle.std.specs.Float.Ieee.Bits.{of_bits-to_bits}
use Rattle.rounding.specs.Units.{U, size, P, N, Number}
use Rattle.rounding.specs.Laws.Whole.{U_pos, whole}

-- the bits of a number, by its sign and its size
pattern_of_lem : Bool → ℕ → ℕ
pattern_of_lem s n = cond s (top binary32) 0 + (Ieee.size n - 24) * hid binary32 + n / 2 ^ (Ieee.size n - 24)

bits_by_size : (s : Bool) (m : ℕ) (e : ℤ) → to_bits binary32 (fin s m e) ≡ pattern_of_lem s (size (fin s m e))
unfolding to_bits pattern_of_lem size U
bits_by_size s m e = refl

alike : (s : Bool) (m : ℕ) (e : ℤ) (n : ℕ) (d : ℤ) → T (fits binary32 (fin s m e)) → T (fits binary32 (fin s n d))
    → size (fin s m e) ≡ size (fin s n d) → fin s m e ≡ fin s n d
alike s m e n d h k g =
    sym (of_bits-to_bits binary32 (fin s m e) h)
    ∙ ap (λ (b : ℕ). of_bits binary32 b) (bits_by_size s m e ∙ ap (λ (z : ℕ). pattern_of_lem s z) g ∙ sym (bits_by_size s n d))
    ∙ of_bits-to_bits binary32 (fin s n d) k

pub same_number : (x y : Float) → Number x → Number y → P x ≡ P y → N x ≡ N y → 0 < P x + N x → x ≡ y
unfolding P N
same_number nan y h k p n g = absurd h.real
same_number (inf s) y h k p n g = absurd h.real
same_number (fin s m e) nan h k p n g = absurd k.real
same_number (fin s m e) (inf t) h k p n g = absurd k.real
same_number (fin false m e) (fin false o d) h k p n g = alike false m e o d h.held k.held p
same_number (fin true m e) (fin true o d) h k p n g = alike true m e o d h.held k.held n
same_number (fin false m e) (fin true o d) h k p n g = absurd (clash (size (fin false m e)) p g)
  where
    clash : (z : ℕ) → z ≡ 0 → 0 < z + 0 → ⊥
    clash z q r = omega arith
same_number (fin true m e) (fin false o d) h k p n g = absurd (clash (size (fin true m e)) n g)
  where
    clash : (z : ℕ) → z ≡ 0 → 0 < 0 + z → ⊥
    clash z q r = omega arith

-- what has digits is not nothing
pub some_size : (s : Bool) (m : ℕ) (e : ℤ) → T (fits binary32 (fin s (suc m) e)) → 0 < size (fin s (suc m) e)
some_size s m e t =
    lt_of_mul-lt-mul_right (down e)
    (lt_of_le_of_lt (le_of_eq (zero-mul (down e))) (lt_of_lt_of_le (mul-pos (mul-pos (zero-lt-suc m) (up_pos e)) U_pos) (le_of_eq (whole s (suc m) e t))))

-- a zero is written with the exponent 0
two_at_least : (k : ℕ) → 2 ^ suc k ≡ 1 → ⊥
two_at_least k h = let p : 0 < 2 ^ k = pow_pos k in let q : 2 ^ suc k ≡ 2 ^ k * 2 = pow-suc 2 k in omega arith

pub zero_exponent : (s : Bool) (e : ℤ) → T (fits binary32 (fin s zero e)) → e ≡ pos 0
unfolding fits
zero_exponent s (pos zero) t = refl
zero_exponent s (pos (suc k)) t = absurd (two_at_least k (sym (mul-one (2 ^ suc k)) ∙ eqb→eq (2 ^ suc k * 1) 1 t))
zero_exponent s (negsuc k) t = absurd (two_at_least k (sym (one-mul (2 ^ suc k)) ∙ eqb→eq (1 * 2 ^ suc k) 1 t))
