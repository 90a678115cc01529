-- A number is a whole number of units: 24 digits with zeros after them, below the limit, above zero or below it and never both.
use Rattle.std.specs.Prelude.{◌≡◌, refl, ◌⊎◌, Bool, true, false, ◌&&◌, ℕ, zero, suc, ◌+◌, ◌-◌, ◌*◌, ◌/◌, ◌%◌, ◌^◌, ◌≤◌, ◌<◌, ℤ, pos, negsuc, T, ltb, leb, eqb, Float}
use Rattle.std.proofs.Common.{sym, ap, ◌∙◌, subst, inl, inr, suc-le-suc, mul_assoc, mul_right_comm, mul-one, one-mul, zero-mul, mul-div_cancel, mul-lt-mul_of_pos_right, lt_of_mul-lt-mul_right, add-zero, zero-add, not-le_of_lt, lt_of_not-le, arith, ltb→lt, leb→le, pow-add}
use Rattle.std.proofs.Math.Nat.{zero-div}
use Rattle.std.proofs.Math.Dec.{lit<}
use Rattle.std.proofs.Math.Pow.{pow-lt}
use Rattle.std.specs.Float.{nan, inf, fin, binary32}
use Rattle.std.specs.Float.Ieee.{up, down, fits}
use Rattle.std.specs.Float.Ieee.Digits.{back}
use Rattle.std.specs.Float.Ieee.Fits.{and_l, and_r, down_pos}
use Rattle.rounding.specs.Units.{U, limit, size, P, N, Number, rnd}
use Rattle.rounding.specs.Laws.Rnd.{rnd_exact, rnd_zero}

pub U_pos : 0 < U
unfolding U
U_pos = lit< tt

pub limit_pos : 0 < limit
unfolding limit
limit_pos = lit< tt

-- ---- what it takes to fit
four : (a b c d : Bool) → T (a && b && c && d) → T b × T c × T d
four a b c d t = (and_r a b (and_l (a && b) c (and_l (a && b && c) d t)), and_r (a && b) c (and_l (a && b && c) d t), and_r (a && b && c) d t)

parts : (s : Bool) (m : ℕ) (e : ℤ) → T (fits binary32 (fin s (suc m) e))
    → T (ltb (suc m) (2 ^ 24)) × T (leb (down e) (2 ^ 149)) × T (ltb (suc m * up e) (2 ^ 128 * down e))
unfolding fits
parts s m e t = four (eqb (suc m % 2) 1) (ltb (suc m) (2 ^ 24)) (leb (down e) (2 ^ 149)) (ltb (suc m * up e) (2 ^ 128 * down e)) t

few_digits : (s : Bool) (m : ℕ) (e : ℤ) → T (fits binary32 (fin s (suc m) e)) → suc m < 2 ^ 24
few_digits s m e t = ltb→lt (suc m) (2 ^ 24) (parts s m e t).0

not_too_fine : (s : Bool) (m : ℕ) (e : ℤ) → T (fits binary32 (fin s (suc m) e)) → down e ≤ 2 ^ 149
not_too_fine s m e t = leb→le (down e) (2 ^ 149) (parts s m e t).1

not_too_large : (s : Bool) (m : ℕ) (e : ℤ) → T (fits binary32 (fin s (suc m) e)) → suc m * up e < 2 ^ 128 * down e
not_too_large s m e t = ltb→lt (suc m * up e) (2 ^ 128 * down e) (parts s m e t).2

-- ---- 2 ^ e is 2 ^ j units
places : ℤ → ℕ
places (pos k) = k + 149
places (negsuc k) = 149 - suc k

exponent : (k : ℕ) → 2 ^ suc k ≤ 2 ^ 149 → suc k ≤ 149
exponent k h = lt_of_not-le (λ (g : 149 ≤ k). not-le_of_lt (pow-lt (suc-le-suc g)) h)

in_units : (e : ℤ) → down e ≤ 2 ^ 149 → up e * U ≡ 2 ^ places e * down e
unfolding U places
in_units (pos k) h = sym (pow-add 2 k 149) ∙ sym (mul-one (2 ^ (k + 149)))
in_units (negsuc k) h = one-mul (2 ^ 149) ∙ ap (λ (x : ℕ). 2 ^ x) (sym (back 149 (suc k) (exponent k h))) ∙ pow-add 2 (149 - suc k) (suc k)

-- ---- a number's size: its digits, and the zeros after them
pub record Digits (x : Float) : Type 0 where
  pub digits : ℕ
  pub zeros : ℕ
  pub few : digits < 2 ^ 24
  pub are : size x ≡ digits * 2 ^ zeros

sized : (s : Bool) (m : ℕ) (e : ℤ) → down e ≤ 2 ^ 149 → size (fin s m e) ≡ m * 2 ^ places e
unfolding size
sized s m e h =
    ap (λ (x : ℕ). x / down e) (mul_assoc m (up e) U ∙ ap (λ (x : ℕ). m * x) (in_units e h) ∙ sym (mul_assoc m (2 ^ places e) (down e)))
    ∙ mul-div_cancel (m * 2 ^ places e) (down_pos e)

-- what has no digits is 0 units
nothing : (s : Bool) (e : ℤ) → size (fin s zero e) ≡ 0
unfolding size
nothing s e = ap (λ (x : ℕ). x / down e) (ap (λ (x : ℕ). x * U) (zero-mul (up e)) ∙ zero-mul U) ∙ zero-div (down e)

pub digits_of : (x : Float) → Number x → Digits x
digits_of nan h = absurd h.real
digits_of (inf s) h = absurd h.real
digits_of (fin s zero e) h = record { digits = 0; zeros = 0; few = lit< tt; are = nothing s e }
digits_of (fin s (suc m) e) h =
    record {
      digits = suc m;
      zeros = places e;
      few = few_digits s m e h.held;
      are = sized s (suc m) e (not_too_fine s m e h.held);
    }

-- the fraction m * up e / down e, in units, with nothing cut off
pub whole : (s : Bool) (m : ℕ) (e : ℤ) → T (fits binary32 (fin s m e)) → m * up e * U ≡ size (fin s m e) * down e
whole s zero e t = ap (λ (x : ℕ). x * U) (zero-mul (up e)) ∙ zero-mul U ∙ sym (ap (λ (x : ℕ). x * down e) (nothing s e) ∙ zero-mul (down e))
whole s (suc m) e t =
    mul_assoc (suc m) (up e) U
    ∙ ap (λ (x : ℕ). suc m * x) (in_units e (not_too_fine s m e t))
    ∙ sym (mul_assoc (suc m) (2 ^ places e) (down e))
    ∙ ap (λ (x : ℕ). x * down e) (sym (sized s (suc m) e (not_too_fine s m e t)))

pub size_limit : (x : Float) → Number x → size x < limit
size_limit nan h = absurd h.real
size_limit (inf s) h = absurd h.real
size_limit (fin s zero e) h = subst (λ (n : ℕ). n < limit) (sym (nothing s e)) (unfold limit in lit< tt)
size_limit (fin s (suc m) e) h =
    lt_of_mul-lt-mul_right (down e)
    (subst (λ (n : ℕ). n < limit * down e) (whole s (suc m) e h.held)
    (subst (λ (n : ℕ). suc m * up e * U < n) shuffled (mul-lt-mul_of_pos_right (not_too_large s m e h.held) U_pos)))
  where
    shuffled : 2 ^ 128 * down e * U ≡ limit * down e
    shuffled = mul_right_comm (2 ^ 128) (down e) U ∙ ap (λ (n : ℕ). n * down e) (unfold U limit in refl)

-- a number stays as it is when it is rounded
pub kept_size : (x : Float) → Number x → rnd (size x) 1 ≡ size x
kept_size x h =
    let d = digits_of x h in
    let w : size x ≡ d.digits * 2 ^ d.zeros * 1 = d.are ∙ sym (mul-one (d.digits * 2 ^ d.zeros)) in
    ap (λ (n : ℕ). rnd n 1) w ∙ rnd_exact d.digits d.zeros 1 (lit< tt) d.few ∙ sym d.are

-- ---- the two sides of zero
-- x is not on both sides of zero; and its size is the units on the one side
pub record Sides (x : Float) : Type 0 where
  pub one : (P x ≡ 0) ⊎ (N x ≡ 0)
  pub both : P x + N x ≡ size x

pub sides : (x : Float) → Number x → Sides x
unfolding P N
sides nan h = absurd h.real
sides (inf s) h = absurd h.real
sides (fin true m e) h = record { one = inl refl; both = zero-add (size (fin true m e)) }
sides (fin false m e) h = record { one = inr refl; both = add-zero (size (fin false m e)) }

pub P-kept : (x : Float) → Number x → rnd (P x) 1 ≡ P x
unfolding P
P-kept nan h = absurd h.real
P-kept (inf s) h = absurd h.real
P-kept (fin true m e) h = rnd_zero 1 (lit< tt)
P-kept (fin false m e) h = kept_size (fin false m e) h

pub N-kept : (x : Float) → Number x → rnd (N x) 1 ≡ N x
unfolding N
N-kept nan h = absurd h.real
N-kept (inf s) h = absurd h.real
N-kept (fin true m e) h = kept_size (fin true m e) h
N-kept (fin false m e) h = rnd_zero 1 (lit< tt)

pub P-limit : (x : Float) → Number x → P x < limit
P-limit x h = let s = (sides x h).both in let l = size_limit x h in omega arith

pub N-limit : (x : Float) → Number x → N x < limit
N-limit x h = let s = (sides x h).both in let l = size_limit x h in omega arith
