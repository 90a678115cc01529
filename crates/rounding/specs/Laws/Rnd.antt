-- Rounding to 24 digits, in whole numbers: a larger fraction rounds to a number that is no smaller, equal fractions round alike,
-- a number of 24 digits stays, and the error is at most half of the last digit kept.
use Rattle.std.specs.Prelude.{◌≡◌, refl, not, T, eqb}
use Rattle.std.proofs.Common.{sym, ap, ◌∙◌, subst, inl, inr, le_trans, le_of_eq, le_antisymm, lt_of_le_of_lt, eq-or-lt_of_le, mul_assoc, mul_comm, mul-one, mul-le-mul_right, mul-le-mul_left, mul-pos, le-div_iff_mul-le, div-mul-le_self, mul-div_cancel, div-add-mod', mod-lt, le_of_suc-le-suc, add-mul, zero-mul, suc-mul, lt_irrefl, zero-lt-suc, div-lt_iff_lt-mul, arith, leb→le, eqb→eq, lit<, pow-add, pow_pos, pow_mono, shl_lt}
use Prim.Native.Nat.compare
use Prim.Native.Nat.{ℕ, zero, suc, ◌+◌, ◌-◌, ◌*◌, ◌/◌, ◌%◌, ◌^◌, ◌≤◌, ◌<◌, zero-le, compare, Ordering}
use Rattle.std.proofs.Math.Nat.{div-div-eq-div-mul, mul-mod_left}
use Rattle.std.proofs.Math.Dec.{is_le, compare_is_eq, nleb→lt, eqb_refl}
use Rattle.std.proofs.Math.Arith.{lt_of_le-ne}
use Rattle.std.specs.Float.Ieee.{size, nearest}
use Rattle.std.specs.Float.Ieee.Digits.{size-lt, size-le, size_reaches, back}
use Rattle.std.specs.Float.Ieee.Fits.{kept-lt, nearest-le}
use Rattle.std.specs.Float.Ieee.Nearest.{closest, closest_mono, nearest-ge, div_mono}
use Rattle.std.specs.Float.Ieee.Order.{drop, kept}
use Rattle.rounding.specs.Units.{rnd}

-- ---- what `compare` says
abbrev Cmp : Ordering → ℕ → ℕ → Type 0
Cmp Ordering.lt a b = a < b
Cmp Ordering.eq a b = a ≡ b
Cmp Ordering.gt a b = b < a

cmp : (a b : ℕ) → Cmp (compare a b) a b
cmp a b = go (compare a b) (leb→le a b) (nleb→lt a b) (eqb→eq a b) (λ (e : a ≡ b). subst (λ (x : ℕ). T (eqb a x)) e (eqb_refl a))
  where
    go : (o : Ordering) → (T (is_le o) → a ≤ b) → (T (not (is_le o)) → b < a) → (T (compare_is_eq o) → a ≡ b) → (a ≡ b → T (compare_is_eq o)) → Cmp o a b
    go Ordering.lt h k e n = lt_of_le-ne (h tt) n
    go Ordering.eq h k e n = e tt
    go Ordering.gt h k e n = k tt

-- ---- a larger fraction rounds to a number that is no smaller
same_drop : (k a b c d : ℕ) → 0 < b → 0 < d → a * d ≤ c * b → closest a (b * 2 ^ k) * 2 ^ k ≤ closest c (d * 2 ^ k) * 2 ^ k
same_drop k a b c d B D h =
    mul-le-mul_right (2 ^ k)
    (closest_mono a (b * 2 ^ k) c (d * 2 ^ k) (mul-pos B (pow_pos k)) (mul-pos D (pow_pos k))
    (le_trans (le_of_eq (sym (mul_assoc a d (2 ^ k)))) (le_trans (mul-le-mul_right (2 ^ k) h) (le_of_eq (mul_assoc c b (2 ^ k))))))

kept_le : (n c : ℕ) → kept 24 n c ≤ 2 ^ 24
kept_le n c =
    let k = drop 24 n c in
    let u = c * 2 ^ k in
    le_trans (nearest-le (n / u) (compare (n % u * 2) u)) (subst (λ (x : ℕ). x < 2 ^ 24) (div-div-eq-div-mul n c (2 ^ k)) (kept-lt 24 (n / c)))

reached : (z : ℕ) → 0 < z - 24 → 23 + (z - 24) < z
reached z h = omega arith

-- where digits are dropped, the kept number has all 24
kept_ge : (n c : ℕ) → 0 < drop 24 n c → 2 ^ 23 ≤ kept 24 n c
kept_ge n c h =
    let k = drop 24 n c in
    let u = c * 2 ^ k in
    let w = n / c in
    let a : 2 ^ 23 * 2 ^ k ≤ w = le_trans (le_of_eq (sym (pow-add 2 23 k))) (size_reaches w (23 + k) (reached (size w) h)) in
    le_trans (subst (λ (x : ℕ). 2 ^ 23 ≤ x) (div-div-eq-div-mul n c (2 ^ k)) ((le-div_iff_mul-le (pow_pos k)).1 a)) (nearest-ge (n / u) (compare (n % u * 2) u))

fewer : (x y : ℕ) → x ≤ y → x - 24 ≤ y - 24
fewer x y h = omega arith

room : (j k : ℕ) → j < k → 24 + j ≤ 23 + k
room j k h = omega arith

-- either both drop as many digits, or a power of two lies between the two
pub rnd_mono : (a b c d : ℕ) → 0 < b → 0 < d → a * d ≤ c * b → rnd a b ≤ rnd c d
unfolding rnd
rnd_mono a b c d B D h =
    let j = drop 24 a b in
    let k = drop 24 c d in
    elim (eq-or-lt_of_le (fewer (size (a / b)) (size (c / d)) (more (div_mono a b c d B D h)))) [
      | inl e ↦ subst (λ (x : ℕ). closest a (b * 2 ^ x) * 2 ^ x ≤ kept 24 c d * 2 ^ k) (sym e) (same_drop k a b c d B D h)
      | inr l ↦
          le_trans (mul-le-mul_right (2 ^ j) (kept_le a b))
          (le_trans (le_of_eq (sym (pow-add 2 24 j)))
          (le_trans (pow_mono (room j k l))
          (le_trans (le_of_eq (pow-add 2 23 k)) (mul-le-mul_right (2 ^ k) (kept_ge c d (lt_of_le_of_lt zero-le l))))))
    ]
  where
    more : a / b ≤ c / d → size (a / b) ≤ size (c / d)
    more g = size-le (a / b) (size (c / d)) (lt_of_le_of_lt g (size-lt (c / d)))

-- equal fractions round alike
pub rnd_same : (a b c d : ℕ) → 0 < b → 0 < d → a * d ≡ c * b → rnd a b ≡ rnd c d
rnd_same a b c d B D e = le_antisymm (rnd_mono a b c d B D (le_of_eq e)) (rnd_mono c d a b D B (le_of_eq (sym e)))

-- ---- a number of 24 digits, with any number of zeros after them, stays
spare : (z l : ℕ) → z ≤ 24 + l → z - 24 ≤ l
spare z l h = omega arith

compare_zero : (u : ℕ) → 0 < u → compare 0 u ≡ Ordering.lt
compare_zero zero h = absurd (lt_irrefl 0 h)
compare_zero (suc u) h = compare.zero-suc u

closest_exact : (q u : ℕ) → 0 < u → closest (q * u) u ≡ q
closest_exact q u h =
    ap (λ (x : ℕ). nearest x (compare (q * u % u * 2) u)) (mul-div_cancel q h)
    ∙ ap (λ (x : ℕ). nearest q (compare (x * 2) u)) (mul-mod_left q u)
    ∙ ap (λ (o : Ordering). nearest q o) (compare_zero u h)

pub rnd_exact : (q j c : ℕ) → 0 < c → q < 2 ^ 24 → rnd (q * 2 ^ j * c) c ≡ q * 2 ^ j
unfolding rnd
rnd_exact q j c C Q =
    let n = q * 2 ^ j * c in
    let k = drop 24 n c in
    let whole : n / c ≡ q * 2 ^ j = mul-div_cancel (q * 2 ^ j) C in
    let k-le : k ≤ j = spare (size (n / c)) j (size-le (n / c) (24 + j) (subst (λ (x : ℕ). x < 2 ^ (24 + j)) (sym whole) (shl_lt 24 j Q))) in
    let back-up : q * 2 ^ (j - k) * 2 ^ k ≡ q * 2 ^ j =
    mul_assoc q (2 ^ (j - k)) (2 ^ k) ∙ ap (λ (x : ℕ). q * x) (sym (pow-add 2 (j - k) k) ∙ ap (λ (x : ℕ). 2 ^ x) (back j k k-le))
    in
    let units : n ≡ q * 2 ^ (j - k) * (c * 2 ^ k) =
    ap (λ (x : ℕ). x * c) (sym back-up) ∙ mul_assoc (q * 2 ^ (j - k)) (2 ^ k) c ∙ ap (λ (x : ℕ). q * 2 ^ (j - k) * x) (mul_comm (2 ^ k) c)
    in
    ap (λ (x : ℕ). closest x (c * 2 ^ k) * 2 ^ k) units ∙ ap (λ (x : ℕ). x * 2 ^ k) (closest_exact (q * 2 ^ (j - k)) (c * 2 ^ k) (mul-pos C (pow_pos k))) ∙ back-up

pub rnd_zero : (c : ℕ) → 0 < c → rnd 0 c ≡ 0
rnd_zero c C = rnd_same 0 c (0 * 2 ^ 0 * 1) 1 C (lit< tt) (zero-mul 1 ∙ sym (zero-mul c)) ∙ rnd_exact 0 0 1 (lit< tt) (lit< tt)

-- ---- the rounding error
-- the whole number nearest to a / u is off by half at most
closest_error : (a u : ℕ) → 0 < u → (2 * (closest a u * u) ≤ 2 * a + u) × (2 * a ≤ 2 * (closest a u * u) + u)
closest_error a u h = go (compare (a % u * 2) u) (cmp (a % u * 2) u)
  where
    go : (o : Ordering) → Cmp o (a % u * 2) u → (2 * (nearest (a / u) o * u) ≤ 2 * a + u) × (2 * a ≤ 2 * (nearest (a / u) o * u) + u)
    go Ordering.lt l = let d = div-add-mod' a u in omega arith
    go Ordering.eq l =
        let d = div-add-mod' a u in
        let b : a / u % 2 * u ≤ 1 * u = mul-le-mul_right u (le_of_suc-le-suc (mod-lt (a / u) (lit< tt))) in
        let w : (a / u + a / u % 2) * u ≡ a / u * u + a / u % 2 * u = add-mul (a / u) (a / u % 2) u in
        omega arith
    go Ordering.gt l =
        let d = div-add-mod' a u in
        let m : a % u < u = mod-lt a h in
        let w : suc (a / u) * u ≡ a / u * u + u = suc-mul (a / u) u in
        omega arith

-- with u for c * 2 ^ k, what is rounded to; two facts in one
rnd_off : (a c : ℕ) → 0 < c
    → (2 * (rnd a c * c) ≤ 2 * a + c * 2 ^ drop 24 a c) × (2 * a ≤ 2 * (rnd a c * c) + c * 2 ^ drop 24 a c)
unfolding rnd
rnd_off a c C =
    let k = drop 24 a c in
    let e : kept 24 a c * 2 ^ k * c ≡ kept 24 a c * (c * 2 ^ k) =
    mul_assoc (kept 24 a c) (2 ^ k) c ∙ ap (λ (x : ℕ). kept 24 a c * x) (mul_comm (2 ^ k) c)
    in
    let h = closest_error a (c * 2 ^ k) (mul-pos C (pow_pos k)) in
    (subst (λ (x : ℕ). 2 * x ≤ 2 * a + c * 2 ^ k) (sym e) h.0, subst (λ (x : ℕ). 2 * a ≤ 2 * x + c * 2 ^ k) (sym e) h.1)

-- where no digit is dropped the last digit kept is a unit, and otherwise it is at most 2 ^ -23 of the number
last_digit : (a c : ℕ) → 0 < c → c * 2 ^ drop 24 a c * 2 ^ 23 ≤ a + c * 2 ^ 23
last_digit a c C = go (drop 24 a c) refl
  where
    reach : (k : ℕ) → drop 24 a c ≡ suc k → 2 ^ 23 * 2 ^ suc k ≤ a / c
    reach k e =
        le_trans (le_of_eq (sym (pow-add 2 23 (suc k))))
        (size_reaches (a / c) (23 + suc k) (subst (λ (x : ℕ). 23 + x < size (a / c)) e (reached (size (a / c)) (subst (λ (x : ℕ). 0 < x) (sym e) (zero-lt-suc k)))))

    go : (k : ℕ) → drop 24 a c ≡ k → c * 2 ^ k * 2 ^ 23 ≤ a + c * 2 ^ 23
    go zero e = let m : c * 2 ^ 0 ≡ c = mul-one c in subst (λ (x : ℕ). x * 2 ^ 23 ≤ a + c * 2 ^ 23) (sym m) (omega arith)
    go (suc k) e =
        let h : 2 ^ 23 * 2 ^ suc k * c ≤ a = le_trans (mul-le-mul_right c (reach k e)) (div-mul-le_self a c) in
        let m : c * 2 ^ suc k * 2 ^ 23 ≡ 2 ^ 23 * 2 ^ suc k * c = mul_comm (c * 2 ^ suc k) (2 ^ 23) ∙ ap (λ (x : ℕ). 2 ^ 23 * x) (mul_comm c (2 ^ suc k)) ∙ sym (mul_assoc (2 ^ 23) (2 ^ suc k) c) in
        omega arith

-- at most 2 ^ -24 of the number and half a unit too much
pub err_hi : (a c : ℕ) → 0 < c → 2 ^ 24 * (rnd a c * c) ≤ 2 ^ 24 * a + a + 2 ^ 23 * c
err_hi a c C = let h = rnd_off a c C in let l = last_digit a c C in omega arith

-- and at most as much too little
pub err_lo : (a c : ℕ) → 0 < c → 2 ^ 24 * a ≤ 2 ^ 24 * (rnd a c * c) + a + 2 ^ 23 * c
err_lo a c C = let h = rnd_off a c C in let l = last_digit a c C in omega arith

-- below 2 ^ t numbers of 24 digits the error is at most half of 2 ^ t
small_drop : (t a c : ℕ) → 0 < c → a < 2 ^ (24 + t) * c → c * 2 ^ drop 24 a c ≤ c * 2 ^ t
small_drop t a c C h = mul-le-mul_left c (pow_mono (spare (size (a / c)) t (size-le (a / c) (24 + t) ((div-lt_iff_lt-mul C).1 h))))

pub under_hi : (t a c : ℕ) → 0 < c → a < 2 ^ (24 + t) * c → 2 * (rnd a c * c) ≤ 2 * a + c * 2 ^ t
under_hi t a c C h = let r = (rnd_off a c C).0 in let d = small_drop t a c C h in omega arith

pub under_lo : (t a c : ℕ) → 0 < c → a < 2 ^ (24 + t) * c → 2 * a ≤ 2 * (rnd a c * c) + c * 2 ^ t
under_lo t a c C h = let r = (rnd_off a c C).1 in let d = small_drop t a c C h in omega arith
