-- "With j = 16n+k, the ratio r keeps 10^j*(1-2^-12) <= r^320 < 10^(j+1), stated with r as a fraction of whole numbers": for every accepted gain.
-- The third factor, 1+f*0.11512925, lies from 1 to its value at f = 1/16; at both ends a test over all 817 steps j is computed.
use Rattle.std.specs.Prelude.{◌≡◌, ℕ, zero, suc, ◌*◌, ◌/◌, ◌%◌, ◌^◌, ◌<◌, ◌≤◌, Bool, true, ◌&&◌, T, ltb, leb, [], ◌∷◌, ◌==◌, nat_eq, nat_le, nat_lt, refl, Float}
use Rattle.std.proofs.Common.{sym, ap, ap₂, ◌∙◌, subst, inl, inr, suc-le-suc, le_trans, le_of_eq, lt_of_lt_of_le, lt_of_le_of_lt, mul_assoc, mul_right_comm, mul-le-mul_right, mul-le-mul_left, mul-lt-mul_of_pos_right, le_of_mul-le-mul_right, lt_of_mul-lt-mul_right, pow-suc, eq-or-lt_of_le, le_of_suc-le-suc, not-suc-le-zero, arith, eqb→eq, leb→le, ltb→lt}
use Rattle.std.proofs.Math.Nat.{pow-zero, pow-le-pow_left, one-le-pow, mul-mul-mul_comm}
use Rattle.std.specs.Float.{binary32}
use Rattle.std.specs.Float.Ieee.{lt, add, mul, fits, of_bits, size as bits}
use Rattle.std.specs.Float.Ieee.Fits.{and_l, and_r, mul-fits}
use Rattle.std.specs.Float.Ieee.Positive.{num, den, positive, positive-finite, den_pos, le→cross, between}
use Rattle.std.specs.Float.Ieee.Scale.{finite}
use Rattle.rounding.specs.Units.{U, size, P, N, Number, In}
use Rattle.rounding.specs.Laws.Order.{units→le}
use Rattle.rounding.specs.Laws.Between.{scaled_between}
use Rattle.rounding.specs.Laws.Exact.{constant_number}
use Rattle.floats.specs.Choice.{larger, smaller}
use Rattle.intervals.specs.Interval.{Expr, variable, constant, sum, product, eval, Box, box, bounded, Boxed}
use Rattle.intervals.specs.Laws.Interval.{interval}
use Rattle.units.specs.Figures.{gain}
use Rattle.decibels.specs.Ratio.{steps, rest, A, B, ratio_of, whole_bits, sixteenth_bits}
use Rattle.decibels.specs.Laws.Split.{Split, split, accepted, steps_most}

-- ---- the third factor
abbrev sixteenth_box : Box
sixteenth_box = record { low = of_bits binary32 0x0000_0000; high = of_bits binary32 0x3d80_0000 }

factor : Expr
factor = sum (constant (of_bits binary32 0x3f80_0000)) (product (variable 0) (constant (of_bits binary32 0x3deb_c8e2)))

-- its value at 0, and at a sixteenth
least : Float
least = of_bits binary32 0x3f80_0000

most : Float
most = of_bits binary32 0x3f80_ebc9

factor_low : (box (sixteenth_box ∷ []) factor).low ≡ least
unfolding factor least box add mul larger smaller lt of_bits bits
factor_low = refl

factor_high : (box (sixteenth_box ∷ []) factor).high ≡ most
unfolding factor most box add mul larger smaller lt of_bits bits
factor_high = refl

factor_bounded : T (bounded (sixteenth_box ∷ []) factor)
unfolding factor bounded add mul larger smaller of_bits bits fits lt
factor_bounded = tt

-- ---- at each step: the first two factors, and their product with the third at both ends
first_two : ℕ → Float
first_two j = mul binary32 (A (j / 16)) (B (j % 16))

low_end : ℕ → Float
low_end j = mul binary32 (first_two j) least

high_end : ℕ → Float
high_end j = mul binary32 (first_two j) most

-- r is no less than 10 ^ (j / 320) but for 2 ^ -12 of r ^ 320; r is below 10 ^ ((j + 1) / 320)
abbrev pub AtLeast : ℕ → Float → Type 0
AtLeast j r = 10 ^ j * 4095 * den r ^ 320 ≤ 4096 * num r ^ 320

abbrev pub Below : ℕ → Float → Type 0
Below j r = num r ^ 320 < 10 ^ suc j * den r ^ 320

step_ok : ℕ → Bool
step_ok j =
    let t = first_two j in
    let l = low_end j in
    let h = high_end j in
    positive t && N t == 0 && positive l && positive h && nat_le (10 ^ j * 4095 * den l ^ 320) (4096 * num l ^ 320) && nat_lt (num h ^ 320) (10 ^ suc j * den h ^ 320)

-- the test at every step below n
all_ok : ℕ → Bool
unfolding step_ok
all_ok zero = true
all_ok (suc j) = all_ok j && step_ok j

every_step : T (all_ok 817)
unfolding all_ok step_ok low_end high_end first_two least most A B whole_bits sixteenth_bits N size U mul of_bits bits
every_step = tt

step_at : (n j : ℕ) → T (all_ok n) → j < n → T (step_ok j)
unfolding all_ok
step_at zero j t h = absurd (not-suc-le-zero h)
step_at (suc n) j t h = elim (eq-or-lt_of_le (le_of_suc-le-suc h)) [ inl e ↦ subst (λ (z : ℕ). T (step_ok z)) (sym e) (and_r (all_ok n) (step_ok n) t) | inr l ↦ step_at n j (and_l (all_ok n) (step_ok n) t) l ]

-- ---- a step's facts
record Step (j : ℕ) : Type 0 where
  pub number : Number (first_two j)
  pub none_below : N (first_two j) ≡ 0
  pub low : T (positive (low_end j))
  pub high : T (positive (high_end j))
  pub at_least : AtLeast j (low_end j)
  pub below : Below j (high_end j)

step : (j : ℕ) → j ≤ 816 → Step j
unfolding step_ok first_two
step j h =
    let t = first_two j in
    let l = low_end j in
    let r = high_end j in
    let t1 = positive t in
    let t2 = nat_eq (N t) 0 in
    let t3 = positive l in
    let t4 = positive r in
    let t5 = leb (10 ^ j * 4095 * den l ^ 320) (4096 * num l ^ 320) in
    let t6 = ltb (num r ^ 320) (10 ^ suc j * den r ^ 320) in
    let all = step_at 817 j every_step (suc-le-suc h) in
    let a5 = and_l (t1 && t2 && t3 && t4 && t5) t6 all in
    let a4 = and_l (t1 && t2 && t3 && t4) t5 a5 in
    let a3 = and_l (t1 && t2 && t3) t4 a4 in
    let a2 = and_l (t1 && t2) t3 a3 in
    record {
      number = record { real = positive-finite t (and_l t1 t2 a2); held = mul-fits binary32 (A (j / 16)) (B (j % 16)) };
      none_below = eqb→eq (N t) 0 (and_r t1 t2 a2);
      low = and_r (t1 && t2) t3 a3;
      high = and_r (t1 && t2 && t3) t4 a4;
      at_least = leb→le (10 ^ j * 4095 * den l ^ 320) (4096 * num l ^ 320) (and_r (t1 && t2 && t3 && t4) t5 a5);
      below = ltb→lt (num r ^ 320) (10 ^ suc j * den r ^ 320) (and_r (t1 && t2 && t3 && t4 && t5) t6 all);
    }

-- ---- the third factor lies between its ends
real_low : T (finite (of_bits binary32 0x0000_0000))
unfolding of_bits
real_low = tt

real_high : T (finite (of_bits binary32 0x3d80_0000))
unfolding of_bits
real_high = tt

low_units : (P (of_bits binary32 0x0000_0000) ≡ 0) × (N (of_bits binary32 0x0000_0000) ≡ 0)
unfolding P N of_bits
low_units = (refl, refl)

high_units : (P (of_bits binary32 0x3d80_0000) * 16 ≡ U) × (N (of_bits binary32 0x3d80_0000) ≡ 0)
unfolding P N of_bits
high_units = (refl, refl)

rest_boxed : (x : Float) → Split x → Boxed sixteenth_box (rest x)
rest_boxed x s =
    let l = constant_number 0x0000_0000 real_low in
    let h = constant_number 0x3d80_0000 real_high in
    let below = s.part_below in
    let none = s.rest_above in
    let lp = low_units.0 in
    let ln = low_units.1 in
    let hp = high_units.0 in
    let hn = high_units.1 in
    record { low_number = l; high_number = h; inside = record { number = s.rest_number; above = omega arith; below = omega arith } }

third : Float → Float
third x = add binary32 (of_bits binary32 0x3f80_0000) (mul binary32 (rest x) (of_bits binary32 0x3deb_c8e2))

third_in : (x : Float) → Split x → In least most (third x)
unfolding third factor eval
third_in x s =
    let b = interval (sixteenth_box ∷ []) (rest x ∷ []) (rest_boxed x s, tt) factor factor_bounded in
    subst (λ (z : Float). In z most (third x)) factor_low (subst (λ (z : Float). In (box (sixteenth_box ∷ []) factor).low z (third x)) factor_high b.inside)

least_number : Number least
unfolding least of_bits
least_number = constant_number 0x3f80_0000 tt

most_number : Number most
unfolding most of_bits
most_number = constant_number 0x3f80_ebc9 tt

-- ---- from the ends to what lies between them, in whole numbers
raise : (e a b : ℕ) → (a * b) ^ e ≡ a ^ e * b ^ e
raise zero a b = pow-zero (a * b) ∙ sym (ap₂ ◌*◌ (pow-zero a) (pow-zero b))
raise (suc e) a b =
    pow-suc (a * b) e ∙ ap (λ (z : ℕ). z * (a * b)) (raise e a b) ∙ mul-mul-mul_comm (a ^ e) (b ^ e) a b ∙ ap₂ ◌*◌ (sym (pow-suc a e)) (sym (pow-suc b e))

crossed : (e a q p b : ℕ) → a * q ≤ p * b → a ^ e * q ^ e ≤ p ^ e * b ^ e
crossed e a q p b h = le_trans (le_of_eq (sym (raise e a q))) (le_trans (pow-le-pow_left h e) (le_of_eq (raise e p b)))

up_from : (c A B' Q P' m : ℕ) → 0 < B' → A * Q ≤ P' * B' → c * B' ≤ m * A → c * Q ≤ m * P'
up_from c A B' Q P' m some h k =
    le_of_mul-le-mul_right (le_trans (le_of_eq (mul_right_comm c Q B')) (le_trans (mul-le-mul_right Q k) (le_trans (le_of_eq (mul_assoc m A Q)) (le_trans (mul-le-mul_left m h) (le_of_eq (sym (mul_assoc m P' B'))))))) some

down_from : (c C D P' Q : ℕ) → 0 < Q → P' * D ≤ C * Q → C < c * D → P' < c * Q
down_from c C D P' Q some h k =
    lt_of_mul-lt-mul_right D (lt_of_le_of_lt h (lt_of_lt_of_le (mul-lt-mul_of_pos_right k some) (le_of_eq (mul_right_comm c D Q))))

-- ---- the bound
pub record Bound (x : Float) : Type 0 where
  pub at_least : 10 ^ steps x * 4095 * den (ratio_of x) ^ 320 ≤ 4096 * num (ratio_of x) ^ 320
  pub below : num (ratio_of x) ^ 320 < 10 ^ suc (steps x) * den (ratio_of x) ^ 320

pub bound : (x : Float) → T (fits binary32 x) → T (gain x) → Bound x
unfolding ratio_of third first_two low_end high_end
bound x t g =
    let j = steps x in
    let st = step j (steps_most x (accepted x t g)) in
    let l = low_end j in
    let h = high_end j in
    let r = ratio_of x in
    let i = scaled_between (first_two j) least most (third x) st.number st.none_below least_number most_number (third_in x (split x t g)) (positive-finite l st.low) (positive-finite h st.high) in
    let ln : Number l = record { real = positive-finite l st.low; held = mul-fits binary32 (first_two j) least } in
    let hn : Number h = record { real = positive-finite h st.high; held = mul-fits binary32 (first_two j) most } in
    let lr = units→le l r ln i.number i.above in
    let rh = units→le r h i.number hn i.below in
    let pr = between l r h st.low st.high lr rh in
    record {
      at_least = up_from (10 ^ j * 4095) (num l ^ 320) (den l ^ 320) (den r ^ 320) (num r ^ 320) 4096 (one-le-pow 320 (den l) (den_pos l)) (crossed 320 (num l) (den r) (num r) (den l) (le→cross l r st.low pr lr)) st.at_least;
      below = down_from (10 ^ suc j) (num h ^ 320) (den h ^ 320) (num r ^ 320) (den r ^ 320) (one-le-pow 320 (den r) (den_pos r)) (crossed 320 (num r) (den h) (num h) (den r) (le→cross r h pr st.high rh)) st.below;
    }
