-- "x = n + k/16 + f with whole n, whole k below 16, and f below 1/16, all exact": nothing is rounded in the split.
use Rattle.std.specs.Prelude.{◌≡◌, ℕ, ◌+◌, ◌-◌, ◌*◌, ◌/◌, ◌%◌, ◌^◌, ◌<◌, ◌≤◌, true, false, T, ◌⊎◌, pos, refl, Float}
use Rattle.std.proofs.Common.{sym, ap, ap₂, ◌∙◌, subst, inl, inr, le_of_suc-le-suc, lt_of_lt_of_le, lt_of_le_of_lt, add-zero, mul-le-mul_right, div-lt_iff_lt-mul, div-add-mod', mod-lt, mul_right_comm, arith, lit<, lit≤}
use Rattle.std.proofs.Math.Nat.{sub-zero, mul-div-mul_right, zero-sub}
use Rattle.std.specs.Float.{nan, inf, fin, binary32}
use Rattle.std.specs.Float.Ieee.{up, down, fits, le, lt, mul, of_int, of_bits, to_unsigned}
use Rattle.std.specs.Float.Ieee.Fits.{and_l, and_r, down_pos}
use Rattle.std.specs.Float.Ieee.Nearest.{div_same}
use Rattle.rounding.specs.Units.{U, limit, size, P, N, Number, Value, rnd}
use Rattle.rounding.specs.Laws.Rnd.{rnd_exact, rnd_zero}
use Rattle.rounding.specs.Laws.Whole.{U_pos, limit_pos, whole, sides, digits_of}
use Rattle.rounding.specs.Laws.Order.{between, le→units, units→lt}
use Rattle.rounding.specs.Laws.Operations.{sub_above, mul_above}
use Rattle.rounding.specs.Laws.Exact.{constant_number, whole_number, twofold, truncated, remainder_kept}
use Rattle.units.specs.Figures.{gain}
use Rattle.decibels.specs.Ratio.{steps, rest}

abbrev lowest : Float
lowest = of_bits binary32 0x0000_0000

abbrev highest : Float
highest = of_bits binary32 0x424c_0000

-- ---- a gain that is accepted: from 0 to 51
pub record Gain (x : Float) : Type 0 where
  pub number : Number x
  pub none_below : N x ≡ 0
  pub most : P x ≤ 51 * U

lowest_value : Value lowest 0 0
unfolding P N size of_bits
lowest_value = record { number = constant_number 0 tt; plus = refl; minus = refl }

highest_value : Value highest (51 * U) 0
unfolding P N size U of_bits
highest_value = record { number = constant_number 0x424c_0000 tt; plus = refl; minus = refl }

pub accepted : (x : Float) → T (fits binary32 x) → T (gain x) → Gain x
accepted x t g =
    let low = and_l (le lowest x) (le x highest) g in
    let high = and_r (le lowest x) (le x highest) g in
    let l = lowest_value in
    let h = highest_value in
    let n = between lowest highest x l.number h.number t low high in
    let a = le→units lowest x l.number n low in
    let b = le→units x highest n h.number high in
    let lp = l.plus in
    let ln = l.minus in
    let hp = h.plus in
    let hn = h.minus in
    let ordered : N x ≤ P x = omega arith in
    let none = clear (sides x n).one ordered in
    record { number = n; none_below = none; most = most (P x) (N x) (P highest) (N highest) (51 * U) b hp hn none }
  where
    clear : (P x ≡ 0) ⊎ (N x ≡ 0) → N x ≤ P x → N x ≡ 0
    clear (inl e) o = below (P x) (N x) e o
      where
        below : (p n : ℕ) → p ≡ 0 → n ≤ p → n ≡ 0
        below p n e o = omega arith
    clear (inr e) o = e

    most : (p n q m z : ℕ) → p + m ≤ q + n → q ≡ z → m ≡ 0 → n ≡ 0 → p ≤ z
    most p n q m z i j k l = omega arith

-- ---- the whole sixteenths
in_units : (x : Float) → Gain x → size x ≡ P x
in_units x g = sym (sides x g.number).both ∙ ap (λ (z : ℕ). P x + z) g.none_below ∙ add-zero (P x)

pub steps_units : (x : Float) → Gain x → steps x ≡ P x * 16 / U
unfolding steps
steps_units nan g = absurd g.number.real
steps_units (inf s) g = absurd g.number.real
steps_units (fin s m e) g =
    let x = fin s m e in
    div_same (m * up e * 16) (down e) (P x * 16) U (down_pos e) U_pos
    (mul_right_comm (m * up e) 16 U ∙ ap (λ (z : ℕ). z * 16) (whole s m e g.number.held ∙ ap (λ (z : ℕ). z * down e) (in_units x g)) ∙ mul_right_comm (P x) (down e) 16)

below_817 : (p u : ℕ) → 0 < u → p ≤ 51 * u → p * 16 < 817 * u
below_817 p u h l = omega arith

pub steps_most : (x : Float) → Gain x → steps x ≤ 816
steps_most x g = subst (λ (z : ℕ). z ≤ 816) (sym (steps_units x g)) (le_of_suc-le-suc ((div-lt_iff_lt-mul U_pos).1 (below_817 (P x) U U_pos g.most)))

-- ---- x * 16.0 is exact, and without its fraction it is the whole sixteenths
abbrev sixteen : Float
sixteen = of_bits binary32 0x4180_0000

sixteen_value : Value sixteen (2 ^ 4 * U) 0
unfolding P N size U of_bits
sixteen_value = record { number = constant_number 0x4180_0000 tt; plus = refl; minus = refl }

room : (p : ℕ) → p ≤ 51 * U → p * 2 ^ 4 < limit
unfolding U limit
room p l = lt_of_le_of_lt (mul-le-mul_right 16 l) (lit< tt)

pub sixteenfold : (x : Float) → Gain x → Value (mul binary32 x sixteen) (P x * 16) 0
sixteenfold x g = twofold x sixteen 4 g.number g.none_below sixteen_value (room (P x) g.most)

narrow : (j : ℕ) → j ≤ 816 → j ≤ 2 ^ 64 - 1
narrow j h = omega arith

pub cut_off : (x : Float) → Gain x → to_unsigned 64 (mul binary32 x sixteen) ≡ steps x
cut_off x g =
    let v = sixteenfold x g in
    let p : P (mul binary32 x sixteen) / U ≡ steps x = ap (λ (z : ℕ). z / U) v.plus ∙ sym (steps_units x g) in
    truncated 64 (mul binary32 x sixteen) v.number v.minus (subst (λ (z : ℕ). z ≤ 2 ^ 64 - 1) (sym p) (narrow (steps x) (steps_most x g))) ∙ p

-- ---- what is left
-- 2 ^ 145 units are a sixteenth
pub sixteenth : ℕ
sixteenth = 2 ^ 145

pub sixteenth_is : sixteenth * 16 ≡ U
unfolding sixteenth U
sixteenth_is = refl

sixteenth_pos : 0 < sixteenth
unfolding sixteenth
sixteenth_pos = lit< tt

steps_of : (x : Float) → Gain x → steps x ≡ P x / sixteenth
steps_of x g = steps_units x g ∙ ap (λ (z : ℕ). P x * 16 / z) (sym sixteenth_is) ∙ mul-div-mul_right (P x) sixteenth (lit< tt)

part : Float → Float
part x = mul binary32 (of_int binary32 (pos (steps x))) (of_bits binary32 0x3d80_0000)

unit_value : Value (of_bits binary32 0x3d80_0000) sixteenth 0
unfolding P N size U of_bits sixteenth
unit_value = record { number = constant_number 0x3d80_0000 tt; plus = refl; minus = refl }

part_kept : (j : ℕ) → j < 2 ^ 24 → rnd (j * U * sixteenth - 0) U ≡ j * sixteenth
unfolding sixteenth
part_kept j h = ap (λ (z : ℕ). rnd z U) (sub-zero (j * U * 2 ^ 145) ∙ mul_right_comm j U (2 ^ 145)) ∙ rnd_exact j 145 U U_pos h

part_room : (j : ℕ) → j ≤ 816 → j * sixteenth < limit
unfolding sixteenth limit
part_room j h = lt_of_le_of_lt (mul-le-mul_right (2 ^ 145) h) (lit< tt)

few : (j : ℕ) → j ≤ 816 → j < 2 ^ 24
few j h = omega arith

-- the sixteenths as a float, exactly
part_value : (x : Float) → Gain x → Value (part x) (steps x * sixteenth) 0
unfolding part
part_value x g =
    let j = steps x in
    let w = whole_number j (few j (steps_most x g)) in
    let u = unit_value in
    let r = mul_above (of_int binary32 (pos j)) (of_bits binary32 0x3d80_0000) w.number u.number w.minus u.minus in
    let both : P (of_int binary32 (pos j)) * P (of_bits binary32 0x3d80_0000) ≡ j * U * sixteenth = ap₂ ◌*◌ w.plus u.plus in
    let plus : rnd (P (of_int binary32 (pos j)) * P (of_bits binary32 0x3d80_0000) - 0) U ≡ j * sixteenth = ap (λ (z : ℕ). rnd (z - 0) U) both ∙ part_kept j (few j (steps_most x g)) in
    let minus : rnd (0 - P (of_int binary32 (pos j)) * P (of_bits binary32 0x3d80_0000)) U ≡ 0 = ap (λ (z : ℕ). rnd z U) (zero-sub (P (of_int binary32 (pos j)) * P (of_bits binary32 0x3d80_0000))) ∙ rnd_zero U U_pos in
    let v = r.value (subst (λ (z : ℕ). z < limit) (sym plus) (part_room j (steps_most x g))) (subst (λ (z : ℕ). z < limit) (sym minus) limit_pos) in
    record { number = v.number; plus = v.plus ∙ plus; minus = v.minus ∙ minus }

left_over : (p j u m : ℕ) → j * u + m ≡ p → p - j * u ≡ m
left_over p j u m e = omega arith

none_over : (p j u m : ℕ) → j * u + m ≡ p → j * u - p ≡ 0
none_over p j u m e = omega arith

sixteenth_limit : sixteenth ≤ limit
unfolding sixteenth limit
sixteenth_limit = lit≤ tt

remainder_units : (x : Float) → Gain x → rnd (P x % sixteenth) 1 ≡ P x % sixteenth
unfolding sixteenth
remainder_units x g =
    let d = digits_of x g.number in
    let are : P x ≡ d.digits * 2 ^ d.zeros = sym (in_units x g) ∙ d.are in
    subst (λ (z : ℕ). rnd (z % 2 ^ 145) 1 ≡ z % 2 ^ 145) (sym are) (remainder_kept 145 d.digits d.zeros d.few)

pub rest_value : (x : Float) → Gain x → Value (rest x) (P x % sixteenth) 0
unfolding rest part
rest_value x g =
    let v = part_value x g in
    let j = steps x in
    let split : j * sixteenth + P x % sixteenth ≡ P x = ap (λ (z : ℕ). z * sixteenth + P x % sixteenth) (steps_of x g) ∙ div-add-mod' (P x) sixteenth in
    let plus : rnd (P x - P (part x)) 1 ≡ P x % sixteenth =
    ap (λ (z : ℕ). rnd (P x - z) 1) v.plus ∙ ap (λ (z : ℕ). rnd z 1) (left_over (P x) j sixteenth (P x % sixteenth) split) ∙ remainder_units x g
    in
    let minus : rnd (P (part x) - P x) 1 ≡ 0 =
    ap (λ (z : ℕ). rnd (z - P x) 1) v.plus ∙ ap (λ (z : ℕ). rnd z 1) (none_over (P x) j sixteenth (P x % sixteenth) split) ∙ rnd_zero 1 (lit< tt)
    in
    let small : P x % sixteenth < limit = lt_of_lt_of_le (mod-lt (P x) sixteenth_pos) sixteenth_limit in
    let r = (sub_above x (part x) g.number v.number g.none_below v.minus).value (subst (λ (z : ℕ). z < limit) (sym plus) small) (subst (λ (z : ℕ). z < limit) (sym minus) limit_pos) in
    record { number = r.number; plus = r.plus ∙ plus; minus = r.minus ∙ minus }

-- ---- the split, exact: x is steps x sixteenths and what is left, and that is below a sixteenth. All are whole numbers of units
pub record Split (x : Float) : Type 0 where
  pub whole : P x * 16 ≡ steps x * U + P (rest x) * 16
  pub part_below : P (rest x) * 16 < U
  pub rest_number : Number (rest x)
  pub rest_above : N (rest x) ≡ 0

pub split : (x : Float) → T (fits binary32 x) → T (gain x) → Split x
split x t h =
    let g = accepted x t h in
    let v = rest_value x g in
    let j = steps x in
    let sum : j * sixteenth + P x % sixteenth ≡ P x = ap (λ (z : ℕ). z * sixteenth + P x % sixteenth) (steps_of x g) ∙ div-add-mod' (P x) sixteenth in
    let below : P x % sixteenth < sixteenth = mod-lt (P x) sixteenth_pos in
    let rv = v.plus in
    let su = sixteenth_is in
    record {
      whole = together (P x) j sixteenth U (P x % sixteenth) (P (rest x)) sum su rv;
      part_below = smaller (P (rest x)) (P x % sixteenth) sixteenth U rv below su;
      rest_number = v.number;
      rest_above = v.minus;
    }
  where
    together : (p j s u m r : ℕ) → j * s + m ≡ p → s * 16 ≡ u → r ≡ m → p * 16 ≡ j * u + r * 16
    together p j s u m r a b c =
        let d : j * (s * 16) ≡ j * u = ap (λ (z : ℕ). j * z) b in
        omega arith

    smaller : (r m s u : ℕ) → r ≡ m → m < s → s * 16 ≡ u → r * 16 < u
    smaller r m s u a b c = omega arith

-- ---- what a cast to a whole number asks of x * 16.0
minus_one : Value (fin true 1 (pos 0)) 0 U
unfolding P N size U fits
minus_one = record { number = record { real = tt; held = tt }; plus = refl; minus = refl }

two_to_64 : Value (fin false 1 (pos 64)) (2 ^ 64 * U) 0
unfolding P N size U fits
two_to_64 = record { number = record { real = tt; held = tt }; plus = refl; minus = refl }

pub castable : (x : Float) → Gain x → T (lt (fin true 1 (pos 0)) (mul binary32 x sixteen)) × T (lt (mul binary32 x sixteen) (fin false 1 (pos 64)))
castable x g =
    let y = mul binary32 x sixteen in
    let v = sixteenfold x g in
    let m = minus_one in
    let t = two_to_64 in (
      units→lt (fin true 1 (pos 0)) y m.number v.number (over (P (fin true 1 (pos 0))) (N (fin true 1 (pos 0))) (P y) (N y) U m.plus m.minus v.minus U_pos),
      units→lt y (fin false 1 (pos 64)) v.number t.number (under (P (fin false 1 (pos 64))) (N (fin false 1 (pos 64))) (P y) (N y) U (P x) t.plus t.minus v.plus v.minus g.most U_pos),
    )
  where
    over : (p n q m u : ℕ) → p ≡ 0 → n ≡ u → m ≡ 0 → 0 < u → p + m < q + n
    over p n q m u a b c d = omega arith

    under : (p n q m u x : ℕ) → p ≡ 2 ^ 64 * u → n ≡ 0 → q ≡ x * 16 → m ≡ 0 → x ≤ 51 * u → 0 < u → q + n < p + m
    under p n q m u x a b c d e f = omega arith
