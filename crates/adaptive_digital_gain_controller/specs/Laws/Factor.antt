-- The ratio of a gain from 0 to 51 is a factor from 1 to 355: below 51 by the boxes of its three factors, at 51 by computing it.
use Rattle.std.specs.Prelude.{◌≡◌, ℕ, ◌+◌, ◌*◌, ◌/◌, ◌%◌, ◌<◌, ◌≤◌, Bool, true, false, cond, ◌&&◌, T, ◌⊎◌, List, [], ◌∷◌, map, nat_le, refl, Float}
use Rattle.std.proofs.Common.{sym, ◌∙◌, subst, inl, inr, eq-or-lt_of_le, mod-lt, le→leb, lit<}
use Rattle.std.proofs.Math.Path.{ap}
use Rattle.std.proofs.lemmas.Bool.{false≢true}
use native.Mathlib.Omega.{arith}
use Rattle.std.specs.Float.{nan}
use Rattle.std.specs.Float.Ieee.{binary32, of_bits, of_int, add, sub, mul, neg, le, lt, eq, fits, size as bits}
use Rattle.std.specs.Float.Ieee.Bits.{is_true}
use Rattle.std.specs.Float.Ieee.Scale.{finite}
use Rattle.lists.specs.Table.{at}
use Rattle.lists.specs.Tests.{each_passed, ◌and◌}
use Rattle.rounding.specs.Units.{U, size, P, N, Number, Value, In}
use Rattle.rounding.specs.Laws.Order.{le_box, le→units, units→le, units→lt}
use Rattle.rounding.specs.Laws.Whole.{U_pos}
use Rattle.rounding.specs.Laws.Same.{same_number}
use Rattle.rounding.specs.Laws.Exact.{constant_number}
use Rattle.floats.specs.Choice.{larger, smaller}
use Rattle.floats.specs.Laws.Kinds.{passed, nought_value}
use Rattle.intervals.specs.Interval.{Expr, variable, constant, sum, product, eval, Box, box, bounded, Boxed}
use Rattle.intervals.specs.Laws.Interval.{interval}
use Rattle.units.specs.Figures.{gain, gain_factor}
use Rattle.decibels.specs.Ratio.{whole_bits, sixteenth_bits, A, B, steps, rest, ratio_of, answer}
use Rattle.decibels.specs.Laws.Split.{Split, split, accepted, steps_most}
use Rattle.adaptive_digital_gain_controller.specs.Controller.{largest}
use Rattle.adaptive_digital_gain_controller.specs.Range.{zero, Factor}
use Rattle.adaptive_digital_gain_controller.specs.Laws.Boxes.{from_to, boxed}

-- ---- the entries of the tables: up to the 50th whole dB from 1 to 316.22775, the sixteenths from 1 to 1.1139739
abbrev entry : ℕ → ℕ → Float → Bool
entry a b x = finite x && fits binary32 x && le (of_bits binary32 a) x && le x (of_bits binary32 b)

entry_box : (a b : ℕ) → T (finite (of_bits binary32 a)) → T (finite (of_bits binary32 b)) → (x : Float) → T (entry a b x) → Boxed (from_to a b) x
entry_box a b l h x t =
    let low = of_bits binary32 a in
    let high = of_bits binary32 b in
    let p = each_passed (finite x ∷ fits binary32 x ∷ le low x ∷ le x high ∷ []) t in
    boxed a b l h x (le_box low high x (constant_number a l) (constant_number b h) (record { real = p 0; held = p 1 }) (p 2) (p 3))

-- the last whole dB, 51, is left out
all_but_last : ℕ → Float → Bool
all_but_last n x = cond (nat_le n 50) (entry 0x3f80_0000 0x439e_1d27 x) true

whole_box : (n : ℕ) → n ≤ 50 → Boxed (from_to 0x3f80_0000 0x439e_1d27) (A n)
unfolding A whole_bits all_but_last fits le lt eq of_bits bits
whole_box n h = entry_box 0x3f80_0000 0x439e_1d27 tt tt (A n) (taken (entry 0x3f80_0000 0x439e_1d27 (A n)) (nat_le n 50) (is_true (nat_le n 50) (le→leb n 50 h)) (at all_but_last nan (map (of_bits binary32) whole_bits) tt n (below n h)))
  where
    taken : (a b : Bool) → b ≡ true → T (cond b a true) → T a
    taken a true e t = t
    taken a false e t = absurd (false≢true e)

    below : (n : ℕ) → n ≤ 50 → n < 52
    below n h = omega arith

sixteenth_box : (k : ℕ) → k < 16 → Boxed (from_to 0x3f80_0000 0x3f8e_96b2) (B k)
unfolding B sixteenth_bits fits le lt eq of_bits bits
sixteenth_box k h = entry_box 0x3f80_0000 0x3f8e_96b2 tt tt (B k) (at (λ (j : ℕ) (x : Float). entry 0x3f80_0000 0x3f8e_96b2 x) nan (map (of_bits binary32) sixteenth_bits) tt k h)

-- ---- what is left is below a sixteenth
left_value : Value (of_bits binary32 0x3d80_0000) (P (of_bits binary32 0x3d80_0000)) 0
unfolding P N size of_bits
left_value = record { number = constant_number 0x3d80_0000 tt; plus = refl; minus = refl }

left_units : P (of_bits binary32 0x3d80_0000) * 16 ≡ U
unfolding P size U of_bits
left_units = refl

rest_box : (x : Float) → Split x → Boxed (from_to 0x0000_0000 0x3d80_0000) (rest x)
unfolding of_bits
rest_box x s =
    boxed 0x0000_0000 0x3d80_0000 tt tt (rest x)
    (record {
      number = s.rest_number;
      above = low (P (rest x)) (N (rest x)) (P zero) (N zero) s.rest_above nought_value.plus;
      below = high (P (rest x)) (N (rest x)) (P (of_bits binary32 0x3d80_0000)) (N (of_bits binary32 0x3d80_0000)) U s.part_below left_units left_value.minus;
    })
  where
    low : (p n q m : ℕ) → n ≡ 0 → q ≡ 0 → q + n ≤ p + m
    low p n q m i j = omega arith

    high : (p n q m u : ℕ) → p * 16 < u → q * 16 ≡ u → m ≡ 0 → p + m ≤ q + n
    high p n q m u i j k = omega arith

-- ---- the ratio
ratio_expr : Expr
ratio_expr = product (product (variable 0) (variable 1)) (sum (constant (of_bits binary32 0x3f80_0000)) (product (variable 2) (constant (of_bits binary32 0x3deb_c8e2))))

ratio_boxes : List Box
ratio_boxes = from_to 0x3f80_0000 0x439e_1d27 ∷ from_to 0x3f80_0000 0x3f8e_96b2 ∷ from_to 0x0000_0000 0x3d80_0000 ∷ []

ratio_bounded : T (bounded ratio_boxes ratio_expr)
unfolding ratio_expr ratio_boxes bounded add mul larger smaller of_bits bits fits lt
ratio_bounded = tt

ratio_low : T (le (of_bits binary32 0x3f80_0000) (box ratio_boxes ratio_expr).low)
unfolding ratio_expr ratio_boxes box add mul larger smaller of_bits bits le lt eq
ratio_low = tt

ratio_high : T (le (box ratio_boxes ratio_expr).high largest)
unfolding ratio_expr ratio_boxes box add mul larger smaller of_bits bits le lt eq
ratio_high = tt

-- a narrower box
wider : (lo hi x : Float) → Number lo → Number hi → T (le (of_bits binary32 0x3f80_0000) lo) → T (le hi largest) → In lo hi x → Factor x
unfolding of_bits
wider lo hi x l h a b i =
    let p = le→units (of_bits binary32 0x3f80_0000) lo (constant_number 0x3f80_0000 tt) l a in
    let q = le→units hi largest h (constant_number 0x43b1_8000 tt) b in
    record {
      number = i.number;
      above = through (P (of_bits binary32 0x3f80_0000)) (N (of_bits binary32 0x3f80_0000)) (P lo) (N lo) (P x) (N x) p i.above;
      below = through (P x) (N x) (P hi) (N hi) (P largest) (N largest) i.below q;
    }
  where
    through : (a b c d e f : ℕ) → a + d ≤ c + b → c + f ≤ e + d → a + f ≤ e + b
    through a b c d e f i j = omega arith

-- at 51 it is the table's last entry
ratio_51 : ratio_of (of_bits binary32 0x424c_0000) ≡ of_bits binary32 0x43b1_681d
unfolding ratio_of A B whole_bits sixteenth_bits steps rest add sub mul neg of_int of_bits bits
ratio_51 = refl

last_entry : Factor (of_bits binary32 0x43b1_681d)
unfolding le lt eq of_bits bits
last_entry =
    le_box (of_bits binary32 0x3f80_0000) largest (of_bits binary32 0x43b1_681d) (constant_number 0x3f80_0000 tt) (constant_number 0x43b1_8000 tt) (constant_number 0x43b1_681d tt) tt tt

module _ (x : Float) (t : T (fits binary32 x)) (g : T (gain x)) where
  -- below 51 by the boxes
  below_51 : steps x < 816 → Factor (ratio_of x)
  unfolding ratio_of ratio_expr ratio_boxes eval
  below_51 h =
      let b = interval ratio_boxes (A (steps x / 16) ∷ B (steps x % 16) ∷ rest x ∷ []) (whole_box (steps x / 16) (few (steps x) h), (sixteenth_box (steps x % 16) (mod-lt (steps x) (lit< tt)), (rest_box x (split x t g), tt))) ratio_expr ratio_bounded in
      wider (box ratio_boxes ratio_expr).low (box ratio_boxes ratio_expr).high (ratio_of x) b.low_number b.high_number ratio_low ratio_high b.inside
    where
      few : (j : ℕ) → j < 816 → j / 16 ≤ 50
      few j h = omega arith

  -- there are 816 whole sixteenths in 51 alone
  is_51 : steps x ≡ 816 → x ≡ of_bits binary32 0x424c_0000
  unfolding P N size U of_bits
  is_51 e =
      let a = accepted x t g in
      let full : P x ≡ 51 * U = all (P x) (P (rest x)) (steps x) U e (split x t g).whole a.most in
      same_number x (of_bits binary32 0x424c_0000) a.number (constant_number 0x424c_0000 tt) full a.none_below (some (P x) (N x) U full U_pos)
    where
      all : (p q j u : ℕ) → j ≡ 816 → p * 16 ≡ j * u + q * 16 → p ≤ 51 * u → p ≡ 51 * u
      all p q j u e f h = let k : p * 16 ≡ 816 * u + q * 16 = f ∙ ap (λ (z : ℕ). z * u + q * 16) e in omega arith

      some : (p n u : ℕ) → p ≡ 51 * u → 0 < u → 0 < p + n
      some p n u e h = omega arith

  -- The ratio of a gain from 0 to 51 is a number from 1 to 355.
  pub ratio_factor : Factor (ratio_of x)
  ratio_factor = go (eq-or-lt_of_le (steps_most x (accepted x t g)))
    where
      go : (steps x ≡ 816) ⊎ (steps x < 816) → Factor (ratio_of x)
      go (inl e) = subst (λ (z : Float). Factor (ratio_of z)) (sym (is_51 e)) (subst Factor (sym ratio_51) last_entry)
      go (inr h) = below_51 h

-- what lies from 1 to 355 is above 0 and below 512
one_value : Value (of_bits binary32 0x3f80_0000) U 0
unfolding P N size U of_bits
one_value = record { number = constant_number 0x3f80_0000 tt; plus = refl; minus = refl }

largest_value : Value largest (355 * U) 0
unfolding P N size U of_bits
largest_value = record { number = constant_number 0x43b1_8000 tt; plus = refl; minus = refl }

end_value : Value (of_bits binary32 0x4400_0000) (512 * U) 0
unfolding P N size U of_bits
end_value = record { number = constant_number 0x4400_0000 tt; plus = refl; minus = refl }

-- A number from 1 to 355 is a gain factor of a controller.
pub factor_passes : (x : Float) → Factor x → (gain_factor x ≡ true) × (le x largest ≡ true)
unfolding of_bits
factor_passes x f =
    let n = f.number in
    let o = one_value in
    let z = nought_value in
    let l = largest_value in
    let e = end_value in
    let a = units→lt zero x (constant_number 0x0000_0000 tt) n (low (P x) (N x) (P zero) (N zero) (P (of_bits binary32 0x3f80_0000)) (N (of_bits binary32 0x3f80_0000)) U z.plus z.minus o.plus o.minus U_pos f.above) in
    let b = units→lt x (of_bits binary32 0x4400_0000) n e.number (high (P x) (N x) (P (of_bits binary32 0x4400_0000)) (N (of_bits binary32 0x4400_0000)) (P largest) (N largest) U e.plus e.minus l.plus l.minus U_pos f.below) in
    (is_true (lt zero x) a and is_true (lt x (of_bits binary32 0x4400_0000)) b, is_true (le x largest) (units→le x largest n l.number f.below))
  where
    low : (p n q m r s u : ℕ) → q ≡ 0 → m ≡ 0 → r ≡ u → s ≡ 0 → 0 < u → r + n ≤ p + s → q + n < p + m
    low p n q m r s u i j k l o h = omega arith

    high : (p n q m r s u : ℕ) → q ≡ 512 * u → m ≡ 0 → r ≡ 355 * u → s ≡ 0 → 0 < u → p + s ≤ r + n → p + m < q + n
    high p n q m r s u i j k l o h = omega arith

-- The ratio that is answered for a gain from 0 to 51 is such a factor: above 0, and at most 355.
pub factor_stays : (x : Float) → T (fits binary32 x) → gain x ≡ true → Factor (answer x).ratio
unfolding answer
factor_stays x t g = rw g (ratio_factor x t (passed g))
