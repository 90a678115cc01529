-- Every factor is a number: no step of the line or of the eighth power can overflow. By the interval evaluator.
use Rattle.std.specs.Prelude.{◌≡◌, refl, List, [], ◌∷◌, Bool, cond, T, Float}
use Rattle.std.proofs.Common.{mul-le-mul_right, arith}
use Rattle.std.proofs.Math.Bool.{true, false}
use Prim.Native.Nat.{ℕ, zero, suc, ◌+◌, ◌*◌, ◌^◌, ◌≤◌, ◌<◌}
use Rattle.std.specs.Float.{binary32}
use Rattle.std.specs.Float.Ieee.{of_bits, add, sub, mul, div, lt, fits, size as bits}
use Rattle.rounding.specs.Units.{U, size, P, N, Number, Value}
use Rattle.rounding.specs.Laws.Exact.{constant_number, whole_number}
use Rattle.floats.specs.Choice.{larger, smaller}
use Rattle.intervals.specs.Interval.{Expr, variable, constant, sum, difference, product, quotient, eval, Box, bounded, Boxed, AllBoxed}
use Rattle.intervals.specs.Laws.Interval.{interval}
use Rattle.lists.specs.Each.{Each, each_append}
use Rattle.limiter.specs.Factors.{whole, line, straight, eighth, curved, first_part, later_parts, factors}
use Rattle.limiter.specs.Scale.{Moderate}

-- ---- the boxes of the four variables: start, end, the samples of a sub-frame and the sample's place
abbrev zero_bits : Float
zero_bits = of_bits binary32 0x0000_0000

abbrev one : Float
one = of_bits binary32 0x3f80_0000

abbrev two : Float
two = of_bits binary32 0x4000_0000

abbrev twenty_four : Float
twenty_four = of_bits binary32 0x41c0_0000

abbrev moderate_box : Box
moderate_box = record { low = zero_bits; high = two }

abbrev samples_box : Box
samples_box = record { low = one; high = twenty_four }

abbrev place_box : Box
place_box = record { low = zero_bits; high = twenty_four }

abbrev boxes : List Box
boxes = moderate_box ∷ moderate_box ∷ samples_box ∷ place_box ∷ []

at_0 : Value zero_bits (0 * U) 0
unfolding P N size U of_bits
at_0 = record { number = constant_number 0 tt; plus = refl; minus = refl }

at_1 : Value one (1 * U) 0
unfolding P N size U of_bits
at_1 = record { number = constant_number 0x3f80_0000 tt; plus = refl; minus = refl }

at_2 : Value two (2 * U) 0
unfolding P N size U of_bits
at_2 = record { number = constant_number 0x4000_0000 tt; plus = refl; minus = refl }

at_24 : Value twenty_four (24 * U) 0
unfolding P N size U of_bits
at_24 = record { number = constant_number 0x41c0_0000 tt; plus = refl; minus = refl }

-- ---- a whole number of samples lies in its box
whole_box : (n a b : ℕ) (lo hi : Float) → Value lo (a * U) 0 → Value hi (b * U) 0 → n < 2 ^ 24 → a ≤ n → n ≤ b → Boxed (record { low = lo; high = hi }) (whole n)
whole_box n a b lo hi l h small from to =
    let v = whole_number n small in
    let x : a * U ≤ n * U = mul-le-mul_right U from in
    let y : n * U ≤ b * U = mul-le-mul_right U to in
    let lp = l.plus in
    let ln = l.minus in
    let hp = h.plus in
    let hn = h.minus in
    let vp = v.plus in
    let vn = v.minus in
    record {
      low_number = l.number;
      high_number = h.number;
      inside = record { number = v.number; above = order (P lo) (N lo) (P (whole n)) (N (whole n)) (a * U) (n * U) lp ln vp vn x; below = order (P (whole n)) (N (whole n)) (P hi) (N hi) (n * U) (b * U) vp vn hp hn y };
    }
  where
    order : (p n q m s t : ℕ) → p ≡ s → n ≡ 0 → q ≡ t → m ≡ 0 → s ≤ t → p + m ≤ q + n
    order p n q m s t a b c d e = omega arith

-- ---- the two expressions
on_line : Expr
on_line = sum (variable 0) (product (quotient (difference (variable 1) (variable 0)) (variable 2)) (variable 3))

squared : Expr → Expr
squared e = product e e

on_curve : Expr
on_curve = sum (product (squared (squared (squared (difference (constant one) (quotient (variable 3) (variable 2)))))) (difference (variable 0) (variable 1))) (variable 1)

line_bounded : T (bounded boxes on_line)
unfolding on_line bounded add sub mul div larger smaller of_bits bits fits lt
line_bounded = tt

curve_bounded : T (bounded boxes on_curve)
unfolding on_curve squared bounded add sub mul div larger smaller of_bits bits fits lt
curve_bounded = tt

-- ---- at a sample's place
moderate_boxed : (x : Float) → Moderate x → Boxed moderate_box x
moderate_boxed x h = record { low_number = at_0.number; high_number = at_2.number; inside = h }

module _ (start end : Float) (a : Moderate start) (b : Moderate end) (s : ℕ) (some : 1 ≤ s) (most : s ≤ 24) where
  all_boxed : (j : ℕ) → j ≤ 24 → AllBoxed boxes (start ∷ end ∷ whole s ∷ whole j ∷ [])
  all_boxed j h =
      (moderate_boxed start a, (moderate_boxed end b, (whole_box s 1 24 one twenty_four at_1 at_24 (omega arith) some most, (whole_box j 0 24 zero_bits twenty_four at_0 at_24 (omega arith) (omega arith) h, tt))))

  -- on the line
  pub line_numbers : (j k : ℕ) → j + k ≤ 24 → Each Number (line start (div binary32 (sub binary32 end start) (whole s)) j k)
  unfolding line Each eval on_line
  line_numbers j zero h = tt
  line_numbers j (suc k) h =
      ((interval boxes (start ∷ end ∷ whole s ∷ whole j ∷ []) (all_boxed j (omega arith)) on_line line_bounded).inside.number, line_numbers (j + 1) k (omega arith))

  -- by the eighth power
  pub curve_numbers : (j k : ℕ) → j + k ≤ 24 → Each Number (curved s start end j k)
  unfolding curved eighth Each eval on_curve squared
  curve_numbers j zero h = tt
  curve_numbers j (suc k) h =
      ((interval boxes (start ∷ end ∷ whole s ∷ whole j ∷ []) (all_boxed j (omega arith)) on_curve curve_bounded).inside.number, curve_numbers (j + 1) k (omega arith))

  pub straight_numbers : Each Number (straight s start end)
  unfolding straight
  straight_numbers = line_numbers 0 s (omega arith)

  pub first_numbers : Each Number (first_part s start end)
  unfolding first_part
  first_numbers = go (lt end start)
    where
      go : (c : Bool) → Each Number (cond c (curved s start end 0 s) (straight s start end))
      go true = curve_numbers 0 s (omega arith)
      go false = straight_numbers

-- ---- over a whole channel
pub later_numbers : (s : ℕ) → 1 ≤ s → s ≤ 24 → (start : Float) (ends : List Float) → Moderate start → Each Moderate ends → Each Number (later_parts s start ends)
unfolding later_parts Each
later_numbers s i j start [] a b = tt
later_numbers s i j start (end ∷ ends) a b =
    each_append Number (straight s start end) (later_parts s end ends) (straight_numbers start end a b.0 s i j) (later_numbers s i j end ends b.0 b.1)

pub factor_numbers : (s : ℕ) → 1 ≤ s → s ≤ 24 → (carried : Float) (gains : List Float) → Moderate carried → Each Moderate gains → Each Number (factors s carried gains)
unfolding factors Each
factor_numbers s i j carried [] a b = tt
factor_numbers s i j carried (gain ∷ gains) a b =
    each_append Number (first_part s carried gain) (later_parts s gain gains) (first_numbers carried gain a b.0 s i j) (later_numbers s i j gain gains b.0 b.1)
