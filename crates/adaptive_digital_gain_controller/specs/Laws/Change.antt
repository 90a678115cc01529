-- By how much a gain changes: a gain from 0 to 51 stays there, and it does not rise in a frame in which it may not.
use Rattle.std.specs.Prelude.{◌≡◌, ℕ, ◌+◌, ◌-◌, ◌*◌, ◌^◌, ◌<◌, ◌≤◌, Bool, true, false, cond, not, T, ◌⊎◌, List, [], ◌∷◌, pos, nat_lt, refl, Float}
use Rattle.std.proofs.Common.{sym, ap, ◌∙◌, subst, inl, inr, mul-le-mul_right, ltb→lt, nltb→le, lit<, lit≤, eqb-true}
use Rattle.std.proofs.lemmas.Bool.{false≢true}
use native.Mathlib.Omega.{arith}
use Rattle.std.specs.Float.{nan, inf, fin}
use Rattle.std.specs.Float.Ieee.{binary32, of_bits, of_int, add, sub, mul, div, neg, eq, lt, le, fits, size as bits}
use Rattle.rounding.specs.Units.{U, size, P, N, Number, Value, In, rnd, Rounding}
use Rattle.rounding.specs.Laws.Rnd.{rnd_zero, err_hi}
use Rattle.rounding.specs.Laws.Order.{le→units, eq_units}
use Rattle.rounding.specs.Laws.Operations.{add_rounds, sub_rounds, sub_above, neg_value}
use Rattle.rounding.specs.Laws.Between.{in_real, known}
use Rattle.rounding.specs.Laws.Exact.{constant_number, whole_number}
use Rattle.floats.specs.Choice.{larger, smaller, clamp}
use Rattle.floats.specs.Laws.Kinds.{nought_value}
use Rattle.intervals.specs.Interval.{Expr, variable, constant, product, quotient, eval, Box, box, bounded, Boxed}
use Rattle.intervals.specs.Laws.Interval.{interval}
use Rattle.intervals.specs.Laws.Choice.{Leq, leq_trans, Greater, Lesser, larger_is, smaller_is}
use Rattle.adaptive_digital_gain_controller.specs.Change.{per_frame, increase, changed}
use Rattle.adaptive_digital_gain_controller.specs.Range.{zero, past50, Goal, Gain}
use Rattle.adaptive_digital_gain_controller.specs.Laws.Boxes.{from_to, boxed, Above, from_zero}
use Rattle.adaptive_digital_gain_controller.specs.Laws.Target.{past_value}

fifty_one_value : Value (of_bits binary32 0x424c_0000) (51 * U) 0
unfolding P N size U of_bits
fifty_one_value = record { number = constant_number 0x424c_0000 tt; plus = refl; minus = refl }

-- one of two whole numbers is the smaller
either : (a b : ℕ) → (a < b) ⊎ (b ≤ a)
either a b = go (nat_lt a b) (ltb→lt a b) (nltb→le a b)
  where
    go : (t : Bool) → (T t → a < b) → (T (not t) → b ≤ a) → (a < b) ⊎ (b ≤ a)
    go true f g = inl (f tt)
    go false f g = inr (g tt)

-- a number that is not below zero
pub record Step (x : Float) : Type 0 where
  pub number : Number x
  pub up : Leq zero x

-- 1 in parts of 2 ^ -18
parts : U ≡ 262144 * 2 ^ 131
unfolding U
parts = refl

-- ---- a gain, a target, and by how much a frame may change the gain
module _ (target gain most rise : Float) (allowed : Bool) (t : Goal target) (g : Gain gain) (m : Step most) (r : Step rise) where
  goal : Above (50 * U + 2 ^ 131) target
  goal = from_zero past50 target (50 * U + 2 ^ 131) past_value t

  old : Above (51 * U) gain
  old = from_zero (of_bits binary32 0x424c_0000) gain (51 * U) fifty_one_value g

  turned : Value (neg gain) (N gain) (P gain)
  turned = neg_value gain g.number

  -- the difference is not below the gain with its sign turned
  difference : In (neg gain) target (sub binary32 target gain)
  difference =
      in_real (neg gain) target (sub binary32 target gain) (P target + N gain) (N target + P gain) 1 (lit< tt) turned.number t.number (sub_rounds target gain t.number g.number)
      (low (P (neg gain)) (N (neg gain)) (P gain) (N gain) (P target) (N target) turned.plus turned.minus goal.none)
      (high (P gain) (N gain) (P target) (N target) old.none)
    where
      low : (v w p n q m : ℕ) → v ≡ n → w ≡ p → m ≡ 0 → v * 1 + (m + p) ≤ q + n + w * 1
      low v w p n q m i j k = omega arith

      high : (p n q m : ℕ) → n ≡ 0 → q + n + m * 1 ≤ q * 1 + (m + p)
      high p n q m i = omega arith

  rounded : Value (sub binary32 target gain) (rnd (P target - P gain) 1) (rnd (P gain - P target) 1)
  rounded = known (sub_above target gain t.number g.number goal.none old.none) difference.number.real

  -- what is due: the difference, or that and not above 0
  due : Float
  due = cond allowed (sub binary32 target gain) (smaller (sub binary32 target gain) zero)

  record Due (x : Float) : Type 0 where
    pub number : Number x
    pub low : Leq (neg gain) x
    pub high : Leq x (sub binary32 target gain)

  turned_down : Leq (neg gain) zero
  turned_down = plain (P (neg gain)) (N (neg gain)) (P gain) (N gain) (P zero) (N zero) turned.plus turned.minus old.none nought_value.minus
    where
      plain : (v w p n q m : ℕ) → v ≡ n → w ≡ p → n ≡ 0 → m ≡ 0 → v + m ≤ q + w
      plain v w p n q m i j k l = omega arith

  lesser : Lesser (sub binary32 target gain) zero (smaller (sub binary32 target gain) zero)
  lesser = smaller_is (sub binary32 target gain) zero difference.number nought_value.number

  is_due : Due due
  unfolding due
  is_due = go allowed
    where
      go : (b : Bool) → Due (cond b (sub binary32 target gain) (smaller (sub binary32 target gain) zero))
      go true = record { number = difference.number; low = difference.above; high = omega arith }
      go false = record { number = lesser.number; low = lesser.greatest (neg gain) difference.above turned_down; high = lesser.first }

  -- ---- the change: between the ends
  change : Float
  change = changed target gain allowed most rise

  most_down : Leq (neg most) zero
  most_down = plain (P (neg most)) (N (neg most)) (P most) (N most) (P zero) (N zero) (neg_value most m.number).plus (neg_value most m.number).minus nought_value.plus nought_value.minus m.up
    where
      plain : (v w p n q m : ℕ) → v ≡ n → w ≡ p → q ≡ 0 → m ≡ 0 → q + n ≤ p + m → v + m ≤ q + w
      plain v w p n q m i j y z k = omega arith

  brought : Greater due (neg most) (larger due (neg most))
  brought = larger_is due (neg most) is_due.number (neg_value most m.number).number

  chosen : Lesser (larger due (neg most)) rise change
  unfolding change changed clamp due
  chosen = smaller_is (larger due (neg most)) rise brought.number r.number

  change_low : Leq (neg gain) change
  change_low =
      chosen.greatest (neg gain) (leq_trans (neg gain) due (larger due (neg most)) is_due.low brought.first) (leq_trans (neg gain) zero rise turned_down r.up)

  -- it is not above what is due, or 0
  change_high : (u : Float) → Leq due u → Leq zero u → Leq change u
  change_high u p q = leq_trans change (larger due (neg most)) u chosen.first (brought.least u p (leq_trans (neg most) zero u most_down q))

  -- ---- the gain after the frame
  after : Rounding (add binary32 gain change) (P gain + P change) (N gain + N change) 1
  after = add_rounds gain change g.number chosen.number

  not_below : P zero * 1 + (N gain + N change) ≤ P gain + P change + N zero * 1
  not_below = plain (P (neg gain)) (N (neg gain)) (P gain) (N gain) (P change) (N change) (P zero) (N zero) turned.plus turned.minus nought_value.plus change_low
    where
      plain : (v w p n q m y z : ℕ) → v ≡ n → w ≡ p → y ≡ 0 → v + m ≤ q + w → y * 1 + (n + m) ≤ p + q + z * 1
      plain v w p n q m y z i j k h = omega arith

  -- where the target is not above the gain, nor is the gain after the frame
  falls : P target ≤ P gain → Leq change zero
  falls h =
      change_high zero (leq_trans due (sub binary32 target gain) zero is_due.high (plain (P (sub binary32 target gain)) (N (sub binary32 target gain)) (P zero) (N zero) none nought_value.minus)) (omega arith)
    where
      gone : (p q : ℕ) → p ≤ q → p - q ≡ 0
      gone p q h = omega arith

      none : P (sub binary32 target gain) ≡ 0
      none = rounded.plus ∙ ap (λ (z : ℕ). rnd z 1) (gone (P target) (P gain) h) ∙ rnd_zero 1 (lit< tt)

      plain : (p n q m : ℕ) → p ≡ 0 → m ≡ 0 → p + m ≤ q + n
      plain p n q m i j = omega arith

  -- where it is above, the change is at most the difference
  rises : P gain < P target → Leq change (sub binary32 target gain)
  rises h =
      change_high (sub binary32 target gain) is_due.high (plain (P (sub binary32 target gain)) (N (sub binary32 target gain)) (P zero) (N zero) none nought_value.plus)
    where
      gone : (p q : ℕ) → p < q → p - q ≡ 0
      gone p q h = omega arith

      none : N (sub binary32 target gain) ≡ 0
      none = rounded.minus ∙ ap (λ (z : ℕ). rnd z 1) (gone (P gain) (P target) h) ∙ rnd_zero 1 (lit< tt)

      plain : (p n q m : ℕ) → n ≡ 0 → q ≡ 0 → q + n ≤ p + m
      plain p n q m i j = omega arith

  not_above : P gain + P change + N (of_bits binary32 0x424c_0000) * 1 ≤ P (of_bits binary32 0x424c_0000) * 1 + (N gain + N change)
  not_above = go (either (P gain) (P target))
    where
      up : (p n q m v w a b c d r u z : ℕ) → v ≡ 51 * u → w ≡ 0 → c ≡ r → 2 ^ 24 * (r * 1) ≤ 2 ^ 24 * (a - p) + (a - p) + 2 ^ 23 * 1 → p < a → a ≤ 50 * u + z → u ≡ 262144 * z → 8388608 ≤ z → q + d ≤ c + m → p + q + w * 1 ≤ v * 1 + (n + m)
      up p n q m v w a b c d r u z i j k h s o e l f = omega arith

      down : (p n q m v w y z u : ℕ) → v ≡ 51 * u → w ≡ 0 → y ≡ 0 → z ≡ 0 → p ≤ 51 * u → q + z ≤ y + m → p + q + w * 1 ≤ v * 1 + (n + m)
      down p n q m v w y z u i j k l h f = omega arith

      go : (P gain < P target) ⊎ (P target ≤ P gain) → P gain + P change + N (of_bits binary32 0x424c_0000) * 1 ≤ P (of_bits binary32 0x424c_0000) * 1 + (N gain + N change)
      go (inl h) =
          up (P gain) (N gain) (P change) (N change) (P (of_bits binary32 0x424c_0000)) (N (of_bits binary32 0x424c_0000)) (P target) (N target) (P (sub binary32 target gain)) (N (sub binary32 target gain)) (rnd (P target - P gain) 1) U (2 ^ 131)
          fifty_one_value.plus fifty_one_value.minus rounded.plus (err_hi (P target - P gain) 1 (lit< tt)) h goal.most parts (lit≤ tt) (rises h)
      go (inr h) =
          down (P gain) (N gain) (P change) (N change) (P (of_bits binary32 0x424c_0000)) (N (of_bits binary32 0x424c_0000)) (P zero) (N zero) U
          fifty_one_value.plus fifty_one_value.minus nought_value.plus nought_value.minus old.most (falls h)

  -- A gain from 0 to 51 that changes towards a target lies from 0 to 51 again.
  pub stays : Gain (add binary32 gain (changed target gain allowed most rise))
  unfolding change
  stays = in_real zero (of_bits binary32 0x424c_0000) (add binary32 gain change) (P gain + P change) (N gain + N change) 1 (lit< tt) nought_value.number fifty_one_value.number after not_below not_above

  -- Where the gain may not rise, it lies from 0 to what it was.
  pub held_down : allowed ≡ false → In zero gain (add binary32 gain (changed target gain allowed most rise))
  unfolding change due
  held_down e =
      in_real zero gain (add binary32 gain change) (P gain + P change) (N gain + N change) 1 (lit< tt) nought_value.number g.number after not_below
      (plain (P gain) (N gain) (P change) (N change) (P zero) (N zero) nought_value.plus nought_value.minus (change_high zero (subst (λ (b : Bool). Leq (cond b (sub binary32 target gain) (smaller (sub binary32 target gain) zero)) zero) (sym e) lesser.second) (omega arith)))
    where
      plain : (p n q m y z : ℕ) → y ≡ 0 → z ≡ 0 → q + z ≤ y + m → p + q + n * 1 ≤ p * 1 + (n + m)
      plain p n q m y z i j h = omega arith

-- ---- the change of a frame: a number from 0 to 1
frame_expr : Expr
frame_expr = quotient (product (variable 0) (constant (of_bits binary32 0x4120_0000))) (constant (of_bits binary32 0x447a_0000))

frame_bounded : T (bounded (from_to 0x3c23_d70a 0x42c8_0000 ∷ []) frame_expr)
unfolding frame_expr bounded mul div larger smaller of_bits bits fits lt
frame_bounded = tt

frame_low : T (le zero (box (from_to 0x3c23_d70a 0x42c8_0000 ∷ []) frame_expr).low)
unfolding frame_expr box mul div larger smaller of_bits bits le lt eq
frame_low = tt

frame_high : T (le (box (from_to 0x3c23_d70a 0x42c8_0000 ∷ []) frame_expr).high (of_bits binary32 0x3f80_0000))
unfolding frame_expr box mul div larger smaller of_bits bits le lt eq
frame_high = tt

-- For an accepted change per second the change of a frame is a number from 0 to 1.
pub frame_box : (x : Float) → Boxed (from_to 0x3c23_d70a 0x42c8_0000) x → Boxed (from_to 0x0000_0000 0x3f80_0000) (per_frame x)
unfolding per_frame frame_expr eval of_bits
frame_box x b =
    let i = interval (from_to 0x3c23_d70a 0x42c8_0000 ∷ []) (x ∷ []) (b, tt) frame_expr frame_bounded in
    let l = (box (from_to 0x3c23_d70a 0x42c8_0000 ∷ []) frame_expr).low in
    let h = (box (from_to 0x3c23_d70a 0x42c8_0000 ∷ []) frame_expr).high in
    let y = per_frame x in
    let one = constant_number 0x3f80_0000 tt in
    boxed 0x0000_0000 0x3f80_0000 tt tt y
    (record {
      number = i.inside.number;
      above = leq_trans zero l y (le→units zero l nought_value.number i.low_number frame_low) i.inside.above;
      below = leq_trans y h (of_bits binary32 0x3f80_0000) i.inside.below (le→units h (of_bits binary32 0x3f80_0000) i.high_number one frame_high);
    })

-- What equals a number is a number.
equal_number : (x y : Float) → T (fits binary32 x) → Number y → eq x y ≡ true → Number x
unfolding eq
equal_number nan nan t n h = absurd n.real
equal_number nan (inf r) t n h = absurd n.real
equal_number nan (fin r k d) t n h = absurd (false≢true h)
equal_number (inf s) nan t n h = absurd n.real
equal_number (inf s) (inf r) t n h = absurd n.real
equal_number (inf s) (fin r k d) t n h = absurd (false≢true h)
equal_number (fin s m e) y t n h = record { real = tt; held = t }

-- What equals a number in a box lies in the box.
pub equal_box : (b : Box) (x y : Float) → T (fits binary32 x) → Boxed b y → eq x y ≡ true → Boxed b x
equal_box b x y t i h =
    let n = equal_number x y t i.inside.number h in
    let same : P x + N y ≡ P y + N x = eqb-true (P x + N y) (P y + N x) (sym (eq_units x y n i.inside.number) ∙ h) in
    record {
      low_number = i.low_number;
      high_number = i.high_number;
      inside = record {
        number = n;
        above = left (P x) (N x) (P y) (N y) (P b.low) (N b.low) same i.inside.above;
        below = right (P x) (N x) (P y) (N y) (P b.high) (N b.high) same i.inside.below;
      };
    }
  where
    left : (p n q m c d : ℕ) → p + m ≡ q + n → c + m ≤ q + d → c + n ≤ p + d
    left p n q m c d i h = omega arith

    right : (p n q m c d : ℕ) → p + m ≡ q + n → q + d ≤ c + m → p + d ≤ c + n
    right p n q m c d i h = omega arith

-- ---- by how much the gain may rise: for any threshold that is an f32 as it stands, which every whole number below 2 ^ 24 is
power_value : Value (of_bits binary32 0x4b80_0000) (2 ^ 24 * U) 0
unfolding P N size U of_bits
power_value = record { number = constant_number 0x4b80_0000 tt; plus = refl; minus = refl }

threshold_box : (n : ℕ) → n < 2 ^ 24 → Boxed (from_to 0x0000_0000 0x4b80_0000) (of_int binary32 (pos n))
unfolding of_bits
threshold_box n h =
    let v = whole_number n h in
    let x = of_int binary32 (pos n) in
    let t = power_value in
    boxed 0x0000_0000 0x4b80_0000 tt tt x
    (record {
      number = v.number;
      above = low (P x) (N x) (P zero) (N zero) v.minus nought_value.plus;
      below = high (P x) (N x) (P (of_bits binary32 0x4b80_0000)) (N (of_bits binary32 0x4b80_0000)) (n * U) (2 ^ 24 * U) v.plus t.plus t.minus (mul-le-mul_right U (lt_le n (2 ^ 24) h));
    })
  where
    lt_le : (a b : ℕ) → a < b → a ≤ b
    lt_le a b h = omega arith

    low : (p n q m : ℕ) → n ≡ 0 → q ≡ 0 → q + n ≤ p + m
    low p n q m i j = omega arith

    high : (p n q m a b : ℕ) → p ≡ a → q ≡ b → m ≡ 0 → a ≤ b → p + m ≤ q + n
    high p n q m a b i j k h = omega arith

rise_expr : Expr
rise_expr = product (variable 0) (variable 1)

rise_boxes : List Box
rise_boxes = from_to 0x0000_0000 0x3f80_0000 ∷ from_to 0x0000_0000 0x4b80_0000 ∷ []

rise_bounded : T (bounded rise_boxes rise_expr)
unfolding rise_expr rise_boxes bounded mul larger smaller of_bits bits fits lt
rise_bounded = tt

rise_low : T (le zero (box rise_boxes rise_expr).low)
unfolding rise_expr rise_boxes box mul larger smaller of_bits bits le lt eq
rise_low = tt

-- A change from 0 to 1 is a number that is not below zero.
pub change_step : (x : Float) → Boxed (from_to 0x0000_0000 0x3f80_0000) x → Step x
change_step x b = record { number = b.inside.number; up = b.inside.above }

-- And so is the faster one, for any threshold below 2 ^ 24.
pub rise_step : (first : Bool) (threshold : ℕ) (change : Float) → threshold < 2 ^ 24 → Boxed (from_to 0x0000_0000 0x3f80_0000) change → Step (increase first threshold change)
unfolding increase rise_expr rise_boxes eval
rise_step first threshold change h b =
    let i = interval rise_boxes (change ∷ of_int binary32 (pos threshold) ∷ []) (b, (threshold_box threshold h, tt)) rise_expr rise_bounded in
    let l = (box rise_boxes rise_expr).low in
    let y = mul binary32 change (of_int binary32 (pos threshold)) in
    go first (record { number = i.inside.number; up = leq_trans zero l y (le→units zero l nought_value.number i.low_number rise_low) i.inside.above })
  where
    go : (b : Bool) → Step (mul binary32 change (of_int binary32 (pos threshold))) → Step (cond b (mul binary32 change (of_int binary32 (pos threshold))) change)
    go true k = k
    go false k = change_step change b
