-- What the applier makes of samples of magnitude up to 65536: with factors up to 355 none of magnitude above 33554432 comes out;
-- with factors up to 512 no NaN comes out, and so each clipped sample lies between -32768 and 32767.
use Rattle.std.specs.Prelude.{◌≡◌, ℕ, zero, suc, ◌+◌, ◌*◌, ◌<◌, ◌≤◌, Bool, true, false, cond, ◌||◌, T, ◌⊎◌, List, [], ◌∷◌, length, take, drop, ℤ, pos, refl}
use Rattle.std.proofs.Common.{sym, ◌∙◌, inl, inr, suc-le-suc, le_trans, mul-le-mul_right, mul-le-mul_left, zero-lt-suc, add-zero, zero-add, arith, length-take}
use Rattle.std.proofs.lemmas.Bool.{false≢true}
use Rattle.std.specs.Float.Ieee.{Float, binary32, of_bits, add, mul, le, lt, eq, fits, is_nan}
use Rattle.std.specs.Float.{nan, inf, fin}
use Rattle.std.specs.Float.Ieee.Bits.{is_true}
use Rattle.lists.specs.Tests.{each_passed, each_of}
use Rattle.lists.specs.Each.{Each, each_take, each_drop, each_append, each_so}
use Rattle.rounding.specs.Units.{U, size, P, N, Number, Value, In}
use Rattle.rounding.specs.Loops.{added, Within}
use Rattle.rounding.specs.Laws.Whole.{U_pos, sides}
use Rattle.rounding.specs.Laws.Order.{le→units, units→le, between}
use Rattle.rounding.specs.Laws.Operations.{mul_rounds}
use Rattle.rounding.specs.Laws.Between.{in_real}
use Rattle.rounding.specs.Laws.Exact.{constant_number}
use Rattle.floats.specs.Kinds.{magnitude}
use Rattle.floats.specs.Laws.Kinds.{passed as holds}
use Rattle.intervals.specs.Laws.Choice.{clamp_in}
use Rattle.units.specs.Figures.{gain_factor}
use Rattle.units.specs.Replies.{done}
use Rattle.frames.specs.Shape.{is_samples}
use Rattle.frames.specs.Parts.{each_part}
use Rattle.frames.specs.Samples.{largest_input, largest_level, within, all_within}
use Rattle.frames.specs.Squares.{without_sign}
use Rattle.frames.specs.Facts.{samples_facts, taken}
use Rattle.gain_applier.specs.declared.Applier.{Applier}
use Rattle.gain_applier.specs.Sound.{close_to_one, scaled, ramped, clipped, step_of, gained, finished}
use Rattle.gain_applier.specs.Applier.{inverse_of, passes, applied}
use Rattle.gain_applier.specs.Range.{UpTo, Sized, Plain, Sixteen, Held}
use Rattle.gain_applier.specs.Laws.Again.{Passed, passed, samples_pass}
use Rattle.gain_applier.specs.Laws.Ramp.{ramp_close}

-- ---- the ends, in units
input_value : Value largest_input (65536 * U) 0
unfolding P N size U of_bits
input_value = record { number = constant_number 0x4780_0000 tt; plus = refl; minus = refl }

level_value : Value largest_level (33554432 * U) 0
unfolding P N size U of_bits
level_value = record { number = constant_number 0x4c00_0000 tt; plus = refl; minus = refl }

lowest_level : Value (of_bits binary32 0xcc00_0000) 0 (33554432 * U)
unfolding P N size U of_bits
lowest_level = record { number = constant_number 0xcc00_0000 tt; plus = refl; minus = refl }

wide_value : Value (of_bits binary32 0x4c80_0000) (67108864 * U) 0
unfolding P N size U of_bits
wide_value = record { number = constant_number 0x4c80_0000 tt; plus = refl; minus = refl }

lowest_wide : Value (of_bits binary32 0xcc80_0000) 0 (67108864 * U)
unfolding P N size U of_bits
lowest_wide = record { number = constant_number 0xcc80_0000 tt; plus = refl; minus = refl }

bottom_value : Value (of_bits binary32 0xc700_0000) 0 (32768 * U)
unfolding P N size U of_bits
bottom_value = record { number = constant_number 0xc700_0000 tt; plus = refl; minus = refl }

top_value : Value (of_bits binary32 0x46ff_fe00) (32767 * U) 0
unfolding P N size U of_bits
top_value = record { number = constant_number 0x46ff_fe00 tt; plus = refl; minus = refl }

-- ---- a sample's magnitude
-- the sign has no part in a number's size
size_of : (s : Bool) (m : ℕ) (e : ℤ) → Number (fin s m e) → P (fin s m e) + N (fin s m e) ≡ P (fin false m e)
unfolding P N size
size_of true m e n = zero-add _
size_of false m e n = add-zero _

none_below : (m : ℕ) (e : ℤ) → N (fin false m e) ≡ 0
unfolding N
none_below m e = refl

no_nan : le nan largest_input ≡ false
unfolding le lt eq
no_nan = refl

no_infinity : le (inf false) largest_input ≡ false
unfolding le lt eq of_bits
no_infinity = refl

-- A sample within 65536 has at most as many units.
pub sample_sized : (x : Float) → T (fits binary32 x) → within largest_input x ≡ true → Sized (65536 * U) x
unfolding within magnitude
sample_sized nan f h = absurd (false≢true (sym no_nan ∙ h))
sample_sized (inf s) f h = absurd (false≢true (sym no_infinity ∙ h))
sample_sized (fin s m e) f h =
    let x = fin false m e in
    let n : Number (fin s m e) = record { real = tt; held = f } in
    let k : Number x = record { real = tt; held = without_sign s m e f } in
    let b = le→units x largest_input k input_value.number (holds h) in
    record { number = n; small = plain (P (fin s m e) + N (fin s m e)) (P x) (N x) (P largest_input) (N largest_input) (65536 * U) (size_of s m e n) (none_below m e) input_value.plus input_value.minus b }
  where
    plain : (a p n q m u : ℕ) → a ≡ p → n ≡ 0 → q ≡ u → m ≡ 0 → p + m ≤ q + n → a ≤ u
    plain a p n q m u i j k l h = omega arith

-- What has at most 33554432 * U units is within 33554432.
pub sized_within : (x : Float) → Sized (33554432 * U) x → within largest_level x ≡ true
unfolding within magnitude
sized_within nan z = absurd z.number.real
sized_within (inf s) z = absurd z.number.real
sized_within (fin s m e) z =
    let x = fin false m e in
    let k : Number x = record { real = tt; held = without_sign s m e z.number.held } in
    is_true (le x largest_level)
    (units→le x largest_level k level_value.number
    (plain (P (fin s m e) + N (fin s m e)) (P x) (N x) (P largest_level) (N largest_level) (33554432 * U) (size_of s m e z.number) (none_below m e) level_value.plus level_value.minus z.small))
  where
    plain : (a p n q m u : ℕ) → a ≡ p → n ≡ 0 → q ≡ u → m ≡ 0 → a ≤ u → p + m ≤ q + n
    plain a p n q m u i j k l h = omega arith

-- What lies between two ends of c units has at most c.
in_sized : (lo hi x : Float) (a c d : ℕ) → Value lo 0 a → Value hi c 0 → a ≤ d → c ≤ d → In lo hi x → Sized d x
in_sized lo hi x a c d l h i j b =
    record { number = b.number; small = plain (P x) (N x) (P lo) (N lo) (P hi) (N hi) a c d (sides x b.number).one l.plus l.minus h.plus h.minus i j b.above b.below }
  where
    plain : (p n lp ln hp hn a c d : ℕ) → (p ≡ 0) ⊎ (n ≡ 0) → lp ≡ 0 → ln ≡ a → hp ≡ c → hn ≡ 0 → a ≤ d → c ≤ d → lp + n ≤ p + ln → p + hn ≤ hp + n → p + n ≤ d
    plain p n lp ln hp hn a c d (inl z) q r s t i j u v = omega arith
    plain p n lp ln hp hn a c d (inr z) q r s t i j u v = omega arith

-- A sample times a gain of at most b units: at most c units, where 65536 * b is at most c.
times : (b c : ℕ) (lo hi x g : Float) → Value lo 0 c → Value hi c 0 → 65536 * b ≤ c → Sized (65536 * U) x → Within b g → Sized c (mul binary32 x g)
times b c lo hi x g l h room z w =
    let up = mul-le-mul_left (P x) w.minus in
    let down = mul-le-mul_left (N x) w.plus in
    let up' = mul-le-mul_left (P x) w.plus in
    let down' = mul-le-mul_left (N x) w.minus in
    let all = mul-le-mul_right b z.small in
    let wide = mul-le-mul_right U room in
    in_sized lo hi (mul binary32 x g) c c c l h (omega arith) (omega arith)
    (in_real lo hi (mul binary32 x g) (P x * P g + N x * N g) (P x * N g + N x * P g) U U_pos l.number h.number (mul_rounds x g z.number w.number)
    (low (P x) (N x) (P g) (N g) (P lo) (N lo) b c U l.plus l.minus up down all wide)
    (high (P x) (N x) (P g) (N g) (P hi) (N hi) b c U h.plus h.minus up' down' all wide))
  where
    low : (p n q m lp ln b c u : ℕ) → lp ≡ 0 → ln ≡ c → p * m ≤ p * b → n * q ≤ n * b → (p + n) * b ≤ 65536 * u * b → 65536 * b * u ≤ c * u
        → lp * u + (p * m + n * q) ≤ p * q + n * m + ln * u
    low p n q m lp ln b c u i j r s t v = rw (i, j) (omega (arith, r, s, t, v))

    high : (p n q m hp hn b c u : ℕ) → hp ≡ c → hn ≡ 0 → p * q ≤ p * b → n * m ≤ n * b → (p + n) * b ≤ 65536 * u * b → 65536 * b * u ≤ c * u
        → p * q + n * m + hn * u ≤ hp * u + (p * m + n * q)
    high p n q m hp hn b c u i j r s t v = rw (i, j) (omega (arith, r, s, t, v))

-- ---- what holds of each sample
-- The samples of a frame within 65536 have at most as many units each.
pub samples_sized : (xs : List Float) → Held xs → all_within largest_input xs ≡ true → Each (Sized (65536 * U)) xs
unfolding all_within Each
samples_sized [] f h = tt
samples_sized (x ∷ xs) f h =
    let p = each_of (_ ∷ _ ∷ []) h in
    (sample_sized x (f 0) (p 0), samples_sized xs (λ (i : ℕ). f (suc i)) (p 1))

-- Samples of at most 33554432 * U units are within 33554432.
pub all_sized : (xs : List Float) → Each (Sized (33554432 * U)) xs → all_within largest_level xs ≡ true
unfolding all_within Each
all_sized [] h = refl
all_sized (x ∷ xs) h = rw (sized_within x h.0, all_sized xs h.1)

-- ---- a part, with gains of at most b units
module _ (b c : ℕ) (lo hi : Float) (l : Value lo 0 c) (h : Value hi c 0) (room : 65536 * b ≤ c) where
  scaled_sized : (g : Float) → Within b g → (xs : List Float) → Each (Sized (65536 * U)) xs → Each (Sized c) (scaled g xs)
  unfolding scaled Each
  scaled_sized g w [] z = tt
  scaled_sized g w (x ∷ xs) z = (times b c lo hi x g l h room z.0 w, scaled_sized g w xs z.1)

  ramped_sized : (xs : List Float) (g d : Float) → ((k : ℕ) → k < length xs → Within b (added k g d)) → Each (Sized (65536 * U)) xs → Each (Sized c) (ramped g d xs)
  unfolding ramped Each added
  ramped_sized [] g d w z = tt
  ramped_sized (x ∷ xs) g d w z = (
    times b c lo hi x g l h room z.0 (w 0 (zero-lt-suc (length xs))),
    ramped_sized xs (add binary32 g d) d (λ (k : ℕ) (i : k < length xs). w (suc k) (suc-le-suc i)) z.1,
  )

-- What is made of each part is made of the frame.
each_part_sized : (c n : ℕ) → 65536 * U ≤ c → (f : List Float → List Float)
    → ((part : List Float) → length part ≤ n → Each (Sized (65536 * U)) part → Each (Sized c) (f part))
    → (k : ℕ) (xs : List Float) → Each (Sized (65536 * U)) xs → Each (Sized c) (each_part f k n xs)
unfolding each_part
each_part_sized c n wide f made zero xs z = each_so (Sized (65536 * U)) (Sized c) (λ (x : Float) (i : Sized (65536 * U) x). record { number = i.number; small = le_trans i.small wide }) xs z
each_part_sized c n wide f made (suc k) xs z =
    each_append (Sized c) (f (take n xs)) (each_part f k n (drop n xs))
    (made (take n xs) (simp length-take (omega arith)) (each_take (Sized (65536 * U)) n xs z))
    (each_part_sized c n wide f made k (drop n xs) (each_drop (Sized (65536 * U)) n xs z))

-- ---- the three cases of the gain
module _ (m c : ℕ) (lo hi : Float) (l : Value lo 0 c) (h : Value hi c 0) (low : m ≤ 512 * U) (room : 65536 * (m + U) ≤ c)
    (n : ℕ) (s : is_samples n ≡ true) (last current : Float) (a : UpTo m last) (b : UpTo m current) where
  wide : 65536 * U ≤ c
  wide = omega arith

  steady : Within (m + U) current
  steady = let z = b.none_below in let y = b.most in record { number = b.number; plus = omega arith; minus = omega arith }

  gained_sized : (channels : ℕ) (frame : List Float) → Each (Sized (65536 * U)) frame → Each (Sized c) (gained last current (inverse_of (pos n)) channels n frame)
  unfolding gained
  gained_sized channels frame z = go (eq last current) (close_to_one current)
    where
      step : Float
      step = step_of last current (inverse_of (pos n))

      ramp : (part : List Float) → length part ≤ n → Each (Sized (65536 * U)) part → Each (Sized c) (ramped last step part)
      ramp part long y =
          let f = samples_facts n s in
          ramped_sized (m + U) c lo hi l h room part last step
          (λ (k : ℕ) (i : k < length part). ramp_close n (omega arith) f.most m low last current a b k (omega arith)) y

      go : (same close : Bool) → Each (Sized c) (cond same (cond close frame (each_part (scaled current) channels n frame)) (each_part (ramped last step) channels n frame))
      go true true = each_so (Sized (65536 * U)) (Sized c) (λ (x : Float) (i : Sized (65536 * U) x). record { number = i.number; small = le_trans i.small wide }) frame z
      go true false = each_part_sized c n wide (scaled current) (λ (part : List Float) (long : length part ≤ n) (y : Each (Sized (65536 * U)) part). scaled_sized (m + U) c lo hi l h room current steady part y) channels frame z
      go false close = each_part_sized c n wide (ramped last step) ramp channels frame z

-- ---- with factors up to 355: samples within 65536 come out within 33554432
room_355 : (u : ℕ) → 65536 * (355 * u + u) ≤ 33554432 * u
room_355 u = omega arith

less_355 : (u : ℕ) → 355 * u ≤ 512 * u
less_355 u = omega arith

-- A part with a ramp.
pub ramped_within : (n : ℕ) → is_samples n ≡ true → (last current : Float) → UpTo (355 * U) last → UpTo (355 * U) current
    → (xs : List Float) → length xs ≤ n → Held xs → all_within largest_input xs ≡ true → all_within largest_level (ramped last (step_of last current (inverse_of (pos n))) xs) ≡ true
ramped_within n s last current a b xs long f h =
    let t = samples_facts n s in
    let step = step_of last current (inverse_of (pos n)) in
    all_sized (ramped last step xs)
    (ramped_sized (355 * U + U) (33554432 * U) (of_bits binary32 0xcc00_0000) largest_level lowest_level level_value (room_355 U) xs last step
    (λ (k : ℕ) (i : k < length xs). ramp_close n (omega arith) t.most (355 * U) (less_355 U) last current a b k (omega arith)) (samples_sized xs f h))

-- A part with one factor.
pub scaled_within : (g : Float) → UpTo (355 * U) g → (xs : List Float) → Held xs → all_within largest_input xs ≡ true → all_within largest_level (scaled g xs) ≡ true
scaled_within g a xs f h =
    let z = a.none_below in
    let y = a.most in
    all_sized (scaled g xs)
    (scaled_sized (355 * U + U) (33554432 * U) (of_bits binary32 0xcc00_0000) largest_level lowest_level level_value (room_355 U) g
    (record { number = a.number; plus = omega arith; minus = omega arith }) xs (samples_sized xs f h))

-- A frame.
pub gained_within : (n : ℕ) → is_samples n ≡ true → (last current : Float) → UpTo (355 * U) last → UpTo (355 * U) current
    → (channels : ℕ) (frame : List Float) → Held frame → all_within largest_input frame ≡ true → all_within largest_level (gained last current (inverse_of (pos n)) channels n frame) ≡ true
gained_within n s last current a b channels frame f h =
    all_sized (gained last current (inverse_of (pos n)) channels n frame)
    (gained_sized (355 * U) (33554432 * U) (of_bits binary32 0xcc00_0000) largest_level lowest_level level_value (less_355 U) (room_355 U) n s last current a b channels frame (samples_sized frame f h))

-- ---- with factors up to 512: no NaN comes out
room_512 : (u : ℕ) → 65536 * (512 * u + u) ≤ 67108864 * u
room_512 u = omega arith

less_512 : (u : ℕ) → 512 * u ≤ 512 * u
less_512 u = omega arith

-- A number is no NaN.
pub number_plain : (x : Float) → Number x → Plain x
unfolding is_nan
number_plain nan n = absurd n.real
number_plain (inf s) n = absurd n.real
number_plain (fin s m e) n = (n.held, tt)

-- Each sample of a frame with the gain on it is a number.
pub gained_numbers : (n : ℕ) → is_samples n ≡ true → (last current : Float) → UpTo (512 * U) last → UpTo (512 * U) current
    → (channels : ℕ) (frame : List Float) → Held frame → all_within largest_input frame ≡ true → Each Number (gained last current (inverse_of (pos n)) channels n frame)
gained_numbers n s last current a b channels frame f h =
    each_so (Sized (67108864 * U)) Number (λ (x : Float) (z : Sized (67108864 * U) x). z.number) (gained last current (inverse_of (pos n)) channels n frame)
    (gained_sized (512 * U) (67108864 * U) (of_bits binary32 0xcc80_0000) (of_bits binary32 0x4c80_0000) lowest_wide wide_value (less_512 U) (room_512 U) n s last current a b channels frame (samples_sized frame f h))

-- ---- clipped
ends : P (of_bits binary32 0xc700_0000) + N (of_bits binary32 0x46ff_fe00) ≤ P (of_bits binary32 0x46ff_fe00) + N (of_bits binary32 0xc700_0000)
ends = plain (P (of_bits binary32 0xc700_0000)) (N (of_bits binary32 0x46ff_fe00)) (P (of_bits binary32 0x46ff_fe00) + N (of_bits binary32 0xc700_0000)) bottom_value.plus top_value.minus
  where
    plain : (p n z : ℕ) → p ≡ 0 → n ≡ 0 → p + n ≤ z
    plain p n z i j = omega arith

-- Each clipped sample lies between -32768 and 32767, where none is a NaN.
pub clipped_between : (xs : List Float) → Each Plain xs → Each Sixteen (clipped xs)
unfolding clipped Each
clipped_between [] h = tt
clipped_between (x ∷ xs) h = (
  clamp_in x (of_bits binary32 0xc700_0000) (of_bits binary32 0x46ff_fe00) h.0.0 h.0.1 bottom_value.number top_value.number ends,
  clipped_between xs h.1,
)

-- ---- of the call
-- what is below is at or below
or_left : (a b : Bool) → T a → T (a || b)
or_left true b t = tt
or_left false b t = absurd t

lt_le : (x y : Float) → T (lt x y) → T (le x y)
unfolding le
lt_le x y t = or_left (lt x y) (eq x y) t

abbrev nought : Float
nought = of_bits binary32 0x0000_0000

abbrev limit_512 : Float
limit_512 = of_bits binary32 0x4400_0000

nought_value : Value nought 0 0
unfolding P N size U of_bits
nought_value = record { number = constant_number 0x0000_0000 tt; plus = refl; minus = refl }

value_512 : Value limit_512 (512 * U) 0
unfolding P N size U of_bits
value_512 = record { number = constant_number 0x4400_0000 tt; plus = refl; minus = refl }

-- "with factors up to 355"
abbrev pub limit_355 : Float
limit_355 = of_bits binary32 0x43b1_8000

value_355 : Value limit_355 (355 * U) 0
unfolding P N size U of_bits
value_355 = record { number = constant_number 0x43b1_8000 tt; plus = refl; minus = refl }

-- What lies from 0 to a number of c units has at most c.
from_nought : (hi x : Float) (c : ℕ) → Value hi c 0 → T (fits binary32 x) → T (le nought x) → T (le x hi) → UpTo c x
from_nought hi x c h f a b =
    let z = nought_value in
    let n = between nought hi x z.number h.number f a b in
    let low = le→units nought x z.number n a in
    let high = le→units x hi n h.number b in
    let none = clear (P x) (N x) (P nought) (N nought) (sides x n).one z.plus z.minus low in
    record { number = n; none_below = none; most = most (P x) (N x) (P hi) (N hi) c h.plus h.minus none high }
  where
    clear : (p n q m : ℕ) → (p ≡ 0) ⊎ (n ≡ 0) → q ≡ 0 → m ≡ 0 → q + n ≤ p + m → n ≡ 0
    clear p n q m (inl i) j k l = omega arith
    clear p n q m (inr i) j k l = i

    most : (p n q m c : ℕ) → q ≡ c → m ≡ 0 → n ≡ 0 → p + m ≤ q + n → p ≤ c
    most p n q m c i j k l = omega arith

-- A gain factor has at most 512 * U units.
pub factor_512 : (x : Float) → T (fits binary32 x) → gain_factor x ≡ true → UpTo (512 * U) x
factor_512 x f g =
    let p = each_passed (lt nought x ∷ lt x limit_512 ∷ []) (holds g) in
    from_nought limit_512 x (512 * U) value_512 f (lt_le nought x (p 0)) (lt_le x limit_512 (p 1))

-- A gain factor up to 355 has at most 355 * U units.
pub factor_355 : (x : Float) → T (fits binary32 x) → gain_factor x ≡ true → le x limit_355 ≡ true → UpTo (355 * U) x
factor_355 x f g h =
    let p = each_passed (lt nought x ∷ lt x limit_512 ∷ []) (holds g) in
    from_nought limit_355 x (355 * U) value_355 f (lt_le nought x (p 0)) (holds h)

module _ (a : Applier) (frame : List Float) (channels samples : ℕ) (held : Held frame) (f : T (fits binary32 a.last)) (g : T (fits binary32 a.current))
    (ok : (applied a frame channels samples).next.reply ≡ done) where
  -- the frame with the gain on it
  out : List Float
  out = gained a.last a.current (inverse_of (pos samples)) channels samples frame

  shaped : is_samples samples ≡ true
  unfolding applied
  shaped = samples_pass channels samples (length frame) (taken frame channels samples true (passes a) true largest_input ok).shape

  sound : all_within largest_input frame ≡ true
  unfolding applied
  sound = (taken frame channels samples true (passes a) true largest_input ok).sound

  fine : Passed a
  unfolding applied
  fine = passed a (taken frame channels samples true (passes a) true largest_input ok).settings

  out_clipped : Each Sixteen (clipped out)
  unfolding out
  out_clipped =
      clipped_between out (each_so Number Plain number_plain out
      (gained_numbers samples shaped a.last a.current (factor_512 a.last f fine.last) (factor_512 a.current g fine.current) channels frame held sound))

  -- A frame that is not refused, where both factors are at most 355, comes out within 33554432, clipped or not.
  pub applied_within : le a.last limit_355 ≡ true → le a.current limit_355 ≡ true → all_within largest_level (applied a frame channels samples).frame ≡ true
  unfolding applied finished out
  applied_within p q = rw ok (go a.clip)
    where
      go : (b : Bool) → all_within largest_level (cond b (clipped out) out) ≡ true
      go true =
          all_sized (clipped out)
          (each_so Sixteen (Sized (33554432 * U))
          (λ (x : Float) (i : Sixteen x). in_sized (of_bits binary32 0xc700_0000) (of_bits binary32 0x46ff_fe00) x (32768 * U) (32767 * U) (33554432 * U) bottom_value top_value (omega arith) (omega arith) i)
          (clipped out) out_clipped)
      go false =
          gained_within samples shaped a.last a.current (factor_355 a.last f fine.last p) (factor_355 a.current g fine.current q) channels frame held sound

  -- Where clipping is set, each sample of a frame that is not refused comes out between -32768 and 32767, whatever the factors.
  pub applied_between : a.clip ≡ true → Each Sixteen (applied a frame channels samples).frame
  unfolding applied finished out
  applied_between p = rw (ok, p) out_clipped
