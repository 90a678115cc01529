-- The level of an average that passes, and the level to start with, lie in their range. Laws.
-- Assumes nothing.
use Rattle.std.specs.Prelude.{◌≡◌, ℕ, ◌+◌, ◌*◌, ◌<◌, ◌≤◌, Bool, true, not, T, ◌⊎◌, List, [], ◌∷◌, ◌==◌, refl, Float}
use Rattle.std.proofs.Common.{sym, ◌∙◌, inl, inr, le_refl, le_of_eq, mul-le-mul_right, lt_of_lt_of_le, arith, eqb→eq, lit<}
use Rattle.std.proofs.Math.Dec.{eqb_refl}
use Rattle.std.specs.Float.{nan, inf, fin, binary32}
use Rattle.std.specs.Float.Ieee.{fits, is_nan, sub, add, neg, div, lt, le, eq, of_bits, size as bits}
use Rattle.std.specs.Float.Ieee.Bits.{is_true}
use Rattle.std.specs.Float.Ieee.Fits.{and_i}
use Rattle.lists.specs.Tests.{each_passed}
use Rattle.rounding.specs.Units.{U, size, P, N, Number, Value, In}
use Rattle.rounding.specs.Laws.Exact.{constant_number}
use Rattle.rounding.specs.Laws.Operations.{div_rounds}
use Rattle.rounding.specs.Laws.Order.{units→le, eq_units, between, le_box}
use Rattle.rounding.specs.Laws.Whole.{U_pos, sides}
use Rattle.floats.specs.Choice.{clamp, larger, smaller}
use Rattle.floats.specs.Kinds.{is_negative_zero}
use Rattle.floats.specs.Laws.Kinds.{nought, nought_value, passed as holds}
use Rattle.intervals.specs.Interval.{Expr, variable, constant, difference, clamped, eval, Box, box, bounded, Boxed}
use Rattle.intervals.specs.Laws.Interval.{interval}
use Rattle.intervals.specs.Laws.Choice.{clamp_in}
use Rattle.units.specs.Ranges.{closed, above}
use Rattle.units.specs.Settings.{accepted, setting}
use Rattle.units.specs.declared.settings.Settings.{Settings}
use Rattle.speech_level_estimator.specs.Average.{starting, passes, level}
use Rattle.speech_level_estimator.specs.Estimator.{starting_level}
use Rattle.speech_level_estimator.specs.Held.{Held, HeldSettings}
use Rattle.speech_level_estimator.specs.declared.Average.{Average}
use Rattle.speech_level_estimator.specs.Laws.Facts.{one, one_value, Passed, passed, passing}
use Rattle.speech_level_estimator.specs.Laws.Near.{near}

-- ---- the ends: -90 and 30
abbrev pub lowest : Float
lowest = of_bits binary32 0xc2b4_0000

abbrev pub highest : Float
highest = of_bits binary32 0x41f0_0000

lowest_value : Value lowest 0 (90 * U)
unfolding P N size U of_bits
lowest_value = record { number = constant_number 0xc2b4_0000 tt; plus = refl; minus = refl }

highest_value : Value highest (30 * U) 0
unfolding P N size U of_bits
highest_value = record { number = constant_number 0x41f0_0000 tt; plus = refl; minus = refl }

-- What lies from -90 to 30 passes the test of a published level.
pub in_closed : (x : Float) → In lowest highest x → T (closed lowest x highest)
in_closed x i =
    and_i (le lowest x) (le x highest) (units→le lowest x lowest_value.number i.number i.above) (units→le x highest i.number highest_value.number i.below)

-- ---- the level of an average
-- The sum of an average that passes, by its weight, is a number.
quotient_number : (a : Average) → Passed a → Number (div binary32 a.sum a.weight)
quotient_number a h =
    (near (div binary32 a.sum a.weight) (P a.sum * U) (N a.sum * U) (P a.weight) 151 some (lit< tt) (div_rounds a.sum a.weight h.sum h.weight.number some)
    (small (P a.sum) (N a.sum) (P a.weight) U h.small)).number
  where
    some : 0 < P a.weight
    some = lt_of_lt_of_le U_pos h.weight.least

    small : (p n w o : ℕ) → p + n ≤ 151 * w → p * o + n * o ≤ 151 * o * w
    small p n w o e = let z : (p + n) * o ≤ 151 * w * o = mul-le-mul_right o e in omega arith

real_number : (x : Float) → Number x → T (not (is_nan x))
unfolding is_nan
real_number nan n = absurd n.real
real_number (inf s) n = absurd n.real
real_number (fin s m e) n = tt

-- The level lies from -90 to 30: it is clamped, and no NaN.
pub level_in : (a : Average) → Passed a → In lowest highest (level a)
unfolding level
level_in a h =
    let n = quotient_number a h in
    let l = lowest_value in
    let t = highest_value in
    clamp_in (div binary32 a.sum a.weight) lowest highest n.held (real_number (div binary32 a.sum a.weight) n) l.number t.number
    (order (P lowest) (N lowest) (P highest) (N highest) U l.plus t.minus)
  where
    order : (a b c d o : ℕ) → a ≡ 0 → d ≡ 0 → a + d ≤ c + b
    order a b c d o i j = omega arith

-- The level of any average that passes lies from -90 to 30.
pub level_in_range : (a : Average) → Held a → passes a ≡ true → closed lowest (level a) highest ≡ true
level_in_range a held h = is_true (closed lowest (level a) highest) (in_closed (level a) (level_in a (passed a held h)))

-- ---- the level to start with
-- -20 less two numbers from 0 to 50, from -90 to 30
abbrev last : Float
last = of_bits binary32 0xc1a0_0000

abbrev begun : Expr
begun = clamped (difference (difference (constant last) (variable 0)) (variable 1)) (constant lowest) (constant highest)

abbrev fifty : Box
fifty = record { low = nought; high = of_bits binary32 0x4248_0000 }

begun_low : (box (fifty ∷ fifty ∷ []) begun).low ≡ lowest
unfolding box sub add neg larger smaller lt of_bits bits
begun_low = refl

begun_high : (box (fifty ∷ fifty ∷ []) begun).high ≡ last
unfolding box sub add neg larger smaller lt of_bits bits
begun_high = refl

begun_bounded : T (bounded (fifty ∷ fifty ∷ []) begun)
unfolding bounded sub add neg larger smaller lt of_bits bits fits
begun_bounded = tt

fifty_number : Number (of_bits binary32 0x4248_0000)
unfolding of_bits
fifty_number = constant_number 0x4248_0000 tt

boxed : (x : Float) → T (fits binary32 x) → T (closed nought x (of_bits binary32 0x4248_0000)) → Boxed fifty x
boxed x f t =
    let top = of_bits binary32 0x4248_0000 in
    let z = nought_value.number in
    let both = each_passed (le nought x ∷ le x top ∷ []) t in
    let a = both 0 in
    let b = both 1 in
    record { low_number = z; high_number = fifty_number; inside = le_box nought top x z fifty_number (between nought top x z fifty_number f a b) a b }

-- the tests of the settings, in the order of `accepted`; that of the headroom is two
abbrev tests : Settings → List Bool
tests s =
    closed nought s.headroom.0 (of_bits binary32 0x4248_0000)
    ∷ not (is_negative_zero s.headroom.0)
    ∷ above nought s.largest.0 (of_bits binary32 0x4248_0000)
    ∷ setting nought s.initial.0 (of_bits binary32 0x4248_0000)
    ∷ setting (of_bits binary32 0x3c23_d70a) s.change (of_bits binary32 0x42c8_0000)
    ∷ setting lowest s.noise.0 nought
    ∷ []

-- what accepted settings have of the headroom and of the initial gain
accepted_facts : (s : Settings) → T (accepted s) → T (closed nought s.headroom.0 (of_bits binary32 0x4248_0000)) × T (closed nought s.initial.0 (of_bits binary32 0x4248_0000))
unfolding accepted
accepted_facts s t =
    let top = of_bits binary32 0x4248_0000 in
    let p = each_passed (tests s) t in
    (p 0, each_passed (closed nought s.initial.0 top ∷ not (is_negative_zero s.initial.0) ∷ []) (p 3) 0)

-- The level that accepted settings start with lies from -90 to -20.
pub starting_level_in : (s : Settings) → HeldSettings s → T (accepted s) → In lowest last (starting_level s)
unfolding starting_level eval clamp
starting_level_in s f t =
    let k = accepted_facts s t in
    let xs = s.initial.0 ∷ s.headroom.0 ∷ [] in
    rw (begun_low, begun_high) at
    (interval (fifty ∷ fifty ∷ []) xs (boxed s.initial.0 f.initial k.1, (boxed s.headroom.0 f.headroom k.0, tt)) begun begun_bounded).inside

last_value : Value last 0 (20 * U)
unfolding P N size U of_bits
last_value = record { number = constant_number 0xc1a0_0000 tt; plus = refl; minus = refl }

-- What lies from -90 to -20 lies from -90 to 30.
pub wider : (x : Float) → In lowest last x → In lowest highest x
wider x i = record { number = i.number; above = i.above; below = further (P x) (N x) (P last) (N last) (P highest) (N highest) U last_value.plus last_value.minus highest_value.plus highest_value.minus i.below }
  where
    further : (p n a b c d o : ℕ) → a ≡ 0 → b ≡ 20 * o → c ≡ 30 * o → d ≡ 0 → p + b ≤ a + n → p + d ≤ c + n
    further p n a b c d o i j k l m = omega arith

-- A number equals itself,
pub equals_itself : (x : Float) → Number x → T (eq x x)
equals_itself x n = holds (eq_units x x n n ∙ is_true (P x + N x == P x + N x) (eqb_refl (P x + N x)))

-- only a number equals a number
equal_number : (x y : Float) → T (fits binary32 x) → T (eq x y) → Number y → Number x
unfolding eq
equal_number nan y f t n = absurd t
equal_number (inf s) nan f t n = absurd t
equal_number (inf s) (inf r) f t n = absurd n.real
equal_number (inf s) (fin r m e) f t n = absurd t
equal_number (fin s m e) y f t n = record { real = tt; held = f }

-- and what equals a number from -90 to -20 lies there too.
pub equal_in : (x y : Float) → T (fits binary32 x) → T (eq x y) → In lowest last y → In lowest last x
equal_in x y f t i =
    let n = equal_number x y f t i.number in
    let same = eqb→eq (P x + N y) (P y + N x) (holds (sym (eq_units x y n i.number) ∙ is_true (eq x y) t)) in
    let above = i.above in
    let below = i.below in
    record { number = n; above = omega arith; below = omega arith }

-- ---- at the start
-- An average that starts with a level from -90 to 30 passes.
pub starting_passed : (x : Float) → In lowest highest x → Passed (starting x)
unfolding starting
starting_passed x i =
    let o = one_value in
    let l = lowest_value in
    let h = highest_value in
    record {
      time = le_refl 400;
      tens = refl;
      weight = record { number = o.number; none_below = o.minus; least = le_of_eq (sym o.plus); most = fifty_of (P one) U o.plus };
      sum = i.number;
      small = within (P x) (N x) (P lowest) (N lowest) (P highest) (N highest) (P one) U (sides x i.number).one l.plus l.minus h.plus h.minus o.plus i.above i.below;
    }
  where
    fifty_of : (p o : ℕ) → p ≡ o → p ≤ 50 * o
    fifty_of p o e = omega arith

    within : (p n a b c d e o : ℕ) → (p ≡ 0) ⊎ (n ≡ 0) → a ≡ 0 → b ≡ 90 * o → c ≡ 30 * o → d ≡ 0 → e ≡ o → a + n ≤ p + b → p + d ≤ c + n → p + n ≤ 151 * e
    within p n a b c d e o (inl z) i j k l m x y = omega arith
    within p n a b c d e o (inr z) i j k l m x y = omega arith

-- An average that starts with the level that accepted settings give passes.
pub starting_passes : (s : Settings) → HeldSettings s → accepted s ≡ true → passes (starting (starting_level s)) ≡ true
starting_passes s f h = passing (starting (starting_level s)) (starting_passed (starting_level s) (wider (starting_level s) (starting_level_in s f (holds h))))
