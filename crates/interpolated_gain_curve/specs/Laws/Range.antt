-- For every accepted level the gain is a number above 0 and at most 1, so below 2.
use Rattle.std.specs.Prelude.{◌≡◌, ℕ, zero, suc, ◌+◌, ◌<◌, ◌≤◌, Bool, true, false, cond, not, ◌&&◌, T, List, [], ◌∷◌, length, get_or, nat_le, slice_index_or, refl, Float}
use Rattle.std.proofs.Common.{sym, subst, inl, inr, le_refl, le_of_lt, eq-or-lt_of_le, not-suc-le-zero, le_of_suc-le-suc, arith, leb-false}
use Rattle.std.specs.Float.{nan, binary32}
use Rattle.std.specs.Float.Ieee.{add, mul, div, lt, le, eq, fits, of_bits, size as bits}
use Rattle.std.specs.Float.Ieee.Fits.{and_l, and_r}
use Rattle.std.specs.Float.Ieee.Scale.{finite}
use Rattle.lists.specs.Table.{at}
use Rattle.lists.specs.Tests.{each_passed}
use Rattle.rounding.specs.Units.{P, N, Number}
use Rattle.rounding.specs.Laws.Order.{le→units, units→le, lt→units, units→lt, not-lt→units, le_units, le_box, between}
use Rattle.rounding.specs.Laws.Exact.{constant_number}
use Rattle.floats.specs.Laws.Kinds.{passed}
use Rattle.floats.specs.Choice.{larger, smaller}
use Rattle.intervals.specs.Interval.{Expr, variable, constant, sum, product, quotient, eval, Box, box, bounded, Boxed}
use Rattle.intervals.specs.Laws.Interval.{interval}
use Rattle.units.specs.Figures.{curve_level}
use Rattle.interpolated_gain_curve.specs.Gain.{knot_bits, knots, slope_bits, slopes, intercept_bits, intercepts, first_knot, largest_level, piece_of, on_piece, gain_of}
use Rattle.interpolated_gain_curve.specs.Laws.Knots.{Largest, piece_is_largest}

abbrev nought : Float
nought = of_bits binary32 0x0000_0000

abbrev one : Float
one = of_bits binary32 0x3f80_0000

abbrev two : Float
two = of_bits binary32 0x4000_0000

abbrev loudest : Float
loudest = of_bits binary32 0x4c00_0000

-- a gain that is a number above 0, at most 1 and so below 2
pub record Gain (g : Float) : Type 0 where
  pub number : Number g
  pub above : T (lt nought g)
  pub most : T (le g one)
  pub below : T (lt g two)

-- ---- tests that failed
missed : {b : Bool} → b ≡ false → T (not b)
missed e = subst (λ (b : Bool). T (not b)) (sym e) tt

not-le→units : (x y : Float) → Number x → Number y → T (not (le x y)) → P y + N x < P x + N y
not-le→units x y h k t = go (P x + N y) (P y + N x) (subst (λ (b : Bool). T (not b)) (le_units x y h k) t)
  where
    failed : (b : Bool) → T (not b) → b ≡ false
    failed true t = absurd t
    failed false t = refl

    go : (p q : ℕ) → T (not (nat_le p q)) → q < p
    go p q t = leb-false p q (failed (nat_le p q) t)

-- ---- from a box to that
-- the box is above 0 and at most 1
good : Box → Bool
good b = lt nought b.low && le b.high one

constants : Number nought × Number one × Number two × Number largest_level × Number loudest × T (lt one two)
unfolding of_bits lt
constants = (constant_number 0x0000_0000 tt, constant_number 0x3f80_0000 tt, constant_number 0x4000_0000 tt, constant_number 0x470f_9e4d tt, constant_number 0x4c00_0000 tt, tt)

good_gain : (b : Box) (g : Float) → Boxed b g → T (good b) → Gain g
unfolding good
good_gain b g i t =
    let k = constants in
    let low = lt→units nought b.low k.0 i.low_number (and_l (lt nought b.low) (le b.high one) t) in
    let high = le→units b.high one i.high_number k.1 (and_r (lt nought b.low) (le b.high one) t) in
    let more = lt→units one two k.1 k.2 k.5 in
    let x = i.inside in
    let up = x.above in
    let down = x.below in
    record {
      number = x.number;
      above = units→lt nought g k.0 x.number (omega arith);
      most = units→le g one x.number k.1 (omega arith);
      below = units→lt g two x.number k.2 (omega arith);
    }

-- ---- at or below the first knot
one_gain : Gain one
unfolding of_bits lt le eq
one_gain = record { number = constants.1; above = tt; most = tt; below = tt }

-- ---- at or above 36766.3: what 32768 is divided by lies from there to 33554432
abbrev saturated : Box
saturated = record { low = largest_level; high = loudest }

fraction : Expr
fraction = quotient (constant (of_bits binary32 0x4700_0000)) (variable 0)

fraction_ok : T (bounded (saturated ∷ []) fraction && good (box (saturated ∷ []) fraction))
unfolding fraction good bounded box div larger smaller of_bits bits fits lt le eq
fraction_ok = tt

-- what a passed test of an expression gives, where the level lies in its box
tested : (b : Box) (e : Expr) (level : Float) → Boxed b level → T (bounded (b ∷ []) e && good (box (b ∷ []) e)) → Gain (eval (level ∷ []) e)
tested b e level i t =
    let first = bounded (b ∷ []) e in
    let then = good (box (b ∷ []) e) in
    good_gain (box (b ∷ []) e) (eval (level ∷ []) e) (interval (b ∷ []) (level ∷ []) (i, tt) e (and_l first then t)) (and_r first then t)

fraction_gain : (level : Float) → Number level → T (le largest_level level) → T (le level loudest) → Gain (div binary32 (of_bits binary32 0x4700_0000) level)
unfolding fraction eval
fraction_gain level n l h =
    let k = constants in
    tested saturated fraction level (record { low_number = k.3; high_number = k.4; inside = le_box largest_level loudest level k.3 k.4 n l h }) fraction_ok

-- ---- between: the pieces
-- the straight line of piece i
line : ℕ → Expr
line i = sum (product (constant (slice_index_or slopes i nan)) (variable 0)) (constant (slice_index_or intercepts i nan))

-- where its levels lie: from its knot to the next one, and on the last piece to 36766.3
end : ℕ → Float
end i = slice_index_or knots (suc i) largest_level

place : ℕ → Float → Box
place i x = record { low = x; high = end i }

is_number : Float → Bool
is_number x = finite x && fits binary32 x

piece_ok : ℕ → Float → Bool
piece_ok i x = is_number x && is_number (end i) && (bounded (place i x ∷ []) (line i) && good (box (place i x ∷ []) (line i)))

-- one test over the table
pieces_ok : (i : ℕ) → i < 32 → T (piece_ok i (slice_index_or knots i nan))
unfolding piece_ok is_number place end line good knots knot_bits slopes slope_bits intercepts intercept_bits bounded box add mul larger smaller of_bits bits fits lt le eq
pieces_ok i h = at piece_ok nan knots tt i h

a_number : (x : Float) → T (is_number x) → Number x
unfolding is_number
a_number x t = record { real = and_l (finite x) (fits binary32 x) t; held = and_r (finite x) (fits binary32 x) t }

-- ---- a level on its piece lies in the piece's box
denied : (b : Bool) → (T b → ⊥) → T (not b)
denied true f = f tt
denied false f = tt

-- an entry that there is does not depend on what stands for those that are not
any_default : (xs : List Float) (i : ℕ) (d e : Float) → i < length xs → slice_index_or xs i d ≡ slice_index_or xs i e
any_default [] i d e h = absurd (not-suc-le-zero h)
any_default (x ∷ xs) zero d e h = refl
any_default (x ∷ xs) (suc i) d e h = any_default xs i d e (le_of_suc-le-suc h)

before_end : (level : Float) (i : ℕ) → Largest level i → Number level → Number (end i) → T (not (le largest_level level)) → P level + N (end i) ≤ P (end i) + N level
unfolding end knots knot_bits
before_end level i l n m t = elim (eq-or-lt_of_le l.inside) [ inl e ↦ at_last e | inr h ↦ at_knot h ]
  where
    at_knot : suc i < 32 → P level + N (end i) ≤ P (end i) + N level
    at_knot h =
        let same = any_default knots (suc i) nan largest_level h in
        not-lt→units (end i) level m n (denied (lt (end i) level) (λ t. l.after (suc i) (le_refl (suc i)) h (subst (λ (x : Float). T (lt x level)) (sym same) t)))

    at_last : suc i ≡ 32 → P level + N (end i) ≤ P (end i) + N level
    at_last e = subst (λ (k : ℕ). P level + N (slice_index_or knots k largest_level) ≤ P (slice_index_or knots k largest_level) + N level) (sym e) (le_of_lt (not-le→units largest_level level constants.3 n t))

piece_gain : (level : Float) (i : ℕ) → Largest level i → Number level → T (not (le largest_level level)) → Gain (on_piece i level)
unfolding piece_ok place line eval on_piece
piece_gain level i l n t =
    let x = get_or knots i nan in
    let rest = bounded (place i x ∷ []) (line i) && good (box (place i x ∷ []) (line i)) in
    let p = each_passed (is_number x ∷ is_number (end i) ∷ rest ∷ []) (pieces_ok i l.inside) in
    let a = a_number x (p 0) in
    let b = a_number (end i) (p 1) in
    tested (place i x) (line i) level
    (record {
      low_number = a;
      high_number = b;
      inside = record { number = n; above = le_of_lt (lt→units x level a n l.below); below = before_end level i l n b t };
    })
    (p 2)

-- ---- the whole curve
-- For every accepted level the gain is a number above 0, at most 1 and below 2.
pub gain_in_range : (level : Float) → T (fits binary32 level) → T (curve_level level) → Gain (gain_of level)
unfolding gain_of
gain_in_range level f t = go (le level first_knot) (le largest_level level) refl refl
  where
    least : T (le nought level)
    least = and_l (le nought level) (le level loudest) t

    most : T (le level loudest)
    most = and_r (le nought level) (le level loudest) t

    number : Number level
    number = between nought loudest level constants.0 constants.4 f least most

    first : Number first_knot
    first = unfold of_bits in constant_number 0x46ea_d298 tt

    go : (a b : Bool) → le level first_knot ≡ a → le largest_level level ≡ b
        → Gain (cond a one (cond b (div binary32 (of_bits binary32 0x4700_0000) level) (on_piece (piece_of level) level)))
    go true b p q = one_gain
    go false true p q = fraction_gain level number (passed q) most
    go false false p q = piece_gain level (piece_of level) (piece_is_largest level (units→lt first_knot level first number (not-le→units level first_knot number first (missed p)))) number (missed q)
