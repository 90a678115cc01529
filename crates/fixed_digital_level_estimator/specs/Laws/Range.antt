-- The envelope stays from 0 to 33554432: the magnitudes of accepted samples do, the larger of two does, and smoothing lies between the two ends, since its
-- two constants make 1 together.
-- Assumes nothing.
use Rattle.std.specs.Prelude.{◌≡◌, refl, Bool, true, false, cond, List, [], ◌∷◌, ℕ, zero, suc, ℤ, T, Float, take, drop}
use Rattle.std.proofs.Common.{sym, ◌∙◌, arith}
use Rattle.std.proofs.lemmas.Bool.{false≢true}
use Rattle.std.specs.Float.{nan, inf, fin, binary32}
use Rattle.std.specs.Float.Ieee.{le, lt, eq, add, mul, fits, of_bits, size as bits}
use Rattle.std.specs.Float.Ieee.Fits.{and_i}
use Rattle.std.specs.Float.Ieee.Scale.{finite}
use Rattle.lists.specs.Each.{Each, each_take, each_drop}
use Rattle.rounding.specs.Units.{P, N, Number}
use Rattle.rounding.specs.Laws.Exact.{constant_number}
use Rattle.rounding.specs.Laws.Order.{le→units, units→le, le_box, between}
use Rattle.floats.specs.Choice.{larger, smaller}
use Rattle.floats.specs.Kinds.{magnitude}
use Rattle.floats.specs.Laws.Kinds.{passed}
use Rattle.intervals.specs.Interval.{Expr, variable, constant, sum, product, eval, Box, box, bounded, Boxed}
use Rattle.intervals.specs.Laws.Interval.{interval}
use Rattle.intervals.specs.Laws.Choice.{larger_is, leq_trans}
use Rattle.units.specs.Figures.{curve_level}
use Rattle.frames.specs.Samples.{largest_level, within, all_within}
use Rattle.lists.specs.Tests.{each_of}
use Rattle.fixed_digital_level_estimator.specs.Envelope.{silence, peak_from, peaks_in, peaks_over, raised, decayed, smoothed}
use Rattle.fixed_digital_level_estimator.specs.Range.{Level, Sound, Held}

-- ---- the two ends
low_real : T (finite (of_bits binary32 0x0000_0000))
unfolding of_bits
low_real = tt

high_real : T (finite (of_bits binary32 0x4c00_0000))
unfolding of_bits
high_real = tt

low_number : Number (of_bits binary32 0x0000_0000)
low_number = constant_number 0x0000_0000 low_real

pub high_number : Number (of_bits binary32 0x4c00_0000)
high_number = constant_number 0x4c00_0000 high_real

-- 0 is no units on either side, and the other end is none below zero
pub end_units : (P (of_bits binary32 0x0000_0000) ≡ 0) × (N (of_bits binary32 0x0000_0000) ≡ 0) × (N (of_bits binary32 0x4c00_0000) ≡ 0)
unfolding P N of_bits
end_units = (refl, refl, refl)

-- 0 is a level.
pub level_zero : Level (of_bits binary32 0x0000_0000)
level_zero =
    let p = end_units.0 in
    let n = end_units.1 in
    let m = end_units.2 in
    record { number = low_number; above = omega arith; below = omega arith }

-- What passes the test of a curve level is a level, where it is an f32.
pub level_of : (x : Float) → T (fits binary32 x) → curve_level x ≡ true → Level x
level_of x f h =
    let p = each_of (le (of_bits binary32 0x0000_0000) x ∷ le x (of_bits binary32 0x4c00_0000) ∷ []) h in
    let a = passed (p 0) in
    let b = passed (p 1) in
    le_box (of_bits binary32 0x0000_0000) (of_bits binary32 0x4c00_0000) x low_number high_number
    (between (of_bits binary32 0x0000_0000) (of_bits binary32 0x4c00_0000) x low_number high_number f a b) a b

-- A level passes the test of a curve level.
pub level_passes : (x : Float) → Level x → T (curve_level x)
level_passes x l =
    and_i (le (of_bits binary32 0x0000_0000) x) (le x (of_bits binary32 0x4c00_0000))
    (units→le (of_bits binary32 0x0000_0000) x low_number l.number l.above)
    (units→le x (of_bits binary32 0x4c00_0000) l.number high_number l.below)

-- ---- a sample's magnitude
-- the sign has no part in whether a number fits
without_sign : (s : Bool) (m : ℕ) (e : ℤ) → T (fits binary32 (fin s m e)) → T (fits binary32 (fin false m e))
unfolding fits
without_sign s zero e f = f
without_sign s (suc m) e f = f

none_below : (m : ℕ) (e : ℤ) → N (fin false m e) ≡ 0
unfolding N
none_below m e = refl

no_nan : le nan largest_level ≡ false
unfolding le lt eq
no_nan = refl

no_infinity : le (inf false) largest_level ≡ false
unfolding le lt eq of_bits
no_infinity = refl

-- The magnitude of an f32 within the bound is a level.
pub sample_level : (x : Float) → T (fits binary32 x) → within largest_level x ≡ true → Level (magnitude x)
unfolding within magnitude
sample_level nan f h = absurd (false≢true (sym no_nan ∙ h))
sample_level (inf s) f h = absurd (false≢true (sym no_infinity ∙ h))
sample_level (fin s m e) f h =
    let x = fin false m e in
    let number : Number x = record { real = tt; held = without_sign s m e f } in
    let low = end_units.0 in
    let low' = end_units.1 in
    let none = none_below m e in
    record { number = number; above = omega arith; below = le→units x largest_level number high_number (passed h) }

-- Each sample of a slice within the bound has such a magnitude.
pub samples_level : (xs : List Float) → Held xs → all_within largest_level xs ≡ true → Each Sound xs
unfolding all_within Each
samples_level [] f h = tt
samples_level (x ∷ xs) f h =
    let p = each_of (within largest_level x ∷ all_within largest_level xs ∷ []) h in
    (sample_level x (f 0) (p 0), samples_level xs (λ (i : ℕ). f (suc i)) (p 1))

-- ---- the peaks
-- The larger of two levels is a level.
pub larger_level : (x y : Float) → Level x → Level y → Level (larger x y)
larger_level x y a b =
    let g = larger_is x y a.number b.number in
    record {
      number = g.number;
      above = leq_trans (of_bits binary32 0x0000_0000) x (larger x y) a.above g.first;
      below = g.least (of_bits binary32 0x4c00_0000) a.below b.below;
    }

-- The largest magnitude is a level.
pub peak_level : (found : Float) (xs : List Float) → Level found → Each Sound xs → Level (peak_from found xs)
unfolding peak_from Each
peak_level found [] l h = l
peak_level found (x ∷ xs) l h = peak_level (larger found (magnitude x)) xs (larger_level found (magnitude x) l h.0) h.1

-- The peaks of a channel are levels.
pub peaks_in_level : (s : ℕ) (found xs : List Float) → Each Level found → Each Sound xs → Each Level (peaks_in s found xs)
unfolding peaks_in Each
peaks_in_level s [] xs l h = tt
peaks_in_level s (found ∷ more) xs l h =
    (peak_level found (take s xs) l.0 (each_take Sound s xs h), peaks_in_level s more (drop s xs) l.1 (each_drop Sound s xs h))

-- The peaks over all channels are levels.
pub peaks_over_level : (c n s : ℕ) (found xs : List Float) → Each Level found → Each Sound xs → Each Level (peaks_over c n s found xs)
unfolding peaks_over
peaks_over_level zero n s found xs l h = l
peaks_over_level (suc c) n s found xs l h =
    peaks_over_level c n s (peaks_in s found (take n xs)) (drop n xs) (peaks_in_level s found (take n xs) l (each_take Sound n xs h)) (each_drop Sound n xs h)

-- Twenty times 0 are levels.
pub silence_level : Each Level silence
unfolding Each
silence_level =
    let z = level_zero in
    (z, (z, (z, (z, (z, (z, (z, (z, (z, (z, (z, (z, (z, (z, (z, (z, (z, (z, (z, (z, tt))))))))))))))))))))

-- Raising keeps levels.
pub raised_level : (xs : List Float) → Each Level xs → Each Level (raised xs)
unfolding raised Each
raised_level [] h = tt
raised_level (x ∷ []) h = h
raised_level (x ∷ y ∷ xs) h = (larger_level x y h.0 h.1.0, raised_level (y ∷ xs) h.1)

-- ---- smoothing
abbrev levels : Box
levels = record { low = of_bits binary32 0x0000_0000; high = of_bits binary32 0x4c00_0000 }

-- value*(1-0.9971259)+state*0.9971259, with the value and the state as variables
mixed : Expr
mixed = sum (product (variable 0) (constant (of_bits binary32 0x3b3c_5b00))) (product (variable 1) (constant (of_bits binary32 0x3f7f_43a5)))

mixed_low : (box (levels ∷ levels ∷ []) mixed).low ≡ of_bits binary32 0x0000_0000
unfolding mixed box add mul larger smaller lt of_bits bits
mixed_low = refl

mixed_high : (box (levels ∷ levels ∷ []) mixed).high ≡ of_bits binary32 0x4c00_0000
unfolding mixed box add mul larger smaller lt of_bits bits
mixed_high = refl

mixed_bounded : T (bounded (levels ∷ levels ∷ []) mixed)
unfolding mixed bounded add mul larger smaller of_bits bits fits lt
mixed_bounded = tt

boxed : (x : Float) → Level x → Boxed levels x
boxed x l = record { low_number = low_number; high_number = high_number; inside = l }

mixed_level : (value state : Float) → Level value → Level state → Level (eval (value ∷ state ∷ []) mixed)
mixed_level value state a b =
    let r = interval (levels ∷ levels ∷ []) (value ∷ state ∷ []) (boxed value a, (boxed state b, tt)) mixed mixed_bounded in
    rw (mixed_low, mixed_high) at r.inside

-- The next value of the envelope is a level.
pub decayed_level : (state value : Float) → Level state → Level value → Level (decayed state value)
unfolding decayed mixed eval
decayed_level state value a b = either (lt state value) b (mixed_level value state b a)
  where
    either : (c : Bool) {x y : Float} → Level x → Level y → Level (cond c x y)
    either true p q = p
    either false p q = q

-- Smoothing keeps levels.
pub smoothed_level : (state : Float) (xs : List Float) → Level state → Each Level xs → Each Level (smoothed state xs)
unfolding smoothed Each
smoothed_level state [] l h = tt
smoothed_level state (value ∷ values) l h =
    let next = decayed_level state value l h.0 in
    (next, smoothed_level (decayed state value) values next h.1)
