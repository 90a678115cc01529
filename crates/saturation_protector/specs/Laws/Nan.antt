-- Where no NaN comes about: rounding makes none, nor do the operations on numbers, whether or not the result is infinite. Laws.
-- Assumes nothing.
use Rattle.std.proofs.Common.{sym, subst}
use Rattle.std.specs.Prelude.{Bool, true, false, not, cond, ◌&&◌, ℕ, zero, suc, ◌+◌, ◌-◌, ◌*◌, ◌^◌, ℤ, T, ltb, Float}
use Rattle.std.specs.Bool.{beq}
use Rattle.std.proofs.Math.Dec.{eqb-suc-zero}
use Rattle.std.specs.Float.{nan, inf, fin, binary32}
use Rattle.std.specs.Float.Ieee.{up, down, unlike, is_nan, odd, units, round, sum, add, sub, mul, neg}
use Rattle.std.specs.Float.Ieee.Fits.{round_is}
use Rattle.std.specs.Float.Ieee.Scale.{finite}

-- x is not a NaN
abbrev pub Real : Float → Type 0
Real x = T (not (is_nan x))

odd_real : (d : ℕ) (s : Bool) (q k l : ℕ) → Real (odd d s q k l)
unfolding odd is_nan
odd_real d s zero k l = tt
odd_real d s (suc q) k l = tt

either_real : (b : Bool) (x y : Float) → Real x → Real y → Real (cond b x y)
either_real true x y h k = h
either_real false x y h k = k

units_real : (s : Bool) (q k : ℕ) → Real (units binary32 s q k)
unfolding units is_nan
units_real s q k = either_real (ltb (q * 2 ^ k) (2 ^ 277)) (odd 25 s q k 149) (inf s) (odd_real 25 s q k 149) tt

-- Rounding makes no NaN.
pub round_real : (s : Bool) (a c : ℕ) → Real (round binary32 s a c)
round_real s a c = subst (λ (z : Float). Real z) (sym (round_is binary32 s a c)) (units_real s _ _)

sum_real : (s : Bool) (a : ℕ) (t : Bool) (b c : ℕ) → Real (sum binary32 s a t b c)
unfolding sum
sum_real s a t b c =
    either_real (beq s t) (round binary32 s (a + b) c) (cond (ltb a b) (round binary32 t (b - a) c) (round binary32 (s && ltb b a) (a - b) c))
    (round_real s (a + b) c)
    (either_real (ltb a b) (round binary32 t (b - a) c) (round binary32 (s && ltb b a) (a - b) c) (round_real t (b - a) c) (round_real (s && ltb b a) (a - b) c))

-- A number and anything but a NaN have a sum.
pub add_real : (x y : Float) → T (finite x) → Real y → Real (add binary32 x y)
unfolding add is_nan
add_real nan y h k = absurd h
add_real (inf s) y h k = absurd h
add_real (fin s m e) nan h k = absurd k
add_real (fin s m e) (inf t) h k = tt
add_real (fin s m e) (fin t n d) h k = sum_real s (m * up e * down d) t (n * up d * down e) (down e * down d)

neg_real : (x : Float) → Real x → Real (neg x)
unfolding neg is_nan
neg_real nan h = h
neg_real (inf s) h = tt
neg_real (fin s m e) h = tt

-- And a difference.
pub sub_real : (x y : Float) → T (finite x) → Real y → Real (sub binary32 x y)
unfolding sub
sub_real x y h k = add_real x (neg y) h (neg_real y k)

-- Anything but a NaN and a number other than 0 have a product.
pub mul_real : (x : Float) (s : Bool) (m : ℕ) (e : ℤ) → Real x → Real (mul binary32 x (fin s (suc m) e))
unfolding mul is_nan
mul_real nan s m e h = absurd h
mul_real (inf t) s m e h = rw (eqb-suc-zero m) tt
mul_real (fin t n d) s m e h = round_real (unlike t s) (n * up d * (suc m * up e)) (down d * down e)

-- A number is no NaN.
pub finite_real : (x : Float) → T (finite x) → Real x
unfolding is_nan
finite_real nan h = absurd h
finite_real (inf s) h = tt
finite_real (fin s m e) h = tt
