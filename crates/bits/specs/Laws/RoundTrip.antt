-- The float of a float's bits is that float, and the bits of the float of some bits are those bits, wherever no NaN is: so -0 keeps its bits. Laws.
-- Assumes nothing.
use Rattle.std.specs.Prelude.{◌≡◌, refl, Bool, true, false, not, cond, ℕ, ◌*◌, ◌<◌, T, eqb, Float}
use Rattle.std.proofs.Common.{sym, ap, subst, ◌∙◌, arith}
use Rattle.std.proofs.Math.Dec.{eqb_refl}
use Rattle.std.specs.Float.{nan, inf, fin, binary32}
use Rattle.std.specs.Float.Ieee.{level, up, down, eq, is_nan, fits, nan_bits, of_bits, to_bits}
use Rattle.std.specs.Float.Ieee.Bits.{of_bits-to_bits, to_bits-lt, of_bits-fits, to_bits-of_bits, nan_bits_is, is_true, is_false}
use Rattle.bits.specs.Floats.{float_of, pattern_of}

level_itself : (s : Bool) (a : ℕ) → level s a s a ≡ true
level_itself true a = rw (is_true (eqb a a) (eqb_refl a))
level_itself false a = rw (is_true (eqb a a) (eqb_refl a))

-- a float that is no NaN equals itself
equals_itself : (x : Float) → T (not (is_nan x)) → eq x x ≡ true
unfolding eq is_nan
equals_itself nan h = absurd h
equals_itself (inf true) h = refl
equals_itself (inf false) h = refl
equals_itself (fin s m e) h = level_itself s (m * up e * down e)

-- The bits of a float that is no NaN are the kit's.
pub pattern_is : (x : Float) → T (not (is_nan x)) → pattern_of x ≡ to_bits binary32 x
unfolding pattern_of
pattern_is x h = rw (equals_itself x h)

-- The float of bits that are no NaN's is the kit's.
pub float_is : (n : ℕ) → T (not (nan_bits binary32 n)) → float_of n ≡ of_bits binary32 n
unfolding float_of
float_is n h = rw (is_false (nan_bits binary32 n) h)

-- The bits of a NaN, and no others, give a NaN.
pub float_nan : (n : ℕ) → is_nan (float_of n) ≡ nan_bits binary32 n
unfolding float_of is_nan
float_nan n = go (nan_bits binary32 n) refl
  where
    go : (b : Bool) → nan_bits binary32 n ≡ b → is_nan (cond b nan (of_bits binary32 n)) ≡ nan_bits binary32 n
    go true e = sym e
    go false e = sym (nan_bits_is binary32 n)

-- The float of any bits is a float of 32 bits.
pub float_fits : (n : ℕ) → T (fits binary32 (float_of n))
unfolding float_of fits
float_fits n = go (nan_bits binary32 n)
  where
    go : (b : Bool) → T (fits binary32 (cond b nan (of_bits binary32 n)))
    go true = tt
    go false = of_bits-fits binary32 n

-- The bits of a float are a number of 32 bits.
pub pattern_small : (x : Float) → T (fits binary32 x) → pattern_of x < 4294967296
unfolding pattern_of
pattern_small x f = go (eq x x)
  where
    go : (b : Bool) → cond b (to_bits binary32 x) 2143289344 < 4294967296
    go true = to_bits-lt binary32 x f
    go false = omega arith

-- What is written as bits is read back: the same float, a negative zero too.
pub float_back : (x : Float) → T (fits binary32 x) → T (not (is_nan x)) → float_of (pattern_of x) ≡ x
unfolding float_of
float_back x f h =
    rw (pattern_is x h, nan_bits_is binary32 (to_bits binary32 x), of_bits-to_bits binary32 x f, is_false (is_nan x) h)

-- What is read from bits is written back: the same bits, those of a negative zero too.
pub pattern_back : (n : ℕ) → n < 4294967296 → T (not (nan_bits binary32 n)) → pattern_of (float_of n) ≡ n
pattern_back n l h =
    let plain : T (not (is_nan (of_bits binary32 n))) = subst (λ (b : Bool). T (not b)) (nan_bits_is binary32 n) h in
    ap pattern_of (float_is n h) ∙ pattern_is (of_bits binary32 n) plain ∙ to_bits-of_bits binary32 n l plain
