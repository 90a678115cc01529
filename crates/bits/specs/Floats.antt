-- The float of 32 bits, and the bits of a float, for every number and every float. Definitions only.
use Rattle.std.specs.Prelude.{cond, ℕ, Float}
use Rattle.std.specs.Float.{nan, binary32}
use Rattle.std.specs.Float.Ieee.{eq, nan_bits, of_bits, to_bits}

-- the float of bits: of any NaN's bits the one NaN that a float is
unfoldable pub float_of : ℕ → Float
float_of bits = cond (nan_bits binary32 bits) nan (of_bits binary32 bits)

-- the bits of a float; of a NaN, which alone is not equal to itself, those with only the highest digit set
unfoldable pub pattern_of : Float → ℕ
pattern_of x = cond (eq x x) (to_bits binary32 x) 2143289344
