-- Document 01's bounds of a sample. Definitions only.
use Rattle.std.specs.Prelude.{Bool, true, ◌&&◌, List, [], ◌∷◌, Float}
use Rattle.std.specs.Float.{binary32}
use Rattle.std.specs.Float.Ieee.{of_bits, le}
use Rattle.floats.specs.Kinds.{magnitude}

-- "Samples into controller or applier: magnitude to 65536."
abbrev pub largest_input : Float
largest_input = of_bits binary32 0x4780_0000

-- "Into level estimator or limiter: to 33554432"
abbrev pub largest_level : Float
largest_level = of_bits binary32 0x4c00_0000

-- no NaN, no infinity and not too large: of a NaN the comparison is false
unfoldable pub within : Float → Float → Bool
within bound x = le (magnitude x) bound

-- each sample is
unfoldable pub all_within : Float → List Float → Bool
unfolding within
all_within bound [] = true
all_within bound (x ∷ xs) = within bound x && all_within bound xs
