-- The words of the laws on the range of the gains and the samples. Definitions only.
use Rattle.std.specs.Prelude.{◌≡◌, ℕ, ◌+◌, ◌≤◌, not, T, List, from_bits, is_nan, slice_index_or, Float}
use Rattle.std.specs.Float.{nan, binary32}
use Rattle.std.specs.Float.Ieee.{fits}
use Rattle.rounding.specs.Units.{P, N, Number, In}

-- a number that is not below zero, of at most m units
pub record UpTo (m : ℕ) (x : Float) : Type 0 where
  pub number : Number x
  pub none_below : N x ≡ 0
  pub most : P x ≤ m

-- a number of magnitude at most m units
pub record Sized (m : ℕ) (x : Float) : Type 0 where
  pub number : Number x
  pub small : P x + N x ≤ m

-- an f32 that is no NaN
abbrev pub Plain : Float → Type 0
Plain x = T (fits binary32 x) × T (not (is_nan x))

-- a number from -32768 to 32767
abbrev pub Sixteen : Float → Type 0
Sixteen x = In (from_bits binary32 0xc700_0000) (from_bits binary32 0x46ff_fe00) x

-- each element of a list is an f32: what the borrow checker knows of a slice
abbrev pub Held : List Float → Type 0
Held xs = (i : ℕ) → T (fits binary32 (slice_index_or xs i nan))
