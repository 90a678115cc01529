-- Each finite f32 as a whole number of units of 2 ^ -149, the smallest f32 above zero: P x - N x units, of which one is always 0.
-- So an order of floats is an order of sums, and no proof goes by signs. Definitions only.
use Rattle.std.specs.Prelude.{◌≡◌, cond, ℕ, ◌+◌, ◌-◌, ◌*◌, ◌/◌, ◌^◌, ◌≤◌, ◌<◌, T, Float}
use Rattle.std.specs.Float.{nan, inf, fin, binary32}
use Rattle.std.specs.Float.Ieee.{up, down, fits}
use Rattle.std.specs.Float.Ieee.Order.{drop, kept}
use Rattle.std.specs.Float.Ieee.Scale.{finite}

-- how many units 1 is
unfoldable pub U : ℕ
U = 2 ^ 149

-- how many units are too many: from 2 ^ 128 on a result is infinite
unfoldable pub limit : ℕ
limit = 2 ^ 277

-- how many units a number is from zero
unfoldable pub size : Float → ℕ
unfolding U
size nan = 0
size (inf s) = 0
size (fin s m e) = m * up e * U / down e

-- the units above zero
unfoldable pub P : Float → ℕ
unfolding size
P nan = 0
P (inf s) = 0
P (fin s m e) = cond s 0 (size (fin s m e))

-- the units below zero
unfoldable pub N : Float → ℕ
unfolding size
N nan = 0
N (inf s) = 0
N (fin s m e) = cond s (size (fin s m e)) 0

-- x is an f32 that is a number
pub record Number (x : Float) : Type 0 where
  pub real : T (finite x)
  pub held : T (fits binary32 x)

-- x is a number of that many units above zero and below it
pub record Value (x : Float) (p n : ℕ) : Type 0 where
  pub number : Number x
  pub plus : P x ≡ p
  pub minus : N x ≡ n

-- x is a number from lo to hi
pub record In (lo hi x : Float) : Type 0 where
  pub number : Number x
  pub above : P lo + N x ≤ P x + N lo
  pub below : P x + N hi ≤ P hi + N x

-- a / c units, rounded to the 24 digits that an f32 keeps, in units
unfoldable pub rnd : ℕ → ℕ → ℕ
rnd a c = kept 24 a c * 2 ^ drop 24 a c

-- r is the rounding of (p - n) / v units, whatever its sign: where that is below the limit, and it is where r is a number
pub record Rounding (r : Float) (p n v : ℕ) : Type 0 where
  pub value : rnd (p - n) v < limit → rnd (n - p) v < limit → Value r (rnd (p - n) v) (rnd (n - p) v)
  pub under : T (finite r) → (rnd (p - n) v < limit) × (rnd (n - p) v < limit)
