-- "the f32 nearest to 10^(n/20) and 10^(k/320), shown by whole-number powers". Definitions only.
use Rattle.std.specs.Prelude.{ℕ, ◌+◌, ◌*◌, ◌^◌, ◌≤◌, T, Float}
use Rattle.std.specs.Float.Ieee.{lt}
use Rattle.rounding.specs.Units.{U, P, Number}

-- No f32 is nearer to 10 ^ (n / d) than a. For a y below a the middle of the two, (P y + P a) / 2 units, is not above the power;
-- for a y above a it is not below it. Both sides are raised to the d-th power.
pub record Nearest (d n : ℕ) (a : Float) : Type 0 where
  pub number : Number a
  pub below : (y : Float) → Number y → T (lt y a) → (P y + P a) ^ d ≤ 10 ^ n * (2 * U) ^ d
  pub above : (y : Float) → Number y → T (lt a y) → 10 ^ n * (2 * U) ^ d ≤ (P y + P a) ^ d
