-- What a loop of additions makes. Definitions only.
use Rattle.std.specs.Prelude.{ℕ, zero, suc, ◌≤◌, Float}
use Rattle.std.specs.Float.{binary32}
use Rattle.std.specs.Float.Ieee.{add}
use Rattle.rounding.specs.Units.{P, N, Number}

-- d added k times to g, each sum rounded
unfoldable pub added : ℕ → Float → Float → Float
added zero g d = g
added (suc k) g d = added k (add binary32 g d) d

-- x is a number at most b units from zero
pub record Within (b : ℕ) (x : Float) : Type 0 where
  pub number : Number x
  pub plus : P x ≤ b
  pub minus : N x ≤ b
