-- What the private steps of the code ask and answer: a ring whose capacity, place and size lie in their ranges, and as many slots round a ring of any size n.
-- Definitions only.
use Rattle.std.specs.Prelude.{List, ◌++◌, ℕ, ◌<◌, ◌≤◌, take, drop, Float}
use Rattle.saturation_protector_buffer.specs.Rings.{slots}
use Rattle.saturation_protector_buffer.specs.Ring.{largest}
use Rattle.saturation_protector_buffer.specs.declared.Ring.{Ring}

-- what a step needs so that it stays inside the ring, and the ring inside its storage
pub record Within (r : Ring) : Type 0 where
  pub place : r.place < r.capacity
  pub size : r.size ≤ r.capacity
  pub capacity : r.capacity ≤ largest

-- as many of the stored numbers as asked for, counted round a ring of n from a place
unfoldable pub round : ℕ → List Float → ℕ → ℕ → List Float
round n stored from size = take size (drop from (slots n stored) ++ take from (slots n stored))
