-- Numbers as bytes, the least significant first. Definitions only.
use Rattle.std.specs.Prelude.{ℕ, zero, suc, ◌+◌, ◌*◌, ◌/◌, ◌%◌, List, [], ◌∷◌, slice_index}

-- the number of the w bytes at a place; a byte that is not there counts as 0
unfoldable pub little_at : List ℕ → ℕ → ℕ → ℕ
little_at bytes at zero = 0
little_at bytes at (suc w) = slice_index bytes at + 256 * little_at bytes (at + 1) w

-- the first w bytes of a number
unfoldable pub little : ℕ → ℕ → List ℕ
little zero n = []
little (suc w) n = n % 256 ∷ little w (n / 256)
