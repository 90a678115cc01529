-- Fields of bytes, the most significant byte first: the bytes of numbers, and the numbers of bytes, by one description. Definitions only.
use Rattle.std.specs.Prelude.{List, [], ◌∷◌, ◌++◌, ℕ, zero, suc, ◌+◌, ◌*◌, ◌/◌, ◌%◌, get_or}

-- "Big-endian": the last w bytes of n, the most significant first
unfoldable pub big_endian : ℕ → ℕ → List ℕ
big_endian zero n = []
big_endian (suc w) n = big_endian w (n / 256) ++ (n % 256 ∷ [])

-- the number of the w bytes at a place
unfoldable pub number_at : List ℕ → ℕ → ℕ → ℕ
number_at bytes at zero = 0
number_at bytes at (suc w) = number_at bytes at w * 256 + get_or bytes (at + w) 0

-- A description says of each field how many bytes it has: how many they are together,
abbrev pub size : List ℕ → ℕ
size [] = 0
size (w ∷ ws) = w + size ws

-- the bytes of numbers, one for each field,
unfoldable pub written : List ℕ → List ℕ → List ℕ
unfolding big_endian
written [] ns = []
written (w ∷ ws) [] = []
written (w ∷ ws) (n ∷ ns) = big_endian w n ++ written ws ns

-- and the numbers of the fields that stand from a place on.
unfoldable pub fields_at : List ℕ → List ℕ → ℕ → List ℕ
unfolding number_at
fields_at [] bytes at = []
fields_at (w ∷ ws) bytes at = number_at bytes at w ∷ fields_at ws bytes (at + w)
