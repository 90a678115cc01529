-- A ring over any size n: the first n numbers of a storage that may be longer, the place where the next one goes, and how many there are.
-- Definitions only.
use Rattle.std.specs.Prelude.{Bool, true, false, ◌&&◌, cond, List, [], ◌∷◌, ◌++◌, ℕ, ◌+◌, ◌-◌, ltb, eqb, length, take, drop, Float}
use Rattle.std.specs.Float.Ieee.{eq}
use Rattle.std.specs.Float.Ieee.Scale.{finite}

-- the slots of a ring of n: the first n of its storage
abbrev pub slots : ℕ → List Float → List Float
slots n stored = take n stored

-- each is a number
unfoldable pub all_finite : List Float → Bool
all_finite [] = true
all_finite (x ∷ xs) = finite x && all_finite xs

-- the place after this one, round the ring
unfoldable pub after : ℕ → ℕ → ℕ
after n place = cond (eqb (place + 1) n) 0 (place + 1)

-- one more, up to n
unfoldable pub more : ℕ → ℕ → ℕ
more n size = cond (ltb size n) (size + 1) size

-- where the oldest stands: at the place of the next one where the ring is full, and otherwise at the start
unfoldable pub start : ℕ → ℕ → ℕ → ℕ
start n place size = cond (eqb size n) place 0

-- "the items, oldest first": as many as there are, round the slots from the oldest
unfoldable pub items : ℕ → List Float → ℕ → ℕ → List Float
unfolding start
items n stored place size = take size (drop (start n place size) (slots n stored) ++ take (start n place size) (slots n stored))

-- equal as floats, one by one
unfoldable pub same_items : List Float → List Float → Bool
same_items [] [] = true
same_items [] (y ∷ ys) = false
same_items (x ∷ xs) [] = false
same_items (x ∷ xs) (y ∷ ys) = eq x y && same_items xs ys

-- the last n of a list, or all of a shorter one
unfoldable pub last_of : {A : Type 0} → ℕ → List A → List A
last_of n xs = drop (length xs - n) xs
