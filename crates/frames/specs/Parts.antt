-- "A frame is one lent f32 buffer, channel after channel": what is done to each channel's part, in order. Definitions only.
use Rattle.std.specs.Prelude.{List, ◌++◌, ℕ, zero, suc, take, drop}

-- f done to each of the first k parts of n elements; what is left over stays
unfoldable pub each_part : {A : Type 0} → (List A → List A) → ℕ → ℕ → List A → List A
each_part f zero n xs = xs
each_part f (suc k) n xs = f (take n xs) ++ each_part f k n (drop n xs)
