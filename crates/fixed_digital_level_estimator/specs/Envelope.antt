-- Document 01's envelope, over lists: the peaks, the raising and the smoothing. Definitions only.
use Rattle.std.specs.Prelude.{cond, List, [], ◌∷◌, map, ℕ, zero, suc, take, drop, replicate, Float}
use Rattle.std.specs.Float.{binary32}
use Rattle.std.specs.Float.Ieee.{of_bits, add, mul, lt}
use Rattle.floats.specs.Choice.{larger}
use Rattle.floats.specs.Kinds.{magnitude}
use Rattle.units.specs.declared.kinds.LinearS16.{LinearS16}

-- before any sample: twenty times 0
abbrev pub silence : List Float
silence = replicate 20 (of_bits binary32 0x0000_0000)

-- the largest magnitude, from what was found before
unfoldable pub peak_from : Float → List Float → Float
peak_from found [] = found
peak_from found (x ∷ xs) = peak_from (larger found (magnitude x)) xs

-- in a channel: a value for each sub-frame of s samples
unfoldable pub peaks_in : ℕ → List Float → List Float → List Float
unfolding peak_from
peaks_in s [] xs = []
peaks_in s (found ∷ more) xs = peak_from found (take s xs) ∷ peaks_in s more (drop s xs)

-- "Largest magnitude per sub-frame over all channels": c channels of n samples, one after the other
unfoldable pub peaks_over : ℕ → ℕ → ℕ → List Float → List Float → List Float
unfolding peaks_in
peaks_over zero n s found xs = found
peaks_over (suc c) n s found xs = peaks_over c n s (peaks_in s found (take n xs)) (drop n xs)

-- "then each of the first 19 is raised to its right neighbour's unraised value where that is larger"
unfoldable pub raised : List Float → List Float
raised [] = []
raised (x ∷ []) = x ∷ []
raised (x ∷ y ∷ xs) = larger x y ∷ raised (y ∷ xs)

-- "then smoothing: the new value if above the state, else value*(1-0.9971259)+state*0.9971259"
unfoldable pub decayed : Float → Float → Float
decayed state value = cond (lt state value) value (add binary32 (mul binary32 value (of_bits binary32 0x3b3c_5b00)) (mul binary32 state (of_bits binary32 0x3f7f_43a5)))

unfoldable pub smoothed : Float → List Float → List Float
unfolding decayed
smoothed state [] = []
smoothed state (value ∷ values) = decayed state value ∷ smoothed (decayed state value) values

-- ---- the kind
-- "a linear S16 level .. keep[s] a kind of [its] own": levels as they are handed out, each of that kind
unfoldable pub linear : List Float → List LinearS16
linear = map (λ (x : Float). record { 0 = x })

-- the numbers of such levels
unfoldable pub plain : List LinearS16 → List Float
plain = map (λ (x : LinearS16). x.0)
