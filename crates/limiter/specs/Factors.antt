-- Document 01's limiter, over lists: a factor for each sample, and what it does to the sample. Definitions only.
use Rattle.std.specs.Prelude.{cond, List, [], ◌∷◌, ◌++◌, ℕ, zero, suc, ◌+◌, pos, Float}
use Rattle.std.specs.Float.{binary32}
use Rattle.std.specs.Float.Ieee.{of_bits, of_int, add, sub, mul, div, lt}
use Rattle.floats.specs.Choice.{clamp}

-- a whole number as f32
abbrev pub whole : ℕ → Float
whole n = of_int binary32 (pos n)

-- "Sample j of a sub-frame of s samples has start + ((end-start)/s)*j.": k samples from j on, with the step for (end-start)/s
unfoldable pub line : Float → Float → ℕ → ℕ → List Float
line start step j zero = []
line start step j (suc k) = add binary32 start (mul binary32 step (whole j)) ∷ line start step (j + 1) k

unfoldable pub straight : ℕ → Float → Float → List Float
unfolding line
straight s start end = line start (div binary32 (sub binary32 end start) (whole s)) 0 s

-- "The power is three squarings, rounded each time."
unfoldable pub eighth : Float → Float
eighth x = let x2 = mul binary32 x x in let x4 = mul binary32 x2 x2 in mul binary32 x4 x4

-- "the eighth power of 1-t, t = j/s, times the difference, plus the new one": k samples from j on
unfoldable pub curved : ℕ → Float → Float → ℕ → ℕ → List Float
unfolding eighth
curved s start end j zero = []
curved s start end j (suc k) =
    add binary32 (mul binary32 (eighth (sub binary32 (of_bits binary32 0x3f80_0000) (div binary32 (whole j) (whole s)))) (sub binary32 start end)) end
    ∷ curved s start end (j + 1) k

-- "If the carried factor is above the first new one, the first sub-frame uses the eighth power"
unfoldable pub first_part : ℕ → Float → Float → List Float
unfolding straight curved
first_part s start end = cond (lt end start) (curved s start end 0 s) (straight s start end)

-- the sub-frames after the first: each from the factor before it to its own
unfoldable pub later_parts : ℕ → Float → List Float → List Float
unfolding straight
later_parts s start [] = []
later_parts s start (end ∷ ends) = straight s start end ++ later_parts s end ends

-- a factor for each sample of a channel, from the carried one and the gains of the sub-frames
unfoldable pub factors : ℕ → Float → List Float → List Float
unfolding first_part later_parts
factors s carried [] = []
factors s carried (gain ∷ gains) = first_part s carried gain ++ later_parts s gain gains

-- "multiply; clamp": each sample by its factor, between -32768 and 32767
unfoldable pub limited : List Float → List Float → List Float
limited fs [] = []
limited [] (x ∷ xs) = x ∷ xs
limited (f ∷ fs) (x ∷ xs) = clamp (mul binary32 x f) (of_bits binary32 0xc700_0000) (of_bits binary32 0x46ff_fe00) ∷ limited fs xs
