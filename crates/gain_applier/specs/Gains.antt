-- How the code does the ramp: its gains are the same for every channel, so they are written down once, and each sample is multiplied by its own.
-- Definitions, the law that this is the ramp, and that more gains follow some. Assumes nothing.
use Rattle.std.specs.Prelude.{◌≡◌, ℕ, zero, suc, ◌+◌, List, [], ◌∷◌, ◌++◌, length, refl, Float}
use Rattle.std.proofs.Common.{ap, zero-add, suc-add}
use Rattle.std.specs.Float.{binary32}
use Rattle.std.specs.Float.Ieee.{add, mul}
use Rattle.gain_applier.specs.Sound.{ramped}

-- so many gains, each one step after the one before
unfoldable pub gains_from : ℕ → Float → Float → List Float
gains_from zero gain step = []
gains_from (suc n) gain step = gain ∷ gains_from n (add binary32 gain step) step

-- the gain after so many steps
unfoldable pub gain_after : ℕ → Float → Float → Float
gain_after zero gain step = gain
gain_after (suc n) gain step = gain_after n (add binary32 gain step) step

-- each sample by its gain
unfoldable pub multiplied : List Float → List Float → List Float
multiplied gains [] = []
multiplied [] (x ∷ xs) = x ∷ xs
multiplied (gain ∷ gains) (x ∷ xs) = mul binary32 x gain ∷ multiplied gains xs

-- Samples multiplied by as many gains are ramped.
pub by_gains : (gain step : Float) (part : List Float) → multiplied (gains_from (length part) gain step) part ≡ ramped gain step part
unfolding gains_from multiplied ramped
by_gains gain step [] = refl
by_gains gain step (x ∷ xs) = ap (λ (r : List Float). mul binary32 x gain ∷ r) (by_gains (add binary32 gain step) step xs)

-- So many gains and then more are as many as both.
pub gains_split : (n m : ℕ) (gain step : Float) → gains_from n gain step ++ gains_from m (gain_after n gain step) step ≡ gains_from (n + m) gain step
unfolding gains_from gain_after
gains_split zero m gain step = rw zero-add refl
gains_split (suc n) m gain step = rw suc-add (ap (λ (r : List Float). gain ∷ r) (gains_split n m (add binary32 gain step) step))
