-- Limiting goes in blocks: some samples by their factors, and then the rest by theirs. Assumes nothing.
use Rattle.std.specs.Prelude.{◌≡◌, refl, List, [], ◌∷◌, Float}
use Rattle.std.specs.Float.{binary32}
use Rattle.std.specs.Float.Ieee.{mul, of_bits}
use Rattle.floats.specs.Choice.{clamp}
use Rattle.frames.specs.Blocks.{Splits, beside_splits}
use Rattle.limiter.specs.Factors.{limited}

pub limited_split : Splits limited
unfolding limited
limited_split =
    beside_splits limited (λ (f x : Float). clamp (mul binary32 x f) (of_bits binary32 0xc700_0000) (of_bits binary32 0x46ff_fe00)) none bare (λ (f : Float) (fs : List Float) (x : Float) (xs : List Float). refl)
  where
    none : (fs : List Float) → limited fs [] ≡ []
    none [] = refl
    none (f ∷ fs) = refl

    bare : (xs : List Float) → limited [] xs ≡ xs
    bare [] = refl
    bare (x ∷ xs) = refl
