-- What the applier does to each sample, and in blocks. Assumes nothing.
use Rattle.std.specs.Prelude.{◌≡◌, List, [], ◌∷◌, from_bits, refl, Float}
use Rattle.std.proofs.Common.{ap₂}
use Rattle.std.specs.List.{AllZip}
use Rattle.std.specs.Float.{binary32}
use Rattle.std.specs.Float.Ieee.{mul}
use Rattle.floats.specs.Choice.{clamp}
use Rattle.frames.specs.Blocks.{Splits, beside_splits, alone, each_splits}
use Rattle.gain_applier.specs.Sound.{scaled, clipped}
use Rattle.gain_applier.specs.Gains.{multiplied}

-- Samples that are each multiplied by the gain are scaled. R is what is known of a sample before and after.
pub scaled_each : (R : Float → Float → Type 0) (gain : Float) → ((x y : Float) → R x y → y ≡ mul binary32 x gain) → (xs ys : List Float) → AllZip R xs ys → ys ≡ scaled gain xs
unfolding scaled
scaled_each R gain is [] [] h = refl
scaled_each R gain is [] (y ∷ ys) h = absurd h
scaled_each R gain is (x ∷ xs) [] h = absurd h
scaled_each R gain is (x ∷ xs) (y ∷ ys) h = ap₂ ◌∷◌ (is x y h.0) (scaled_each R gain is xs ys h.1)

-- And samples that are each clamped are clipped.
pub clipped_each : (R : Float → Float → Type 0) → ((x y : Float) → R x y → y ≡ clamp x (from_bits binary32 0xc700_0000) (from_bits binary32 0x46ff_fe00))
    → (xs ys : List Float) → AllZip R xs ys → ys ≡ clipped xs
unfolding clipped
clipped_each R is [] [] h = refl
clipped_each R is [] (y ∷ ys) h = absurd h
clipped_each R is (x ∷ xs) [] h = absurd h
clipped_each R is (x ∷ xs) (y ∷ ys) h = ap₂ ◌∷◌ (is x y h.0) (clipped_each R is xs ys h.1)

-- What is done to each sample by itself, or by the gain beside it: done to some, and then to the rest, it is done to all.
pub scaled_split : (gain : Float) → Splits (alone (scaled gain))
unfolding scaled
scaled_split gain = each_splits (scaled gain) (λ (x : Float). mul binary32 x gain) refl (λ (x : Float) (xs : List Float). refl)

pub clipped_split : Splits (alone clipped)
unfolding clipped
clipped_split =
    each_splits clipped (λ (x : Float). clamp x (from_bits binary32 0xc700_0000) (from_bits binary32 0x46ff_fe00)) refl (λ (x : Float) (xs : List Float). refl)

pub multiplied_split : Splits multiplied
unfolding multiplied
multiplied_split = beside_splits multiplied (λ (gain x : Float). mul binary32 x gain) none bare (λ (gain : Float) (gains : List Float) (x : Float) (xs : List Float). refl)
  where
    none : (gains : List Float) → multiplied gains [] ≡ []
    none [] = refl
    none (gain ∷ gains) = refl

    bare : (xs : List Float) → multiplied [] xs ≡ xs
    bare [] = refl
    bare (x ∷ xs) = refl
