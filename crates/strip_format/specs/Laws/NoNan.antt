-- What lies in a range is no NaN, so neither is a setting nor a figure that is accepted; and what is no NaN keeps its bits. Laws.
-- Assumes nothing.
use Rattle.std.specs.Prelude.{◌≡◌, List, [], ◌∷◌, Bool, true, not, ℕ, ◌+◌, ◌≤◌, T, Float, length}
use Rattle.std.proofs.Common.{subst}
use Rattle.std.specs.Float.{nan, inf, fin, binary32}
use Rattle.std.specs.Float.Ieee.{lt, le, eq, is_nan, of_bits}
use Rattle.lists.specs.Tests.{each_of}
use Rattle.bits.specs.Floats.{float_of, pattern_of}
use Rattle.bits.specs.Laws.RoundTrip.{float_nan, pattern_back}
use Rattle.floats.specs.Laws.Kinds.{passed}
use Rattle.units.specs.Ranges.{closed, inside, above}
use Rattle.units.specs.Settings as Settings
use Rattle.units.specs.Figures as Figure
use Rattle.units.specs.declared.settings.Settings.{Settings}
use Rattle.units.specs.declared.figures.Figures.{Figures}
use Rattle.strip_format.specs.Fields.{number_at}
use Rattle.strip_format.specs.Laws.Fields.{Bytes, number_small}

-- a float that is no NaN
abbrev pub Number : Float → Type 0
Number x = T (not (is_nan x))

lt_number : (x y : Float) → T (lt x y) → Number x
unfolding lt is_nan
lt_number nan y h = absurd h
lt_number (inf s) y h = tt
lt_number (fin s m e) y h = tt

le_number : (x y : Float) → T (le x y) → Number x
unfolding le lt eq is_nan
le_number nan y h = absurd h
le_number (inf s) y h = tt
le_number (fin s m e) y h = tt

closed_number : (low x high : Float) → closed low x high ≡ true → Number x
closed_number low x high h = le_number x high (passed (each_of (le low x ∷ le x high ∷ []) h 1))

inside_number : (low x high : Float) → inside low x high ≡ true → Number x
inside_number low x high h = lt_number x high (passed (each_of (lt low x ∷ lt x high ∷ []) h 1))

above_number : (low x high : Float) → above low x high ≡ true → Number x
above_number low x high h = le_number x high (passed (each_of (lt low x ∷ le x high ∷ []) h 1))

setting_number : (low x high : Float) → Settings.setting low x high ≡ true → Number x
setting_number low x high h = closed_number low x high (each_of (_ ∷ _ ∷ []) h 0)

-- the five settings are no NaNs
pub record PlainSettings (s : Settings) : Type 0 where
  pub headroom : Number s.headroom.0
  pub largest : Number s.largest.0
  pub initial : Number s.initial.0
  pub change : Number s.change
  pub noise : Number s.noise.0

-- Settings that are accepted are no NaNs.
pub plain_settings : (s : Settings) → Settings.accepted s ≡ true → PlainSettings s
unfolding Settings.accepted
plain_settings s h =
    let p = each_of (_ ∷ _ ∷ _ ∷ _ ∷ _ ∷ []) h in
    record {
      headroom = setting_number (of_bits binary32 0x0000_0000) s.headroom.0 (of_bits binary32 0x4248_0000) (p 0);
      largest = above_number (of_bits binary32 0x0000_0000) s.largest.0 (of_bits binary32 0x4248_0000) (p 1);
      initial = setting_number (of_bits binary32 0x0000_0000) s.initial.0 (of_bits binary32 0x4248_0000) (p 2);
      change = setting_number (of_bits binary32 0x3c23_d70a) s.change (of_bits binary32 0x42c8_0000) (p 3);
      noise = setting_number (of_bits binary32 0xc2b4_0000) s.noise.0 (of_bits binary32 0x0000_0000) (p 4);
    }

-- the five figures are no NaNs
pub record PlainFigures (f : Figures) : Type 0 where
  pub probability : Number f.probability
  pub rms : Number f.rms.0
  pub peak : Number f.peak.0
  pub noise : Number f.noise.0
  pub envelope : Number f.envelope.0

-- Figures that are accepted are no NaNs.
pub plain_figures : (f : Figures) → Figure.accepted f ≡ true → PlainFigures f
unfolding Figure.accepted
plain_figures f h =
    let p = each_of (_ ∷ _ ∷ _ ∷ _ ∷ _ ∷ []) h in
    record {
      probability = closed_number (of_bits binary32 0x0000_0000) f.probability (of_bits binary32 0x3f80_0000) (p 0);
      rms = inside_number (of_bits binary32 0xc316_0000) f.rms.0 (of_bits binary32 0x4248_0000) (p 1);
      peak = closed_number (of_bits binary32 0xc316_0000) f.peak.0 (of_bits binary32 0x4248_0000) (p 2);
      noise = closed_number (of_bits binary32 0xc316_0000) f.noise.0 (of_bits binary32 0x4248_0000) (p 3);
      envelope = closed_number (of_bits binary32 0xc316_0000) f.envelope.0 (of_bits binary32 0x42c8_0000) (p 4);
    }

-- The bits of a float that was read, and is no NaN, are those that stood there.
pub same_bits : (strip : List ℕ) (at : ℕ) → Bytes strip → at + 4 ≤ length strip → Number (float_of (number_at strip at 4))
    → pattern_of (float_of (number_at strip at 4)) ≡ number_at strip at 4
same_bits strip at b l n =
    pattern_back (number_at strip at 4) (number_small strip at 4 b l)
    (subst (λ (t : Bool). T (not t)) (float_nan (number_at strip at 4)) n)
