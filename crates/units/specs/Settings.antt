-- Document 01's settings: their ranges, in which a negative zero is refused.
-- Definitions only.
use Rattle.std.specs.Prelude.{Bool, ◌&&◌, not, ℕ, leb, Float}
use Rattle.std.specs.Float.{binary32}
use Rattle.std.specs.Float.Ieee.{of_bits}
use Rattle.floats.specs.Kinds.{is_negative_zero}
use Rattle.units.specs.Ranges.{closed, above}
use Rattle.units.specs.declared.settings.Settings.{Settings}

-- "a run threshold of up to 3,000 frames": the largest number of adjacent speech frames that can be asked for
abbrev pub largest_threshold : ℕ
largest_threshold = 3000

-- a threshold lies from 1 to the largest
abbrev pub threshold : ℕ → Bool
threshold frames = leb 1 frames && leb frames largest_threshold

-- from low to high, and no negative zero
abbrev pub setting : Float → Float → Float → Bool
setting low x high = closed low x high && not (is_negative_zero x)

-- "headroom 0 to 50; largest gain above 0, to 50; initial gain 0 to 50; change per second 0.01 to 100; largest output noise -90 to 0"
unfoldable pub accepted : Settings → Bool
accepted s =
    setting (of_bits binary32 0x0000_0000) s.headroom.0 (of_bits binary32 0x4248_0000)
    && above (of_bits binary32 0x0000_0000) s.largest.0 (of_bits binary32 0x4248_0000)
    && setting (of_bits binary32 0x0000_0000) s.initial.0 (of_bits binary32 0x4248_0000)
    && setting (of_bits binary32 0x3c23_d70a) s.change (of_bits binary32 0x42c8_0000)
    && setting (of_bits binary32 0xc2b4_0000) s.noise.0 (of_bits binary32 0x0000_0000)

-- the Rust's defaults: headroom 5, largest gain 50, initial gain 15, change 6 dB a second, noise -50 dBFS
unfoldable pub usual : Settings
usual =
    record {
      headroom = record { 0 = of_bits binary32 0x40a0_0000 };
      largest = record { 0 = of_bits binary32 0x4248_0000 };
      initial = record { 0 = of_bits binary32 0x4170_0000 };
      change = of_bits binary32 0x40c0_0000;
      noise = record { 0 = of_bits binary32 0xc248_0000 };
    }

-- "a refused new call: all fields 0"
unfoldable pub unset : Settings
unset =
    record {
      headroom = record { 0 = of_bits binary32 0x0000_0000 };
      largest = record { 0 = of_bits binary32 0x0000_0000 };
      initial = record { 0 = of_bits binary32 0x0000_0000 };
      change = of_bits binary32 0x0000_0000;
      noise = record { 0 = of_bits binary32 0x0000_0000 };
    }
