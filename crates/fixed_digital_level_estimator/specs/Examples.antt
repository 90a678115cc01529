-- One loud sample, worked out: its magnitude reaches its own sub-frame and the one to the left of it, and no other.
-- Assumes nothing.
use Rattle.std.specs.Prelude.{◌≡◌, refl, List, Float, replicate, set}
use Rattle.std.specs.Float.{binary32}
use Rattle.std.specs.Float.Ieee.{of_bits, lt}
use Rattle.floats.specs.Choice.{larger}
use Rattle.floats.specs.Kinds.{magnitude}
use Rattle.fixed_digital_level_estimator.specs.Envelope.{silence, peak_from, peaks_in, peaks_over, raised}

-- two channels of 40 samples, all 0 but -1000 at the second sample of the sixth sub-frame of the second
abbrev pub quiet : List Float
quiet = set (replicate 80 (of_bits binary32 0x0000_0000)) 51 (of_bits binary32 0xc47a_0000)

-- 1000 in the sixth sub-frame
pub one_peak : peaks_over 2 40 2 silence quiet ≡ set silence 5 (of_bits binary32 0x447a_0000)
unfolding peaks_over peaks_in peak_from larger magnitude lt of_bits
one_peak = refl

-- and raised: in the fifth too, and nowhere else
pub one_step_left : raised (peaks_over 2 40 2 silence quiet) ≡ set (set silence 5 (of_bits binary32 0x447a_0000)) 4 (of_bits binary32 0x447a_0000)
unfolding peaks_over peaks_in peak_from raised larger magnitude lt of_bits
one_step_left = refl
