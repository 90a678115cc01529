-- Document 01's worked examples of the ratio: 0 gives 1, 20 gives 10, 40 gives 100; 51 is accepted, and -1 is refused with 2.
use Rattle.std.specs.Prelude.{◌≡◌, refl}
use Rattle.std.specs.Float.{binary32}
use Rattle.std.specs.Float.Ieee.{of_bits, of_int, le, lt, eq, add, sub, mul, size as bits}
use Rattle.units.specs.Replies.{done, bad_figure}
use Rattle.decibels.specs.Ratio.{A, B, steps, rest, ratio_of, answer, whole_bits, sixteenth_bits}

pub ratio_of_0 : answer (of_bits binary32 0x0000_0000) ≡ record { reply = done; ratio = of_bits binary32 0x3f80_0000 }
unfolding answer ratio_of A B whole_bits sixteenth_bits steps rest add sub mul of_int of_bits le lt eq bits
ratio_of_0 = refl

pub ratio_of_20 : answer (of_bits binary32 0x41a0_0000) ≡ record { reply = done; ratio = of_bits binary32 0x4120_0000 }
unfolding answer ratio_of A B whole_bits sixteenth_bits steps rest add sub mul of_int of_bits le lt eq bits
ratio_of_20 = refl

pub ratio_of_40 : answer (of_bits binary32 0x4220_0000) ≡ record { reply = done; ratio = of_bits binary32 0x42c8_0000 }
unfolding answer ratio_of A B whole_bits sixteenth_bits steps rest add sub mul of_int of_bits le lt eq bits
ratio_of_40 = refl

pub accepts_51 : (answer (of_bits binary32 0x424c_0000)).reply ≡ done
unfolding answer of_bits le lt eq
accepts_51 = refl

pub refuses_minus_1 : answer (of_bits binary32 0xbf80_0000) ≡ record { reply = bad_figure; ratio = of_bits binary32 0x0000_0000 }
unfolding answer of_bits le lt eq
refuses_minus_1 = refl
