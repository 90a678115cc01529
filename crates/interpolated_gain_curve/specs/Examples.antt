-- Document 01's worked examples of the curve, each a look-up on a new curve, and what happens at the ends of the figures.
use Rattle.std.specs.Prelude.{◌≡◌, ℕ, ◌-◌, ◌^◌, true, pos, refl, Float}
use Rattle.std.specs.Float.{binary32}
use Rattle.std.specs.Float.Ieee.{of_bits, le, lt, eq, div, size as bits}
use Rattle.units.specs.Replies.{done, bad_figure, refusal}
use Rattle.interpolated_gain_curve.specs.Gain.{knot_bits, knots, identity, knee, limiter, saturation, region_of, last_below, piece_of, on_piece, gain_of}
use Rattle.interpolated_gain_curve.specs.Curve.{Looked, fresh, passes, not_negative, counted, lasting, longer, in_region, looked}

-- what a look-up answers that is done: the gain, and the region that the level is counted in
pub record Answers (r : Looked) (g : Float) (n : ℕ) : Type 0 where
  pub accepted : r.reply ≡ done
  pub gain : r.gain ≡ g
  pub region : r.curve.region ≡ n

-- "Curve 0: gain 1, identity."
pub curve_at_0 : Answers (looked fresh (of_bits binary32 0x0000_0000)) (of_bits binary32 0x3f80_0000) identity
unfolding looked refusal fresh passes not_negative in_region region_of gain_of le lt eq of_bits
curve_at_0 = record { accepted = refl; gain = refl; region = refl }

-- "30057.297: gain 1, knee."
pub curve_at_first_knot : Answers (looked fresh (of_bits binary32 0x46ea_d298)) (of_bits binary32 0x3f80_0000) knee
unfolding looked refusal fresh passes not_negative in_region region_of gain_of le lt eq of_bits
curve_at_first_knot = record { accepted = refl; gain = refl; region = refl }

-- "33724.844: piece 20, limiter."
pub curve_at_knot_21 : Answers (looked fresh (of_bits binary32 0x4703_bcd8)) (on_piece 20 (of_bits binary32 0x4703_bcd8)) limiter
unfolding looked refusal fresh passes not_negative in_region region_of gain_of piece_of last_below knots knot_bits le lt eq of_bits
curve_at_knot_21 = record { accepted = refl; gain = refl; region = refl }

-- That knot, 21, is still on the piece before it.
pub piece_at_knot_21 : piece_of (of_bits binary32 0x4703_bcd8) ≡ 20
unfolding piece_of last_below knots knot_bits lt of_bits
piece_at_knot_21 = refl

-- "36575.03: piece 30."
pub curve_at_last_knot : Answers (looked fresh (of_bits binary32 0x470e_df08)) (on_piece 30 (of_bits binary32 0x470e_df08)) limiter
unfolding looked refusal fresh passes not_negative in_region region_of gain_of piece_of last_below knots knot_bits le lt eq of_bits
curve_at_last_knot = record { accepted = refl; gain = refl; region = refl }

-- And so is the last knot, 31.
pub piece_at_last_knot : piece_of (of_bits binary32 0x470e_df08) ≡ 30
unfolding piece_of last_below knots knot_bits lt of_bits
piece_at_last_knot = refl

-- "65536: gain 0.5, saturation."
pub curve_at_65536 : Answers (looked fresh (of_bits binary32 0x4780_0000)) (of_bits binary32 0x3f00_0000) saturation
unfolding looked refusal fresh passes not_negative in_region region_of gain_of div le lt eq of_bits bits
curve_at_65536 = record { accepted = refl; gain = refl; region = refl }

-- ---- at the ends
-- "curve level: 0 to 33554432"
pub curve_at_33554432 : Answers (looked fresh (of_bits binary32 0x4c00_0000)) (of_bits binary32 0x3a80_0000) saturation
unfolding looked refusal fresh passes not_negative in_region region_of gain_of div le lt eq of_bits bits
curve_at_33554432 = record { accepted = refl; gain = refl; region = refl }

-- A level below 0 is refused with 2; nothing is counted.
pub refuses_minus_1 : looked fresh (of_bits binary32 0xbf80_0000) ≡ record { reply = bad_figure; curve = fresh; gain = of_bits binary32 0x0000_0000 }
unfolding looked refusal passes fresh not_negative le lt eq of_bits
refuses_minus_1 = refl

-- "The four counts roll over to 0 after the largest 64-bit value."
pub count_rolls_over : counted true (2 ^ 64 - 1) ≡ 0
unfolding counted
count_rolls_over = refl

-- "Duration rises while the region repeats": to the largest value, where it is held
pub duration_rises : (lasting knee knee (pos 0) ≡ pos 1) × (lasting knee knee (pos (2 ^ 63 - 2)) ≡ pos (2 ^ 63 - 1))
unfolding lasting longer
duration_rises = (refl, refl)

-- "held at its largest value"
pub duration_held : lasting knee knee (pos (2 ^ 63 - 1)) ≡ pos (2 ^ 63 - 1)
unfolding lasting longer
duration_held = refl

-- "and becomes 0 at a change"
pub duration_reset : lasting knee identity (pos 7) ≡ pos 0
unfolding lasting
duration_reset = refl
