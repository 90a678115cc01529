-- Small examples, computed: what the gain makes of a few samples, and what the calls answer.
use Rattle.std.specs.Prelude.{◌≡◌, true, false, List, [], ◌∷◌, length, take, replicate, pos, refl, Float}
use Rattle.std.specs.Float.{binary32}
use Rattle.std.specs.Float.Ieee.{of_bits, of_int, add, sub, mul, div, le, lt, eq, size as bits}
use Rattle.floats.specs.Kinds.{magnitude}
use Rattle.floats.specs.Choice.{clamp, larger, smaller}
use Rattle.units.specs.Replies.{done, bad_shape, bad_figure, bad_setting, refusal}
use Rattle.frames.specs.Shape.{is_samples, is_shape}
use Rattle.frames.specs.Samples.{within, all_within}
use Rattle.frames.specs.Parts.{each_part}
use Rattle.frames.specs.Refusal.{frame_refusal}
use Rattle.gain_applier.specs.Sound.{close_to_one, scaled, ramped, clipped, step_of, gained, finished}
use Rattle.gain_applier.specs.Applier.{Applied, remembered, inverse_of, passes, none, starting, made, arrived, applied, aimed, told}

abbrev one : Float
one = of_bits binary32 0x3f80_0000

abbrev two : Float
two = of_bits binary32 0x4000_0000

abbrev thousand : Float
thousand = of_bits binary32 0x447a_0000

-- equal gains at 1 leave the samples of any frame
pub leaves_at_one : (frame : List Float) → gained one one (inverse_of (pos 40)) 1 40 frame ≡ frame
unfolding gained close_to_one le lt eq of_bits
leaves_at_one frame = refl

-- equal gains at 2 double them: 1000 comes out as 2000
pub doubles : gained two two (inverse_of (pos 40)) 1 2 (thousand ∷ thousand ∷ []) ≡ of_bits binary32 0x44fa_0000 ∷ of_bits binary32 0x44fa_0000 ∷ []
unfolding gained close_to_one scaled each_part mul le lt eq of_bits bits
doubles = refl

-- a ramp over 40 samples from 1 to 2: the first gain is 1 and the second 1.025, so of 1000 there come out 1000, 1025
pub ramp_starts_at_one : ramped one (step_of one two (inverse_of (pos 40))) (thousand ∷ thousand ∷ []) ≡ thousand ∷ of_bits binary32 0x4480_2000 ∷ []
unfolding ramped step_of inverse_of add sub mul div of_int of_bits bits
ramp_starts_at_one = refl

-- 1 - 1/32767 and 1 + 1/32767 in f32 are close to 1, and the f32 next to them are not
pub close_ends : (close_to_one (of_bits binary32 0x3f7f_fe00) ≡ true) × (close_to_one (of_bits binary32 0x3f80_0100) ≡ true)
unfolding close_to_one le lt eq of_bits
close_ends = (refl, refl)

pub not_close : (close_to_one (of_bits binary32 0x3f7f_fdff) ≡ false) × (close_to_one (of_bits binary32 0x3f80_0101) ≡ false)
unfolding close_to_one le lt eq of_bits
not_close = (refl, refl)

-- 40000, -40000 and 0.5, clipped
pub clips : clipped (of_bits binary32 0x471c_4000 ∷ of_bits binary32 0xc71c_4000 ∷ of_bits binary32 0x3f00_0000 ∷ []) ≡ of_bits binary32 0x46ff_fe00 ∷ of_bits binary32 0xc700_0000 ∷ of_bits binary32 0x3f00_0000 ∷ []
unfolding clipped clamp larger smaller lt of_bits
clips = refl

-- 1 is a gain factor; 0 and 512 are refused with 2
pub makes_one : made true one ≡ record { reply = done; applier = starting true one }
unfolding made lt of_bits refusal
makes_one = refl

pub refuses_512 : made true (of_bits binary32 0x4400_0000) ≡ record { reply = bad_figure; applier = none }
unfolding made lt of_bits refusal
refuses_512 = refl

pub refuses_0 : made true (of_bits binary32 0x0000_0000) ≡ record { reply = bad_figure; applier = none }
unfolding made lt of_bits refusal
refuses_0 = refl

-- a state of all 0 is refused with 4
pub refuses_none : told none ≡ record { reply = bad_setting; factor = of_bits binary32 0x0000_0000 }
unfolding told none passes lt of_bits refusal
refuses_none = refl

-- from 1 to 2: the last factor stays, the one to come is told
pub aims_at_two : (aimed (starting false one) two).applier.last ≡ one
unfolding aimed starting passes remembered inverse_of lt eq div of_int of_bits bits refusal
aims_at_two = refl

pub tells_two : told (aimed (starting false one) two).applier ≡ record { reply = done; factor = two }
unfolding told aimed starting passes remembered inverse_of lt eq div of_int of_bits bits refusal
tells_two = refl

-- a frame of one sample is no frame: refused with 1, and the frame stays
pub refuses_one_sample : applied (starting false one) (thousand ∷ []) 1 1 ≡ record { next = record { reply = bad_shape; applier = starting false one }; frame = thousand ∷ [] }
unfolding applied frame_refusal is_shape is_samples refusal
refuses_one_sample = refl

-- 40 samples of 1000 with a ramp from 1 to 2: done, and the first two come out as 1000 and 1025
unfoldable pub ramp_of_40 : Applied
ramp_of_40 = applied (aimed (starting false one) two).applier (replicate 40 thousand) 1 40

pub takes_40 : (ramp_of_40.next.reply ≡ done) × (take 2 ramp_of_40.frame ≡ thousand ∷ of_bits binary32 0x4480_2000 ∷ []) × (length ramp_of_40.frame ≡ 40)
unfolding ramp_of_40 applied aimed starting passes remembered inverse_of arrived gained finished ramped step_of each_part frame_refusal is_shape is_samples all_within within magnitude refusal add sub mul div le lt eq of_int of_bits bits
takes_40 = (refl, refl, refl)
