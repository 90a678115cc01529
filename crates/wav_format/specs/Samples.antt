-- The samples of a WAV file: two bytes for each, in two's complement, one of each channel after the other. Definitions only.
use Rattle.std.specs.Prelude.{ℕ, zero, suc, ◌+◌, ◌-◌, ◌*◌, ◌/◌, ◌%◌, Bool, true, cond, ◌&&◌, List, [], ◌∷◌, ◌++◌, length, pos, from_bits, nat_eq, nat_lt, slice_index_or, Float}
use Rattle.std.specs.Float.{binary32}
use Rattle.std.specs.Float.Ieee.{of_int, neg, add, lt, to_unsigned}
use Rattle.floats.specs.Kinds.{magnitude}
use Rattle.units.specs.Ranges.{closed}
use Rattle.units.specs.Replies.{done, bad_shape, refusal}
use Rattle.units.specs.Output.{Put, put}
use Rattle.frames.specs.Shape.{is_shape}
use Rattle.wav_format.specs.Bytes.{little_at, little}

-- ---- reading
-- the sample of two bytes, by their number: from 32768 on it is below zero
unfoldable pub sound_of : ℕ → Float
sound_of n = cond (nat_lt n 32768) (of_int binary32 (pos n)) (neg (of_int binary32 (pos (65536 - n))))

-- k samples of a frame from its place j on: the place j has the channel j / samples and the sample j % samples
unfoldable pub heard_from : List ℕ → ℕ → ℕ → ℕ → ℕ → List Float
unfolding sound_of little_at
heard_from bytes channels samples j zero = []
heard_from bytes channels samples j (suc k) =
    sound_of (little_at bytes (2 * (j % samples * channels + j / samples)) 2) ∷ heard_from bytes channels samples (j + 1) k

-- a reply's number, and the frame
pub record FrameRead : Type 0 where
  pub reply : ℕ
  pub frame : List Float

unfoldable pub frame_read : List ℕ → List Float → ℕ → ℕ → FrameRead
unfolding is_shape heard_from
frame_read bytes frame channels samples =
    let ok = is_shape channels samples (length frame) && nat_eq (length bytes) (2 * length frame) in
    record { reply = cond ok done bad_shape; frame = cond ok (heard_from bytes channels samples 0 (length frame)) frame }

-- ---- writing
-- a sample between the ends of 16 bits
unfoldable pub full_scale : Float → Bool
full_scale x = closed (from_bits binary32 0xc700_0000) x (from_bits binary32 0x46ff_fe00)

unfoldable pub all_full_scale : List Float → Bool
unfolding full_scale
all_full_scale [] = true
all_full_scale (x ∷ xs) = full_scale x && all_full_scale xs

-- the nearest whole number, halves away from zero, as WebRTC rounds a sample: a half is added to the magnitude in f32, and the fraction cut off
unfoldable pub rounded : Float → ℕ
unfolding magnitude
rounded x = to_unsigned 64 (add binary32 (magnitude x) (from_bits binary32 0x3f00_0000))

-- the number of a sample's two bytes; a sample beyond full scale, which is refused, has 0
unfoldable pub number_of : Float → ℕ
unfolding full_scale rounded
number_of x = cond (full_scale x) (cond (lt x (from_bits binary32 0)) ((65536 - rounded x) % 65536) (rounded x)) 0

-- the bytes of k samples from the place j of the file on: the place j has the channel j % channels and the sample j / channels
unfoldable pub bytes_from : List Float → ℕ → ℕ → ℕ → ℕ → List ℕ
unfolding little number_of
bytes_from frame channels samples j zero = []
bytes_from frame channels samples j (suc k) =
    little 2 (number_of (slice_index_or frame (j % channels * samples + j / channels) (from_bits binary32 0))) ++ bytes_from frame channels samples (j + 1) k

unfoldable pub frame_written : List Float → ℕ → ℕ → List ℕ → Put
unfolding put refusal is_shape all_full_scale bytes_from
frame_written frame channels samples out =
    put (refusal (is_shape channels samples (length frame)) true true (all_full_scale frame)) (bytes_from frame channels samples 0 (length frame)) out
