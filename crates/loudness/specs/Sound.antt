-- How loud the samples of a frame are, as a WAV file has them: two bytes for each, in two's complement, the channels side by
-- side. Definitions only.
use Rattle.std.specs.Prelude.{Bool, ◌&&◌, cond, List, ℕ, zero, suc, ◌+◌, ◌*◌, ◌-◌, max, eqb, leb, ltb, length}
use Rattle.units.specs.Replies.{done, bad_shape}
use Rattle.frames.specs.Shape.{is_samples}
use Rattle.wav_format.specs.Bytes.{little_at}
use Rattle.loudness.specs.declared.Loud as Declared

-- how far a sample is from zero, by the number of its two bytes: from 32768 on the sample is that number less 65536
unfoldable pub magnitude_of : ℕ → ℕ
magnitude_of n = cond (ltb n 32768) n (65536 - n)

-- the sum of the squares of k samples, the first at a place of the bytes and one at each stride after it
unfoldable pub squares_from : List ℕ → ℕ → ℕ → ℕ → ℕ
squares_from bytes stride at zero = 0
squares_from bytes stride at (suc k) =
    let size = magnitude_of (little_at bytes at 2) in
    size * size + squares_from bytes stride (at + stride) k

-- the largest magnitude of these samples
unfoldable pub peak_from : List ℕ → ℕ → ℕ → ℕ → ℕ
peak_from bytes stride at zero = 0
peak_from bytes stride at (suc k) = max (magnitude_of (little_at bytes at 2)) (peak_from bytes stride (at + stride) k)

-- the largest that f says of k channels, from the channel c on
unfoldable pub over_channels : (ℕ → ℕ) → ℕ → ℕ → ℕ
over_channels f c zero = 0
over_channels f c (suc k) = max (f c) (over_channels f (c + 1) k)

-- the sum and the peak of the channel c: its first sample is at 2 * c, and each after it lies two bytes for each channel further
abbrev pub square_of : List ℕ → ℕ → ℕ → ℕ → ℕ
square_of bytes channels samples c = squares_from bytes (2 * channels) (2 * c) samples

abbrev pub peak_of : List ℕ → ℕ → ℕ → ℕ → ℕ
peak_of bytes channels samples c = peak_from bytes (2 * channels) (2 * c) samples

-- 1 to 8 channels, each with the samples of a frame
abbrev pub is_sizes : ℕ → ℕ → Bool
is_sizes channels samples = leb 1 channels && leb channels 8 && is_samples samples

-- and two bytes for each sample of each channel, no more and no fewer
unfoldable pub is_frame : ℕ → ℕ → ℕ → Bool
is_frame channels samples n = is_sizes channels samples && eqb n (2 * channels * samples)

-- a reply's number, and what was heard, both 0 where it is refused
pub record Loud : Type 0 where
  pub reply : ℕ
  pub square : ℕ
  pub peak : ℕ

unfoldable pub loudness_of : List ℕ → ℕ → ℕ → Loud
loudness_of bytes channels samples =
    let ok = is_frame channels samples (length bytes) in
    record { reply = cond ok done bad_shape; square = cond ok (over_channels (square_of bytes channels samples) 0 channels) 0; peak = cond ok (over_channels (peak_of bytes channels samples) 0 channels) 0 }

-- what was heard, without the reply
abbrev pub heard_of : Loud → Declared.Loud
heard_of l = record { square = l.square; peak = l.peak }
