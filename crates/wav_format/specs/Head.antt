-- What the head of a WAV file says, refusals first, and the head that is written. Definitions only.
use Rattle.std.specs.Prelude.{ℕ, ◌+◌, ◌-◌, ◌*◌, ◌/◌, ◌%◌, min, Bool, true, cond, ◌&&◌, ◌||◌, List, [], ◌∷◌, ◌++◌, length, ◌==◌, nat_eq, nat_le}
use Rattle.units.specs.Replies.{done, bad_shape, cut, bad_length, bad_version, refusal}
use Rattle.units.specs.Output.{Put, put}
use Rattle.frames.specs.Shape.{is_samples}
use Rattle.wav_format.specs.Bytes.{little_at, little}
use Rattle.wav_format.specs.declared.head.Chunk.{Chunk}
use Rattle.wav_format.specs.declared.head.Format as Declared

-- ---- names of four letters
-- RIFF
abbrev pub riff : ℕ
riff = 0x4646_4952

-- WAVE
abbrev pub wave : ℕ
wave = 0x4556_4157

-- fmt and a space
abbrev pub format_name : ℕ
format_name = 0x2074_6d66

-- data
abbrev pub samples_name : ℕ
samples_name = 0x6174_6164

-- ---- what is read
unfoldable pub is_wave : List ℕ → Bool
unfolding little_at
is_wave bytes = little_at bytes 0 4 == riff && little_at bytes 8 4 == wave

unfoldable pub chunk_of : List ℕ → Chunk
unfolding little_at
chunk_of bytes = record { name = little_at bytes 0 4; size = little_at bytes 4 4 }

-- plain samples: the tag 1, or the tag 65534 and the tag 1 where such a format has its own
unfoldable pub plain : List ℕ → Bool
unfolding little_at
plain bytes = little_at bytes 0 2 == 1 || (little_at bytes 0 2 == 65534 && little_at bytes 24 2 == 1)

-- 1 to 8 channels, each with the samples of a frame
abbrev pub is_sizes : ℕ → ℕ → Bool
is_sizes channels samples = nat_le 1 channels && nat_le channels 8 && is_samples samples

-- 1 to 8 channels, and 10 ms whose samples are a frame's
unfoldable pub takeable : ℕ → ℕ → Bool
unfolding is_samples
takeable channels rate = nat_le 1 channels && nat_le channels 8 && rate % 100 == 0 && is_samples (rate / 100)

-- a tag, the channels, the samples a second, the bytes a second, the bytes of a group of samples, the bits of a sample
unfoldable pub format_refusal : List ℕ → ℕ
unfolding little_at plain takeable
format_refusal bytes =
    cond (nat_le 16 (length bytes))
    (cond (plain bytes && little_at bytes 14 2 == 16)
    (cond (little_at bytes 12 2 == 2 * little_at bytes 2 2) (cond (takeable (little_at bytes 2 2) (little_at bytes 4 4)) done bad_shape) bad_length)
    bad_version)
    cut

-- a reply's number, and what a format chunk says, all 0 where it is refused
pub record Format : Type 0 where
  pub reply : ℕ
  pub channels : ℕ
  pub samples : ℕ
  pub mask : ℕ

-- the mask says which speakers the channels are for. It stands in an extended format only; another one says none, which is 0
unfoldable pub format_of : List ℕ → Format
unfolding format_refusal little_at
format_of bytes =
    let ok = nat_eq (format_refusal bytes) done in
    record {
      reply = format_refusal bytes;
      channels = cond ok (little_at bytes 2 2) 0;
      samples = cond ok (little_at bytes 4 4 / 100) 0;
      mask = cond (ok && little_at bytes 0 2 == 65534) (little_at bytes 20 4) 0;
    }

-- what it says, without the reply
abbrev pub said : Format → Declared.Format
said f = record { channels = f.channels; samples = f.samples; mask = f.mask }

-- ---- what is written: the start, the format and the head of the samples, of which so many bytes follow
-- without a mask, which is 0, the format has 16 bytes, and with one 40
abbrev pub format_length : ℕ → ℕ
format_length mask = cond (mask == 0) 16 40

-- and the whole head 28 more
abbrev pub head_length : ℕ → ℕ
head_length mask = cond (mask == 0) 44 68

-- all that follows the first eight bytes of a head of this length, as far as 32 bits say it
unfoldable pub following : ℕ → ℕ → ℕ
following length size = min (size + (length - 8)) 4294967295

-- the tag of plain samples where an extended format has its own: sixteen bytes
abbrev pub plain_name : List ℕ
plain_name =
    0x01 ∷ 0x00 ∷ 0x00 ∷ 0x00 ∷ 0x00 ∷ 0x00 ∷ 0x10 ∷ 0x00 ∷ 0x80 ∷ 0x00 ∷ 0x00 ∷ 0xaa ∷ 0x00 ∷ 0x38 ∷ 0x9b ∷ 0x71 ∷ []

-- what an extended format has besides: that 22 bytes follow, how many bits of a sample count, the mask, and its own tag
unfoldable pub extension : ℕ → List ℕ
unfolding little
extension mask = little 2 22 ++ little 2 16 ++ little 4 mask ++ plain_name

unfoldable pub head_bytes : ℕ → ℕ → ℕ → ℕ → List ℕ
unfolding little following extension
head_bytes channels samples mask size =
    little 4 riff
    ++ little 4 (following (head_length mask) size)
    ++ little 4 wave
    ++ little 4 format_name
    ++ little 4 (format_length mask)
    ++ little 2 (cond (mask == 0) 1 65534)
    ++ little 2 channels
    ++ little 4 (samples * 100)
    ++ little 4 (samples * 100 * (2 * channels))
    ++ little 2 (2 * channels)
    ++ little 2 16
    ++ cond (mask == 0) [] (extension mask)
    ++ little 4 samples_name
    ++ little 4 size

unfoldable pub put_head : ℕ → ℕ → ℕ → ℕ → List ℕ → Put
unfolding put refusal is_samples head_bytes
put_head channels samples mask size out =
    put (refusal (nat_le 1 channels && nat_le channels 8 && is_samples samples) true true true) (head_bytes channels samples mask size) out
