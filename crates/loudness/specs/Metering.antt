-- The bytes of a metering: twelve that it begins with, and twelve for each 10 ms, all numbers little-endian. Definitions only.
use Rattle.std.specs.Prelude.{true, List, ◌++◌, ℕ}
use Rattle.units.specs.Replies.{refusal}
use Rattle.units.specs.Output.{Put, put}
use Rattle.wav_format.specs.Bytes.{little}
use Rattle.loudness.specs.Sound.{is_sizes, loudness_of}

-- of 10 ms: the square as eight bytes and the peak as four
unfoldable pub put_loudness : List ℕ → ℕ → ℕ → List ℕ → Put
put_loudness bytes channels samples out =
    let heard = loudness_of bytes channels samples in
    put heard.reply (little 8 heard.square ++ little 4 heard.peak) out

-- at the start: the samples that a channel has in 10 ms, the channels, and the size that the file says of its samples, each as four bytes
unfoldable pub put_format : ℕ → ℕ → ℕ → List ℕ → Put
put_format channels samples size out =
    put (refusal (is_sizes channels samples) true true true) (little 4 samples ++ little 4 channels ++ little 4 size) out
