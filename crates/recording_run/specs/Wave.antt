-- The search for the samples of a WAV file. Definitions only.
use Rattle.std.specs.Prelude.{ℕ, ◌+◌, ◌-◌, ◌/◌, ◌%◌, min, Bool, true, false, cond, ◌&&◌, List, length, ◌==◌, nat_le, nat_lt}
use Rattle.units.specs.Replies.{done, cut, bad_length, bad_version}
use Rattle.wav_format.specs.Head.{samples_name, format_name, is_wave, chunk_of, format_of, said}
use Rattle.wav_format.specs.declared.head.Format as Declared
use Rattle.recording_run.specs.declared.wave.Fault.{Fault}
use Rattle.recording_run.specs.declared.wave.Fault.TheVariants.{Unread, NoWave, Ends, NoFormat, FormatCut, NotPlain, NotTogether, Channels, Rate}
use Rattle.recording_run.specs.declared.wave.Stage.{Stage}
use Rattle.recording_run.specs.declared.wave.Stage.TheVariants.{Start, Chunk, Format, Skip, Samples, Over}
use Rattle.recording_run.specs.declared.wave.Search.{Search}

-- no format has come
abbrev pub unknown : Declared.Format
unknown = record { channels = 0; samples = 0; mask = 0 }

-- from the start of a file
abbrev pub first : Search
first = record { stage = Start; format = unknown }

-- a chunk of odd size has one byte of padding
abbrev pub padded : ℕ → ℕ
padded size = size + size % 2

-- how many bytes are asked for: of a format at most 40, and at most 4096 are skipped at a time
abbrev pub wanted : Stage → ℕ
wanted Start = 12
wanted Chunk = 8
wanted (Format size) = min size 40
wanted (Skip left) = min left 4096
wanted (Samples size) = 0
wanted (Over fault) = 0

-- whether there is more to ask for
abbrev pub goes_on : Stage → Bool
goes_on Start = true
goes_on Chunk = true
goes_on (Format size) = true
goes_on (Skip left) = true
goes_on (Samples size) = false
goes_on (Over fault) = false

-- ---- what follows of the bytes that came
unfoldable pub after_start : List ℕ → Stage
after_start bytes = cond (is_wave bytes) Chunk (Over NoWave)

-- samples need a format before them, a format is read, and any other chunk is skipped
unfoldable pub after_name : ℕ → ℕ → ℕ → Stage
after_name channels name size =
    cond (name == samples_name) (cond (nat_lt 0 channels) (Samples size) (Over NoFormat)) (cond (name == format_name) (Format size) (Skip (padded size)))

unfoldable pub after_head : ℕ → List ℕ → Stage
after_head channels bytes = cond (nat_le 8 (length bytes)) (after_name channels (chunk_of bytes).name (chunk_of bytes).size) (Over Ends)

-- why a format is refused: its bytes 2 and 3 are the channels, and the four from 4 on the rate
unfoldable pub fault_of : ℕ → List ℕ → Fault
fault_of reply bytes =
    let channels = (chunk_of bytes).name / 65536 in
    cond (reply == cut) FormatCut
    (cond (reply == bad_version) NotPlain
    (cond (reply == bad_length) NotTogether
    (cond (nat_le 1 channels && nat_le channels 8) (Rate (chunk_of bytes).size) (Channels channels))))

-- what is left of a format chunk is skipped
unfoldable pub after_format : ℕ → List ℕ → Search
after_format size bytes =
    let format = format_of bytes in
    cond (format.reply == done)
    (record { stage = Skip (padded size - length bytes); format = said format })
    (record { stage = Over (fault_of format.reply bytes); format = unknown })

-- where none came, none was left or the input has ended, and in both cases the head of the next chunk is due
unfoldable pub after_skip : ℕ → ℕ → Stage
after_skip left came = cond (nat_lt 0 came) (Skip (left - came)) Chunk

-- the next stage with what is known of the format
abbrev pub stays : Search → Stage → Search
stays search stage = record { stage = stage; format = search.format }

unfoldable pub took_at : Stage → Search → List ℕ → Search
took_at Start search bytes = stays search (after_start bytes)
took_at Chunk search bytes = stays search (after_head search.format.channels bytes)
took_at (Format size) search bytes = after_format size bytes
took_at (Skip left) search bytes = stays search (after_skip left (length bytes))
took_at (Samples size) search bytes = search
took_at (Over fault) search bytes = search

-- the search after the bytes that it asked for; fewer came only where the input ended, or where a read failed
unfoldable pub took : Search → List ℕ → Bool → Search
took search bytes failed = cond failed (stays search (Over Unread)) (took_at search.stage search bytes)
