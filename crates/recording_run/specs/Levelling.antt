-- A run over the frames of a recording. Definitions only.
use Rattle.std.specs.Prelude.{ℕ, ◌+◌, ◌-◌, ◌*◌, ◌/◌, ◌%◌, ◌^◌, Bool, true, false, cond, not, ◌&&◌, ◌||◌, List, [], ◌∷◌, ◌++◌, take, drop, ◌==◌, nat_le, nat_lt, Option, Some, None}
use Rattle.units.specs.Replies.{done, bad_shape}
use Rattle.units.specs.declared.figures.Figures.{Figures}
use Rattle.chain.specs.Calls.{made, gap}
use Rattle.chain.specs.declared.Chain.{Chain}
use Rattle.strip_format.specs.declared.Head.{Head}
use Rattle.strip_reader.specs.declared.Got.{Got}
use Rattle.strip_reader.specs.declared.Got.TheVariants as Came
use Rattle.wav_format.specs.Head.{head_length, put_head}
use Rattle.recording_frame.specs.Levelling.{levelled}
use Rattle.recording_run.specs.declared.levelling.Told.{Told}
use Rattle.recording_run.specs.declared.levelling.Told.TheVariants.{Minute, StripEnds, Refused, Missing, SaysNone, StripGoesOn}
use Rattle.recording_run.specs.declared.levelling.Run.{Run}
use Rattle.recording_run.specs.declared.levelling.Extent.{Extent}
use Rattle.recording_run.specs.declared.levelling.Begun as Declared
use Rattle.recording_run.specs.declared.levelling.Turn.{Turn}

-- ---- how many bytes
-- the bytes of whole groups of samples, of 1 to 8 channels
unfoldable pub whole_groups : ℕ → ℕ → ℕ
whole_groups n channels = cond (nat_le 1 channels && nat_le channels 8) (n - n % (2 * channels)) 0

-- what a program writes that does not know the size: ffmpeg the largest number, and sox as many of 2147479552 bytes as are whole groups
unfoldable pub is_unknown : ℕ → ℕ → Bool
is_unknown size channels = size == 0xffff_ffff || size == whole_groups 0x7fff_f000 channels

-- the levelled file says the size of the whole groups; one that is unknown is kept, and then all that comes is read
unfoldable pub extent_of : ℕ → ℕ → Extent
extent_of size channels =
    let known = not (is_unknown size channels) in
    record { known = known; size = cond known (whole_groups size channels) size; left = cond known (whole_groups size channels) 18446744073709551615 }

-- two bytes for each sample of a frame of at most 8 channels and 480 samples
unfoldable pub frame_bytes : ℕ → ℕ → ℕ
frame_bytes channels samples = cond (nat_le channels 8 && nat_le samples 480) (2 * (channels * samples)) 0

-- ---- the start: the head of the levelled file, a new chain, no frame, and the record of number 1
-- a reply's number, how many bytes the head has, and the run before its first frame
pub record Begun : Type 0 where
  pub reply : ℕ
  pub head : ℕ
  pub run : Run

-- the same without the reply
abbrev pub opened : Begun → Declared.Begun
opened b = record { head = b.head; run = b.run }

pub record Beginning : Type 0 where
  pub begun : Begun
  pub out : List ℕ

-- 1 for samples that are not the recording's comes before what the chain refuses, which is 4 for the capacity of its rings, and that before what the head is
-- refused with
unfoldable pub begun : Head → ℕ → ℕ → ℕ → ℕ → ℕ → List ℕ → Beginning
begun head capacity channels samples mask size out =
    let extent = extent_of size channels in
    let written = put_head channels samples mask extent.size out in
    let new = made head.settings head.threshold head.samples capacity in
    let run : Run = record { chain = new.chain; number = 1; frames = 0; left = extent.left; more = true; well = true; refused = 0 } in
    cond (samples == head.samples)
    (cond (new.reply == done)
    (record { begun = record { reply = written.reply; head = head_length mask; run = run }; out = written.out })
    (record { begun = record { reply = new.reply; head = head_length mask; run = run }; out = out }))
    (record { begun = record { reply = bad_shape; head = head_length mask; run = run }; out = out })

-- ---- a frame is heard
-- as many bytes, all 0
unfoldable pub quiet : List ℕ → List ℕ
quiet [] = []
quiet (x ∷ xs) = 0 ∷ quiet xs

-- the bytes from a place on are 0, and those before it stay
unfoldable pub silenced : ℕ → List ℕ → List ℕ
silenced from bytes = take from bytes ++ quiet (drop from bytes)

-- there is no frame where no byte of a whole group came, or where a read failed, and then not all went well
abbrev pub heard : Run → ℕ → Bool → Run
heard run n failed =
    record { chain = run.chain; number = run.number; frames = run.frames; left = run.left; more = nat_lt 0 n && not failed; well = not failed; refused = run.refused }

-- ---- it is levelled
-- the run after it, what is told, how many bytes are written and whether the frame still waits for its figures; and the bytes
pub record Framed : Type 0 where
  pub turn : Turn
  pub bytes : List ℕ

-- 6000 frames are a minute
unfoldable pub minute : ℕ → Option Told
minute frames = cond (frames % 6000 == 0) (Some (Minute (frames / 6000))) None

-- the run ends, and nothing is written; the strip was refused with this reply, or with 0 was not
abbrev pub stopped : Run → Option Told → ℕ → Turn
stopped run told refused =
    record {
      run = record { chain = run.chain; number = run.number; frames = run.frames; left = run.left; more = false; well = false; refused = refused };
      told = told;
      n = 0;
      again = false;
    }

unfoldable pub framed : Run → ℕ → Figures → List ℕ → ℕ → ℕ → Framed
framed run n figures bytes channels samples =
    let after = levelled run.chain figures bytes channels samples in
    let frames = (run.frames + 1) % 2 ^ 64 in
    record {
      turn =
          cond (after.next.reply == done)
          (record {
            run = record { chain = after.next.chain; number = (run.number + 1) % 2 ^ 64; frames = frames; left = run.left - n; more = true; well = true; refused = 0 };
            told = minute frames;
            n = n;
            again = false;
          })
          (stopped run (Some (Refused after.next.reply run.number)) after.next.reply);
      bytes = after.bytes;
    }

-- a gap: the run goes on with this chain and the next number, and takes no sound
abbrev pub after_gap : Run → Chain → Run
after_gap run chain =
    record { chain = chain; number = (run.number + 1) % 2 ^ 64; frames = run.frames; left = run.left; more = run.more; well = run.well; refused = run.refused }

-- nothing is written, and the frame still waits for its figures; a chain that fails its test refuses the gap
unfoldable pub gapped : Run → Turn
gapped run =
    let after = gap run.chain in
    cond (after.reply == done)
    (record { run = after_gap run after.chain; told = None; n = 0; again = true })
    (stopped run (Some (Refused after.reply run.number)) after.reply)

-- with what came out of the strip for it: figures, or a gap before them; without these the run ends
unfoldable pub entered : Got → Run → ℕ → List ℕ → ℕ → ℕ → Framed
entered Came.More run n bytes channels samples = record { turn = stopped run None 0; bytes = bytes }
entered (Came.Head head) run n bytes channels samples = record { turn = stopped run None 0; bytes = bytes }
entered (Came.Record figures) run n bytes channels samples = framed run n figures bytes channels samples
entered Came.Gap run n bytes channels samples = record { turn = gapped run; bytes = bytes }
entered Came.End run n bytes channels samples = record { turn = stopped run (Some (StripEnds run.number)) 0; bytes = bytes }
entered (Came.Refused reply) run n bytes channels samples = record { turn = stopped run (Some (Refused reply run.number)) reply; bytes = bytes }

-- ---- it is written, or could not be
abbrev pub after_write : Run → Bool → Run
after_write run written =
    record {
      chain = run.chain;
      number = run.number;
      frames = run.frames;
      left = run.left;
      more = run.more && written;
      well = run.well && written;
      refused = run.refused;
    }

-- ---- the end
-- behind samples of which the file says that there are none one byte is looked for
abbrev pub behind_bytes : ℕ → ℕ
behind_bytes size = cond (size == 0) 1 0

-- what is told of samples of which so many bytes did not come, where so many come behind them, and otherwise
unfoldable pub of_samples : ℕ → ℕ → ℕ → ℕ → Option Told → Option Told
of_samples size channels left behind other =
    cond ((extent_of size channels).known && nat_lt 0 left) (Some (Missing left)) (cond (size == 0 && nat_lt 0 behind) (Some SaysNone) other)

-- what is told of a strip that goes on, or does not, with the record of this number
unfoldable pub of_rest : Bool → ℕ → Option Told
of_rest goes number = cond goes (Some (StripGoesOn number)) None

-- what is told of a run that went well: first of the samples, then of the strip
unfoldable pub at_end : Run → ℕ → ℕ → ℕ → Bool → Option Told
at_end run size channels behind goes = cond run.well (of_samples size channels run.left behind (of_rest goes run.number)) None

-- how many bytes of samples were written
abbrev pub written_bytes : Run → ℕ → ℕ → ℕ
written_bytes run size channels = (extent_of size channels).left - run.left

-- the most bytes of samples of which four bytes say how many follow the first eight of the file
abbrev pub most_samples : ℕ → ℕ
most_samples mask = 4294967295 - (head_length mask - 8)

-- a head that is put right: how many of its bytes are written, and the buffer
pub record Righted : Type 0 where
  pub n : ℕ
  pub out : List ℕ

-- after a run that went well, where another size is true than the head says, and the head has room for it
unfoldable pub righted : Run → ℕ → ℕ → ℕ → ℕ → List ℕ → Righted
righted run channels samples mask size out =
    let written = written_bytes run size channels in
    let head = put_head channels samples mask written out in
    cond (nat_le written (most_samples mask) && (run.well && not (written == (extent_of size channels).size)))
    (record { n = cond (head.reply == done) (head_length mask) 0; out = head.out })
    (record { n = 0; out = out })
