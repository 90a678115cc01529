-- A run over a strip that comes in blocks: what a block makes of it, and what each call answers. Definitions only.
use Rattle.std.specs.Prelude.{◌≡◌, ℕ, ◌/◌, Bool, false, cond, not, ◌&&◌, List, [], ◌∷◌, ◌++◌, length, drop, nat_lt, Option, Some, None, Result, Ok, Err, MatchResult}
use Rattle.units.specs.Handed.{number_of}
use Rattle.units.specs.Replies.{done, no_room}
use Rattle.units.specs.declared.refusals.Refusal.{Refusal}
use Rattle.strip_lines.specs.Lines.{longest}
use Rattle.strip_reader.specs.Reader.{fresh}
use Rattle.strip_reader.specs.Telling.{Shown, Ran, taken}
use Rattle.strip_run.specs.Lines.{at_start, told, refused_at}
use Rattle.strip_run.specs.declared.Desk.{Desk}
use Rattle.strip_run.specs.declared.Run.{Run}
use Rattle.strip_run.specs.declared.Line.{Line}
use Rattle.strip_run.specs.declared.Taken.{Taken as TakenOn}

-- a reply's number, the run that goes on, and how many bytes of lines were put: the run that came in and none, where the buffer is refused
pub record Taken : Type 0 where
  pub reply : ℕ
  pub run : Run
  pub length : ℕ

-- a run that has seen no byte, with the capacity of the rings of its chain
unfoldable pub new : ℕ → Run
unfolding fresh at_start
new capacity = record { reader = fresh; desk = at_start capacity }

-- a run that does not go on
abbrev pub stopped : Run → Run
stopped r = record { reader = r.reader; desk = record { chain = r.desk.chain; capacity = r.desk.capacity; number = r.desk.number; more = false; reply = r.desk.reply } }

abbrev pub run_of : Ran Desk → Run
run_of x = record { reader = x.reader; desk = x.desk }

-- what comes out of the reader is told to the desk: what a block prints; an empty one is the strip's end
unfoldable pub taken_lines : Run → List ℕ → List ℕ
unfolding taken told
taken_lines r block = (taken told r.reader r.desk block).lines

-- and the run after it, which does not go on after the strip's end
unfoldable pub taken_run : Run → List ℕ → Run
unfolding taken told
taken_run r [] = stopped (run_of (taken told r.reader r.desk []))
taken_run r (byte ∷ bytes) = run_of (taken told r.reader r.desk (byte ∷ bytes))

-- what is printed of a strip that comes in such blocks and then ends, and the run after them
unfoldable pub taken_blocks : Run → List (List ℕ) → List ℕ
unfolding taken_lines taken_run
taken_blocks r [] = taken_lines r []
taken_blocks r (block ∷ blocks) = taken_lines r block ++ taken_blocks (taken_run r block) blocks

unfoldable pub run_after : Run → List (List ℕ) → Run
unfolding taken_run
run_after r [] = taken_run r []
run_after r (block ∷ blocks) = run_after (taken_run r block) blocks

-- ---- what a call answers: a buffer that cannot hold a line for each byte of the block and one more is refused with 8, and nothing changes
unfoldable pub taken_of : Run → List ℕ → ℕ → Taken
unfolding taken_run taken_lines
taken_of r block space =
    cond (nat_lt (length block) (space / longest)) (record { reply = done; run = taken_run r block; length = length (taken_lines r block) })
    (record { reply = no_room; run = r; length = 0 })

unfoldable pub out_of : Run → List ℕ → List ℕ → List ℕ
unfolding taken_lines
out_of r block out =
    cond (nat_lt (length block) (length out / longest)) (taken_lines r block ++ drop (length (taken_lines r block)) out) out

-- as a call hands it back, of the run that came in
unfoldable pub taken_told : Run → Result TakenOn Refusal → Taken
unfolding number_of
taken_told r (Ok t) = record { reply = done; run = t.run; length = t.length }
taken_told r (Err e) = record { reply = number_of e; run = r; length = 0 }

-- a line that was printed to the start of a buffer that has room for it
abbrev pub line_of : Shown Desk → Line
line_of s = record { desk = s.desk; length = length s.line }

abbrev pub line_out : Shown Desk → List ℕ → List ℕ
line_out s out = s.line ++ drop (length s.line) out

-- what a step makes of a desk: its line is put to the start of the buffer; or it is refused, what is shown is the line of that refusal, and nothing is put yet
abbrev pub PutOrRefused : Shown Desk → Desk → Result Line Refusal → List ℕ → List ℕ → Type 0
PutOrRefused s d answer out end =
    MatchResult answer (λ l. (l ≡ line_of s) × (end ≡ line_out s out)) (λ e. (refused_at d (number_of e) ≡ s) × (end ≡ out))

-- ---- the end: whoever started the program is told the reply of a run that has ended, and nothing where a read, a write or the close of the output failed
unfoldable pub verdict_of : Run → Bool → Bool → Bool → Option ℕ
verdict_of r read written closed = cond (read && written && closed && not r.desk.more) (Some r.desk.reply) None
