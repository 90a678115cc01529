-- A strip that is carried in blocks: what was seen of it, what each block puts out, and what is told. Definitions only.
use Rattle.std.specs.Prelude.{ℕ, ◌+◌, ◌/◌, ◌%◌, ◌^◌, Bool, true, false, cond, not, ◌&&◌, List, [], ◌∷◌, ◌++◌, length, drop, ◌==◌, nat_lt, slice_index, Option, None, Some}
use Rattle.units.specs.Replies.{done, no_room, unsaid}
use Rattle.strip_format.specs.Fields.{size}
use Rattle.strip_format.specs.Format.{in_version, head_fields, head_bytes, entry_bytes}
use Rattle.strip_format.specs.declared.Version.{Version}
use Rattle.strip_format.specs.declared.Version.TheVariants.{Two}
use Rattle.strip_reader.specs.Reader.{Handed, more, head, entry, end, refused, fresh_in}
use Rattle.strip_reader.specs.Telling.{Shown, unchanged, Ran, taken}
use Rattle.strip_carry.specs.Carry.{other, says_head, says_entry}
use Rattle.strip_carry.specs.declared.Tally.{Tally}
use Rattle.strip_carry.specs.declared.Run.{Run}
use Rattle.strip_carry.specs.declared.Line.{Line}
use Rattle.strip_carry.specs.declared.Way.{Way}
use Rattle.strip_carry.specs.declared.Way.TheVariants as Ways

-- ---- the tally
-- a number and so many more; it has 64 bits, and would roll over
abbrev pub after : ℕ → ℕ → ℕ
after n k = (n + k) % 2 ^ 64

-- before the head, whose number is 0
unfoldable pub at_start : Version → Tally
at_start to = record { to = to; number = 0; more = true; reply = done; at = 0; threshold = 0; length = 0 }

-- the next thing is said, in so many bytes
unfoldable pub said : Tally → ℕ → Tally
said t n =
    record {
      to = t.to;
      number = after t.number 1;
      more = true;
      reply = t.reply;
      at = t.at;
      threshold = t.threshold;
      length = after t.length n;
    }

-- "9": it is the first that cannot be said
unfoldable pub not_said : Tally → Shown Tally
not_said t = unchanged (record { to = t.to; number = after t.number 1; more = true; reply = unsaid; at = t.number; threshold = t.threshold; length = t.length })

-- behind that nothing is put out any more
unfoldable pub passed_by : Tally → Shown Tally
passed_by t = unchanged (record { to = t.to; number = after t.number 1; more = true; reply = t.reply; at = t.at; threshold = t.threshold; length = t.length })

-- the next thing, whether it can be said, and its bytes
unfoldable pub next : Tally → Bool → List ℕ → Shown Tally
unfolding said not_said passed_by
next t says bytes = cond (t.reply == done) (cond says (record { desk = said t (length bytes); line = bytes }) (not_said t)) (passed_by t)

unfoldable pub with_threshold : Tally → ℕ → Tally
with_threshold t threshold = record { to = t.to; number = t.number; more = true; reply = t.reply; at = t.at; threshold = threshold; length = t.length }

-- the strip ends
unfoldable pub ended_with : Tally → ℕ → ℕ → Shown Tally
ended_with t reply at = unchanged (record { to = t.to; number = t.number; more = false; reply = reply; at = at; threshold = t.threshold; length = t.length })

-- what the strip hands out, one after the other. A refusal of the strip stands before all that cannot be said.
unfoldable pub shown : Tally → Handed → Shown Tally
unfolding next with_threshold ended_with says_head says_entry in_version head_bytes entry_bytes
shown t more = unchanged t
shown t (head h) = next (with_threshold t h.threshold) (says_head t.to h) (head_bytes (in_version t.to h))
shown t (entry e) = next t (says_entry t.to e) (entry_bytes e)
shown t end = ended_with t t.reply t.at
shown t (refused reply) = ended_with t reply t.number

-- once the strip has ended nothing is put out
unfoldable pub told : Tally → Handed → Shown Tally
unfolding shown
told t h = cond t.more (shown t h) (unchanged t)

-- what was put to the start of a buffer that has room for it
abbrev pub line_of : Shown Tally → Line
line_of s = record { tally = s.desk; length = length s.line }

abbrev pub line_out : Shown Tally → List ℕ → List ℕ
line_out s out = s.line ++ drop (length s.line) out

-- ---- the run
-- a run that has seen no byte of a strip of this version
unfoldable pub new : Version → Run
unfolding fresh_in at_start
new v = record { reader = fresh_in v; tally = at_start (other v); place = 0 }

abbrev pub run_of : ℕ → Ran Tally → Run
run_of place x = record { reader = x.reader; tally = x.desk; place = place }

-- a block; an empty one is the strip's end
unfoldable pub taken_run : Run → List ℕ → Run
unfolding taken told
taken_run r block = run_of (after r.place (length block)) (taken told r.reader r.tally block)

unfoldable pub taken_lines : Run → List ℕ → List ℕ
unfolding taken told
taken_lines r block = (taken told r.reader r.tally block).lines

-- what a strip puts out that comes in such blocks and then ends, and the run after them
unfoldable pub taken_blocks : Run → List (List ℕ) → List ℕ
unfolding taken_lines taken_run
taken_blocks r [] = taken_lines r []
taken_blocks r (block ∷ blocks) = taken_lines r block ++ taken_blocks (taken_run r block) blocks

unfoldable pub run_after : Run → List (List ℕ) → Run
unfolding taken_run
run_after r [] = taken_run r []
run_after r (block ∷ blocks) = run_after (taken_run r block) blocks

-- no byte puts out more than the longest head has
abbrev pub longest : ℕ
longest = size (head_fields Two)

-- a reply's number, the run that goes on, and how many bytes were put out
pub record Taken : Type 0 where
  pub reply : ℕ
  pub run : Run
  pub length : ℕ

-- what a call answers: a buffer that cannot hold so much for each byte of the block and once more is refused with 8, and nothing changes
unfoldable pub taken_of : Run → List ℕ → ℕ → Taken
unfolding taken_run taken_lines
taken_of r block space =
    cond (nat_lt (length block) (space / longest)) (record { reply = done; run = taken_run r block; length = length (taken_lines r block) })
    (record { reply = no_room; run = r; length = 0 })

unfoldable pub out_of : Run → List ℕ → List ℕ → List ℕ
unfolding taken_lines
out_of r block out =
    cond (nat_lt (length block) (length out / longest)) (taken_lines r block ++ drop (length (taken_lines r block)) out) out

-- ---- what is told
-- `up` and `back`
unfoldable pub is_up : List ℕ → Bool
is_up word = length word == 2 && slice_index word 0 == 117 && slice_index word 1 == 112

unfoldable pub is_back : List ℕ → Bool
is_back word = length word == 4 && slice_index word 0 == 98 && slice_index word 1 == 97 && slice_index word 2 == 99 && slice_index word 3 == 107

unfoldable pub way_of : List ℕ → Option Way
unfolding is_up is_back
way_of word = cond (is_up word) (Some Ways.Up) (cond (is_back word) (Some Ways.Back) None)

-- nothing; how many bytes the carried strip has; or a refusal, and the record that it is about
pub data Told : Type 0 where
  Nothing : Told
  Size : ℕ → Told
  Refused : ℕ → ℕ → Told

-- "the tool says so before it writes": after the first reading, whose reads all went well or not
unfoldable pub told_of : Run → Bool → Told
told_of r read =
    cond (read && not r.tally.more)
    (cond (r.tally.reply == done) (Size r.tally.length) (Refused r.tally.reply r.tally.at))
    Told.Nothing

-- both readings ended with a strip that can be said, of the same threshold, as many records and as many bytes
unfoldable pub same : Tally → Tally → Bool
same a b =
    (not a.more && not b.more)
    && (a.reply == done && b.reply == done)
    && a.threshold == b.threshold
    && (a.number == b.number && a.length == b.length)

-- nothing; that the strip is not the one that was read first; or that all is well
pub data End : Type 0 where
  Nothing : End
  Changed : End
  Well : End

-- after the second reading: whether its reads, the writes and the close of the output went well
unfoldable pub end_of : Run → Run → Bool → Bool → Bool → End
unfolding same
end_of first second read written closed =
    cond (read && written && closed) (cond (same first.tally second.tally) Well Changed) End.Nothing
