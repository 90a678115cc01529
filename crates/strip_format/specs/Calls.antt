-- What each call answers, refusals first. Definitions only.
use Rattle.std.specs.Prelude.{Bool, true, ◌&&◌, cond, List, [], ◌∷◌, ℕ, ◌+◌, eqb, leb, ltb, length, Option, None, Some, Result, Ok, Err}
use Rattle.units.specs.Replies.{done, cut, bad_length, bad_version, refusal}
use Rattle.units.specs.Handed.{number_of}
use Rattle.units.specs.Output.{Put, put}
use Rattle.units.specs.Settings as Settings
use Rattle.units.specs.Figures as Figure
use Rattle.units.specs.declared.figures.Figures.{Figures}
use Rattle.units.specs.declared.refusals.Refusal.{Refusal}
use Rattle.frames.specs.Shape.{is_samples}
use Rattle.strip_format.specs.Fields.{size, number_at, fields_at}
use Rattle.strip_format.specs.Format as Format
use Rattle.strip_format.specs.Format.{largest_said, has_gaps, head_fields, head_length, head_of, no_head, head_bytes, record_fields, record_length, figures_of, record_bytes, gap_length, Entry, figures, gap, entry_bytes}
use Rattle.strip_format.specs.declared.Version.{Version}
use Rattle.strip_format.specs.declared.Head.{Head}
use Rattle.strip_format.specs.declared.Entry as Code
use Rattle.strip_format.specs.declared.Entry.TheVariants.{Record, Gap}

-- ---- a head
-- a threshold that the version can say: from 1 to its largest
abbrev pub is_threshold : Version → ℕ → Bool
is_threshold v frames = leb 1 frames && leb frames (largest_said v)

-- "then 1, 4": what a whole head is refused with
unfoldable pub head_refusal : Head → ℕ
unfolding refusal is_samples Settings.accepted
head_refusal h = refusal (is_samples h.samples) (Settings.accepted h.settings && is_threshold h.version h.threshold) true true

-- a reply's number, and the head: version 1 and all 0 where it is refused
pub record HeadRead : Type 0 where
  pub reply : ℕ
  pub head : Head

unfoldable pub refused_head : ℕ → HeadRead
unfolding no_head
refused_head reply = record { reply = reply; head = no_head }

unfoldable pub judged_head : Head → HeadRead
unfolding head_refusal refused_head
judged_head h = cond (eqb (head_refusal h) done) (record { reply = done; head = h }) (refused_head (head_refusal h))

-- A strip read in a version: "A strip's order: fewer than 3 bytes 5; version 7; head length 6; cut 5; then 1, 4." In the version that it says it is
-- refused with 7 where that is neither 1 nor 2, and its length is judged after the version.
unfoldable pub read_head : Version → List ℕ → HeadRead
unfolding refused_head judged_head number_at head_of fields_at
read_head v strip =
    cond (leb 3 (length strip))
    (cond (eqb (number_at strip 2 1) (Format.number_of v))
    (cond (eqb (number_at strip 0 2) (head_length v))
    (cond (leb (size (head_fields v)) (length strip)) (judged_head (head_of v (fields_at (head_fields v) strip 0))) (refused_head cut))
    (refused_head bad_length))
    (refused_head bad_version))
    (refused_head cut)

-- ---- a record
-- "then 2"
unfoldable pub record_refusal : Figures → ℕ
unfolding refusal Figure.accepted
record_refusal f = refusal true true (Figure.accepted f) true

-- what stands at a place of a strip: the reply's number, and the record that was found there, or none
pub record Read : Type 0 where
  pub reply : ℕ
  pub found : List Entry

unfoldable pub refused_record : ℕ → Read
refused_record reply = record { reply = reply; found = [] }

-- "no byte, end": done, and no record
unfoldable pub ended : Read
ended = record { reply = done; found = [] }

unfoldable pub found : Entry → Read
found e = record { reply = done; found = e ∷ [] }

unfoldable pub judged_record : Figures → Read
unfolding record_refusal refused_record found
judged_record f = cond (eqb (record_refusal f) done) (found (figures f)) (refused_record (record_refusal f))

-- a record's length that says a gap, in a version that has them
abbrev pub is_gap : Version → ℕ → Bool
is_gap v n = has_gaps v && eqb n gap_length

-- "Record: no byte, end; one byte 5; length 6; cut 5; then 2."; "length 0 is no longer 6 in version 2; it still is in version 1"
unfoldable pub read_record : Version → List ℕ → ℕ → Read
unfolding refused_record ended found judged_record number_at figures_of fields_at
read_record v strip at =
    cond (ltb at (length strip))
    (cond (leb (at + 2) (length strip))
    (cond (is_gap v (number_at strip at 2))
    (found gap)
    (cond (eqb (number_at strip at 2) record_length)
    (cond (leb (at + size record_fields) (length strip)) (judged_record (figures_of (fields_at record_fields strip at))) (refused_record cut))
    (refused_record bad_length)))
    (refused_record cut))
    ended

-- The paper's number and values of what stands at a place: no record has the number 0 and no value, figures have the number 1 and
-- themselves, a gap the number 2 and no value.
pub record Said : Type 0 where
  pub number : ℕ
  pub values : List Figures

abbrev pub said_of : List Entry → Said
said_of [] = record { number = 0; values = [] }
said_of (figures f ∷ es) = record { number = 1; values = f ∷ [] }
said_of (gap ∷ es) = record { number = 2; values = [] }

-- of the cases that the code has
abbrev pub said : Option Code.Entry → Said
said None = said_of []
said (Some (Record f)) = said_of (figures f ∷ [])
said (Some Gap) = said_of (gap ∷ [])

-- the same as records
abbrev pub entries_found : Option Code.Entry → List Entry
entries_found None = []
entries_found (Some (Record f)) = figures f ∷ []
entries_found (Some Gap) = gap ∷ []

unfoldable pub read_of : Result (Option Code.Entry) Refusal → Read
unfolding number_of
read_of (Ok x) = record { reply = done; found = entries_found x }
read_of (Err e) = record { reply = number_of e; found = [] }

-- and of a head
unfoldable pub head_read_of : Result Head Refusal → HeadRead
unfolding refused_head number_of
head_read_of (Ok h) = record { reply = done; head = h }
head_read_of (Err e) = refused_head (number_of e)

-- what an answer says: the reply's number, and what was found
pub record Told : Type 0 where
  pub reply : ℕ
  pub said : Said

unfoldable pub told : Result (Option Code.Entry) Refusal → Told
unfolding number_of
told (Ok x) = record { reply = done; said = said x }
told (Err e) = record { reply = number_of e; said = said_of [] }

unfoldable pub told_of : Read → Told
told_of r = record { reply = r.reply; said = said_of r.found }

-- ---- writing: what is refused for nothing else is put where it fits
unfoldable pub put_head : Head → List ℕ → Put
unfolding put head_refusal head_bytes
put_head h out = put (head_refusal h) (head_bytes h) out

unfoldable pub put_record : Figures → List ℕ → Put
unfolding put record_refusal record_bytes
put_record f out = put (record_refusal f) (record_bytes f) out

-- a gap is refused with 6 in a version that has none, as its bytes are when they are read
abbrev pub gap_refusal : Version → ℕ
gap_refusal v = cond (has_gaps v) done bad_length

unfoldable pub put_gap : Version → List ℕ → Put
unfolding put entry_bytes
put_gap v out = put (gap_refusal v) (entry_bytes gap) out
