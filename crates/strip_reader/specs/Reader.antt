-- A reader of a strip that comes in pieces: what comes out of it at each byte, at the strip's end, and of a block. Definitions only.
use Rattle.std.specs.Prelude.{Bool, true, false, ◌&&◌, cond, List, [], ◌∷◌, ℕ, suc, ◌+◌, eqb, leb, ltb, take, set, replicate}
use Rattle.units.specs.Replies.{done, cut, bad_setting}
use Rattle.strip_format.specs.Fields.{size}
use Rattle.strip_format.specs.Format.{version_of, head_fields, Entry, figures, gap}
use Rattle.strip_format.specs.Calls.{HeadRead, Read, read_head, read_record}
use Rattle.strip_format.specs.declared.Version.{Version}
use Rattle.strip_format.specs.declared.Version.TheVariants.{One, Two}
use Rattle.strip_format.specs.declared.Head.{Head}
use Rattle.strip_reader.specs.declared.Reader.{Reader}
use Rattle.strip_reader.specs.declared.Got.{Got}
use Rattle.strip_reader.specs.declared.Got.TheVariants as Cases
use Rattle.strip_reader.specs.declared.Step.{Step}
use Rattle.strip_reader.specs.declared.Next.{Next}

-- ---- what comes out: nothing yet, the head, a record, the strip's end, or the reply's number of a refusal
pub data Handed : Type 0 where
  more : Handed
  head : Head → Handed
  entry : Entry → Handed
  end : Handed
  refused : ℕ → Handed

-- what each case of the code hands out
unfoldable pub handed : Got → Handed
handed Cases.More = more
handed (Cases.Head h) = head h
handed (Cases.Record f) = entry (figures f)
handed Cases.Gap = entry gap
handed Cases.End = end
handed (Cases.Refused reply) = refused reply

unfoldable pub is_more : Handed → Bool
is_more more = true
is_more (head h) = false
is_more (entry e) = false
is_more end = false
is_more (refused reply) = false

-- ---- the reader
-- so many bytes are held at most: those of the longest head
abbrev pub room : ℕ
room = size (head_fields Two)

-- what it waits for: the rest of the head, the rest of a record, or nothing, after a refusal
abbrev pub at_head : ℕ
at_head = 0

abbrev pub at_records : ℕ
at_records = 1

abbrev pub over : ℕ
over = 2

-- a reader that has seen no byte: of a strip of one version, or of any, and then 1 stands in the version's place until the head is known
unfoldable pub begun : Bool → Version → Reader
begun any v = record { held = replicate room 0; count = 0; stage = at_head; any = any; version = v }

unfoldable pub fresh : Reader
unfolding begun
fresh = begun true One

unfoldable pub fresh_in : Version → Reader
unfolding begun
fresh_in v = begun false v

-- the version that a head is read in: that which it says, where any is taken, and otherwise the reader's
unfoldable pub asked : Bool → Version → List ℕ → Version
unfolding version_of
asked any v bytes = cond any (version_of bytes) v

-- there is room for one more byte, and what it waits for is one of the three
unfoldable pub passes : Reader → Bool
passes r = ltb r.count room && leb r.stage over

-- ---- a byte
-- what came out, and the reader that goes on
pub record Fed : Type 0 where
  pub reader : Reader
  pub got : Handed

unfoldable pub step_of : Step → Fed
unfolding handed
step_of s = record { reader = s.reader; got = handed s.got }

-- so many bytes are held with the last one. A head whose bytes are not all there is waited for; one that is accepted comes out, and its version stands from
-- there on; one that is refused ends the strip
unfoldable pub head_fed : Reader → List ℕ → ℕ → HeadRead → Fed
head_fed r held count read =
    cond (eqb read.reply cut) (record { reader = record { held = held; count = count; stage = at_head; any = r.any; version = r.version }; got = more })
    (cond (eqb read.reply done)
    (record { reader = record { held = held; count = 0; stage = at_records; any = r.any; version = read.head.version }; got = head read.head })
    (record { reader = record { held = held; count = 0; stage = over; any = r.any; version = r.version }; got = refused read.reply }))

-- a record that was found comes out; where there is none it is refused
unfoldable pub record_found : Reader → List ℕ → ℕ → List Entry → Fed
record_found r held reply [] = record { reader = record { held = held; count = 0; stage = over; any = r.any; version = r.version }; got = refused reply }
record_found r held reply (e ∷ es) = record { reader = record { held = held; count = 0; stage = at_records; any = r.any; version = r.version }; got = entry e }

-- the same of a record as of a head
unfoldable pub record_fed : Reader → List ℕ → ℕ → Read → Fed
unfolding record_found
record_fed r held count read =
    cond (eqb read.reply cut) (record { reader = record { held = held; count = count; stage = at_records; any = r.any; version = r.version }; got = more })
    (record_found r held read.reply read.found)

-- the byte is held behind the others, and what they are together is read: a head in the version that is asked for, a record in the head's
unfoldable pub fed : Reader → ℕ → Fed
unfolding passes head_fed record_fed read_head read_record asked
fed r byte =
    let held = set r.held r.count byte in
    let bytes = take (r.count + 1) held in
    cond (passes r)
    (cond (eqb r.stage over)
    (record { reader = r; got = more })
    (cond (eqb r.stage at_head) (head_fed r held (r.count + 1) (read_head (asked r.any r.version bytes) bytes))
    (record_fed r held (r.count + 1) (read_record r.version bytes 0))))
    (record { reader = r; got = refused bad_setting })

-- ---- the strip's end: "no byte, end"; "cut 5"
unfoldable pub finished : Reader → Handed
unfolding passes
finished r =
    cond (passes r)
    (cond (eqb r.stage over) more (cond (eqb r.stage at_records && eqb r.count 0) end (refused cut)))
    (refused bad_setting)

-- ---- a block: its bytes until something comes out, and how many these are
pub record Taken : Type 0 where
  pub reader : Reader
  pub used : ℕ
  pub got : Handed

unfoldable pub next_of : Next → Taken
unfolding handed
next_of n = record { reader = n.reader; used = n.used; got = handed n.got }

-- a byte before what the others give: it alone, where something came out of it
unfoldable pub before : Fed → Taken → Taken
unfolding is_more
before f t = cond (is_more f.got) (record { reader = t.reader; used = suc t.used; got = t.got }) (record { reader = f.reader; used = 1; got = f.got })

unfoldable pub next : Reader → List ℕ → Taken
unfolding fed before
next r [] = record { reader = r; used = 0; got = more }
next r (byte ∷ bytes) = before (fed r byte) (next (fed r byte).reader bytes)
