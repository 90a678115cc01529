-- A whole strip: its head, and its records one after the other until the strip ends or one is refused. Definitions only.
use Rattle.std.specs.Prelude.{cond, List, [], ◌∷◌, ℕ, zero, suc, eqb, length, drop}
use Rattle.units.specs.Replies.{done}
use Rattle.strip_format.specs.Fields.{size}
use Rattle.strip_format.specs.Format.{head_fields, Entry, entry_size}
use Rattle.strip_format.specs.declared.Version.{Version}
use Rattle.strip_format.specs.Calls.{HeadRead, read_head, read_record}

-- the records that were read, and the reply's number: done at the strip's end, and otherwise what the next record is refused with
pub record Entries : Type 0 where
  pub entries : List Entry
  pub reply : ℕ

-- a record that was found, and those after it; where none was found, only the reply
unfoldable pub joined : ℕ → List Entry → Entries → Entries
joined reply [] more = record { entries = []; reply = reply }
joined reply (e ∷ es) more = record { entries = e ∷ more.entries; reply = more.reply }

-- the bytes after a record that was found
unfoldable pub behind : List Entry → List ℕ → List ℕ
behind [] bytes = []
behind (e ∷ es) bytes = drop (entry_size e) bytes

-- the records of bytes that have at most so many
unfoldable pub entries_in : ℕ → Version → List ℕ → Entries
unfolding joined behind read_record
entries_in zero v bytes = record { entries = []; reply = done }
entries_in (suc most) v bytes = joined (read_record v bytes 0).reply (read_record v bytes 0).found (entries_in most v (behind (read_record v bytes 0).found bytes))

-- every record has bytes, so no strip has more records than bytes
unfoldable pub entries_of : Version → List ℕ → Entries
unfolding entries_in
entries_of v bytes = entries_in (length bytes) v bytes

-- what reading a strip gives: its head, the records up to the first that is refused, and the reply's number for the whole
pub record Strip : Type 0 where
  pub head : HeadRead
  pub entries : List Entry
  pub reply : ℕ

-- in a version
unfoldable pub read_strip : Version → List ℕ → Strip
unfolding read_head entries_of
read_strip v strip =
    let read = read_head v strip in
    let more = entries_of v (drop (size (head_fields v)) strip) in
    cond (eqb read.reply done) (record { head = read; entries = more.entries; reply = more.reply })
    (record { head = read; entries = []; reply = read.reply })

-- "A refusal prints its record's number (0 for the head)"
unfoldable pub refused_number : Strip → ℕ
refused_number s = cond (eqb s.head.reply done) (suc (length s.entries)) 0
