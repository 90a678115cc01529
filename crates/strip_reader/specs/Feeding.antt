-- All that comes out of a reader over bytes, and over blocks of them; and what a whole strip has. Definitions only.
use Rattle.std.specs.Prelude.{cond, List, [], ◌∷◌, ◌++◌, ℕ, eqb}
use Rattle.units.specs.Replies.{done}
use Rattle.strip_format.specs.Format.{Entry}
use Rattle.strip_format.specs.Whole.{Strip}
use Rattle.strip_reader.specs.Reader.{Handed, head, entry, end, refused, is_more, fed, finished}
use Rattle.strip_reader.specs.declared.Reader.{Reader}

-- what came out, in its order, and the reader that goes on
pub record Fold : Type 0 where
  pub reader : Reader
  pub out : List Handed

-- what came out joins what comes after it, but for nothing yet
unfoldable pub joins : Handed → List Handed → List Handed
unfolding is_more
joins h hs = cond (is_more h) hs (h ∷ hs)

-- byte by byte
unfoldable pub feed : Reader → List ℕ → Fold
unfolding fed joins
feed r [] = record { reader = r; out = [] }
feed r (byte ∷ bytes) =
    let f = fed r byte in
    let t = feed f.reader bytes in
    record { reader = t.reader; out = joins f.got t.out }

-- block by block
unfoldable pub feed_blocks : Reader → List (List ℕ) → Fold
unfolding feed
feed_blocks r [] = record { reader = r; out = [] }
feed_blocks r (block ∷ blocks) =
    let f = feed r block in
    let t = feed_blocks f.reader blocks in
    record { reader = t.reader; out = f.out ++ t.out }

-- all blocks one after the other
unfoldable pub whole : List (List ℕ) → List ℕ
whole [] = []
whole (block ∷ blocks) = block ++ whole blocks

-- what a reader hands out of a strip that comes in such blocks and then ends
unfoldable pub handed_out : Reader → List (List ℕ) → List Handed
unfolding feed_blocks finished joins
handed_out r blocks = let f = feed_blocks r blocks in f.out ++ joins (finished f.reader) []

-- ---- what a whole strip has
-- "no byte, end", or what the next record is refused with
unfoldable pub ending : ℕ → Handed
ending reply = cond (eqb reply done) end (refused reply)

unfoldable pub entries_then : List Entry → Handed → List Handed
entries_then [] last = last ∷ []
entries_then (e ∷ es) last = entry e ∷ entries_then es last

-- the head, the records up to the first that is refused, and the end or the refusal; the refusal alone, where the head is refused
unfoldable pub handed_by : Strip → List Handed
unfolding entries_then ending
handed_by s = cond (eqb s.head.reply done) (head s.head.head ∷ entries_then s.entries (ending s.reply)) (refused s.reply ∷ [])
