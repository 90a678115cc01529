-- Whoever is told what a reader hands out, one after the other: a desk of any kind, what it becomes, and the bytes that it puts out. Definitions only.
use Rattle.std.specs.Prelude.{List, [], ◌∷◌, ◌++◌, ℕ}
use Rattle.strip_reader.specs.Reader.{Handed, fed, finished}
use Rattle.strip_reader.specs.declared.Reader.{Reader}

-- a desk, and the bytes that it puts out
pub record Shown (D : Type 0) : Type 0 where
  pub desk : D
  pub line : List ℕ

-- nothing is put out
abbrev pub unchanged : {D : Type 0} → D → Shown D
unchanged d = record { desk = d; line = [] }

-- ---- all that is handed out
-- the bytes, one after the other
unfoldable pub lines_of : {D : Type 0} → (D → Handed → Shown D) → D → List Handed → List ℕ
lines_of told d [] = []
lines_of told d (h ∷ hs) = (told d h).line ++ lines_of told (told d h).desk hs

-- the desk after all of it
unfoldable pub desk_of : {D : Type 0} → (D → Handed → Shown D) → D → List Handed → D
desk_of told d [] = d
desk_of told d (h ∷ hs) = desk_of told (told d h).desk hs

-- ---- bytes
-- the reader and the desk after them, and what was put out
pub record Ran (D : Type 0) : Type 0 where
  pub reader : Reader
  pub desk : D
  pub lines : List ℕ

-- byte by byte: what comes out of the reader is told to the desk
unfoldable pub ran : {D : Type 0} → (D → Handed → Shown D) → Reader → D → List ℕ → Ran D
unfolding fed
ran told r d [] = record { reader = r; desk = d; lines = [] }
ran told r d (byte ∷ bytes) =
    let f = fed r byte in
    let t = told d f.got in
    let rest = ran told f.reader t.desk bytes in
    record { reader = rest.reader; desk = rest.desk; lines = t.line ++ rest.lines }

-- the strip's end
unfoldable pub ended : {D : Type 0} → (D → Handed → Shown D) → Reader → D → Ran D
unfolding finished
ended told r d = let t = told d (finished r) in record { reader = r; desk = t.desk; lines = t.line }

-- a block; an empty one is the strip's end
unfoldable pub taken : {D : Type 0} → (D → Handed → Shown D) → Reader → D → List ℕ → Ran D
unfolding ran ended
taken told r d [] = ended told r d
taken told r d (byte ∷ bytes) = ran told r d (byte ∷ bytes)

-- what is put out of a strip that comes in such blocks and then ends
unfoldable pub taken_blocks : {D : Type 0} → (D → Handed → Shown D) → Reader → D → List (List ℕ) → List ℕ
unfolding taken
taken_blocks told r d [] = (taken told r d []).lines
taken_blocks told r d (block ∷ blocks) = let t = taken told r d block in t.lines ++ taken_blocks told t.reader t.desk blocks

-- and the desk after them
unfoldable pub desk_after : {D : Type 0} → (D → Handed → Shown D) → Reader → D → List (List ℕ) → D
unfolding taken
desk_after told r d [] = (taken told r d []).desk
desk_after told r d (block ∷ blocks) = let t = taken told r d block in desk_after told t.reader t.desk blocks
