-- What a desk puts out is what the whole strip tells it, however the strip is cut: of any desk to which nothing yet is nothing. Laws.
-- Assumes nothing.
use Rattle.std.specs.Prelude.{◌≡◌, Bool, cond, ℕ, ◌+◌, ◌*◌, ◌≤◌, ◌<◌, length}
use Rattle.std.proofs.Math.Path.{refl, sym, ap}
use Rattle.std.proofs.Common.{◌∙◌}
use Rattle.std.proofs.Math.Bool.{true, false}
use mathlib.Core.List.{List, [], ◌∷◌, ◌++◌, append_assoc, append-nil}
use native.Mathlib.Omega.{arith}
use Rattle.std.proofs.Math.ListN.{length-append}
use Rattle.lists.specs.Each.{Each}
use Rattle.strip_format.specs.Whole.{read_strip}
use Rattle.strip_format.specs.declared.Version.{Version}
use Rattle.strip_reader.specs.Reader.{Handed, more, is_more, begun, asked, fed, finished}
use Rattle.strip_reader.specs.Feeding.{joins, feed, feed_blocks, handed_out, handed_by}
use Rattle.strip_reader.specs.Telling.{Shown, unchanged, lines_of, desk_of, Ran, ran, ended, taken, taken_blocks, desk_after}
use Rattle.strip_reader.specs.Laws.Steps.{is_more_lem}
use Rattle.strip_reader.specs.Laws.Whole.{out_of, whole_out}
use Rattle.strip_reader.specs.declared.Reader.{Reader}

module _ {D : Type 0} (told : D → Handed → Shown D) where
  -- What is told in two pieces is told one after the other.
  pub lines_append : (d : D) (xs ys : List Handed) → lines_of told d (xs ++ ys) ≡ lines_of told d xs ++ lines_of told (desk_of told d xs) ys
  unfolding lines_of desk_of
  lines_append d [] ys = refl
  lines_append d (x ∷ xs) ys =
      ap (λ (l : List ℕ). (told d x).line ++ l) (lines_append (told d x).desk xs ys)
      ∙ sym (append_assoc (told d x).line (lines_of told (told d x).desk xs) (lines_of told (desk_of told (told d x).desk xs) ys))

  pub desk_append : (d : D) (xs ys : List Handed) → desk_of told d (xs ++ ys) ≡ desk_of told (desk_of told d xs) ys
  unfolding desk_of
  desk_append d [] ys = refl
  desk_append d (x ∷ xs) ys = desk_append (told d x).desk xs ys

  -- A desk that nothing changes puts nothing out, and stays.
  module _ (d : D) (still : (h : Handed) → told d h ≡ unchanged d) where
    pub lines_still : (hs : List Handed) → lines_of told d hs ≡ []
    unfolding lines_of
    lines_still [] = refl
    lines_still (h ∷ hs) = rw (still h) (lines_still hs)

    pub desk_still : (hs : List Handed) → desk_of told d hs ≡ d
    unfolding desk_of
    desk_still [] = refl
    desk_still (h ∷ hs) = rw (still h) (desk_still hs)

  -- A block that is not empty is taken byte by byte.
  pub taken_is : (r : Reader) (d : D) (block : List ℕ) → 0 < length block → taken told r d block ≡ ran told r d block
  unfolding taken
  taken_is r d [] h = absurd (omega arith)
  taken_is r d (b ∷ bs) h = refl

  -- Where nothing that is told puts out more than so many bytes, bytes do not either but for as often, and a block but for once more.
  module _ (most : ℕ) (short : (d : D) (h : Handed) → length (told d h).line ≤ most) where
    pub ran_most : (r : Reader) (d : D) (bytes : List ℕ) → length (ran told r d bytes).lines ≤ most * length bytes
    unfolding ran
    ran_most r d [] = omega arith
    ran_most r d (b ∷ bs) =
        let f = fed r b in
        let first = short d f.got in
        let rest = ran_most f.reader (told d f.got).desk bs in
        rw length-append (omega arith)

    pub taken_most : (r : Reader) (d : D) (block : List ℕ) → length (taken told r d block).lines ≤ most * (length block + 1)
    unfolding taken ended
    taken_most r d [] = omega (arith, short d (finished r))
    taken_most r d (b ∷ bs) = omega (arith, ran_most r d (b ∷ bs))

-- where nothing yet changes nothing
module _ {D : Type 0} (told : D → Handed → Shown D) (quiet : (d : D) → told d more ≡ unchanged d) where
  -- What joins is told before what comes after it.
  pub lines_joins : (d : D) (h : Handed) (hs : List Handed) → lines_of told d (joins h hs) ≡ (told d h).line ++ lines_of told (told d h).desk hs
  unfolding joins lines_of
  lines_joins d h hs = go (is_more h) refl
    where
      go : (b : Bool) → is_more h ≡ b → lines_of told d (cond b hs (h ∷ hs)) ≡ (told d h).line ++ lines_of told (told d h).desk hs
      go true e = sym (ap (λ (s : Shown D). s.line ++ lines_of told s.desk hs) (ap (told d) (is_more_lem h e) ∙ quiet d))
      go false e = refl

  pub desk_joins : (d : D) (h : Handed) (hs : List Handed) → desk_of told d (joins h hs) ≡ desk_of told (told d h).desk hs
  unfolding joins desk_of
  desk_joins d h hs = go (is_more h) refl
    where
      go : (b : Bool) → is_more h ≡ b → desk_of told d (cond b hs (h ∷ hs)) ≡ desk_of told (told d h).desk hs
      go true e = sym (ap (λ (s : Shown D). desk_of told s.desk hs) (ap (told d) (is_more_lem h e) ∙ quiet d))
      go false e = refl

  -- ---- bytes
  -- What is put out of bytes is what is handed out of them, told one after the other.
  pub ran_is : (r : Reader) (d : D) (bytes : List ℕ)
      → ran told r d bytes
      ≡ record { reader = (feed r bytes).reader; desk = desk_of told d (feed r bytes).out; lines = lines_of told d (feed r bytes).out }
  unfolding ran feed desk_of lines_of
  ran_is r d [] = refl
  ran_is r d (b ∷ bs) =
      let f = fed r b in
      let t = told d f.got in
      let rest = feed f.reader bs in
      ap (λ (x : Ran D). record { reader = x.reader; desk = x.desk; lines = t.line ++ x.lines }) (ran_is f.reader t.desk bs)
      ∙ (λ i. record { reader = rest.reader; desk = sym (desk_joins d f.got rest.out) i; lines = sym (lines_joins d f.got rest.out) i })

  -- The strip's end is told after its bytes.
  end_lines : (r : Reader) (d : D) → (ended told r d).lines ≡ lines_of told d (joins (finished r) [])
  unfolding ended lines_of
  end_lines r d = sym (lines_joins d (finished r) [] ∙ append-nil (told d (finished r)).line)

  end_desk : (r : Reader) (d : D) → (ended told r d).desk ≡ desk_of told d (joins (finished r) [])
  unfolding ended desk_of
  end_desk r d = sym (desk_joins d (finished r) [])

  out_lines : (r : Reader) (d : D) (bytes : List ℕ)
      → (ran told r d bytes).lines ++ (ended told (ran told r d bytes).reader (ran told r d bytes).desk).lines ≡ lines_of told d (out_of r bytes)
  out_lines r d bytes =
      let f = feed r bytes in
      ap (λ (x : Ran D). x.lines ++ (ended told x.reader x.desk).lines) (ran_is r d bytes)
      ∙ ap (λ (l : List ℕ). lines_of told d f.out ++ l) (end_lines f.reader (desk_of told d f.out))
      ∙ sym (lines_append told d f.out (joins (finished f.reader) []))

  out_desk : (r : Reader) (d : D) (bytes : List ℕ)
      → (ended told (ran told r d bytes).reader (ran told r d bytes).desk).desk ≡ desk_of told d (out_of r bytes)
  out_desk r d bytes =
      let f = feed r bytes in
      ap (λ (x : Ran D). (ended told x.reader x.desk).desk) (ran_is r d bytes)
      ∙ end_desk f.reader (desk_of told d f.out)
      ∙ sym (desk_append told d f.out (joins (finished f.reader) []))

  -- What is put out of a strip's bytes and of its end is what the whole strip tells, in the version that is asked for; and the desk is what it makes of it.
  pub whole_tells : (any : Bool) (v : Version) (d : D) (strip : List ℕ)
      → ((ran told (begun any v) d strip).lines ++ (ended told (ran told (begun any v) d strip).reader (ran told (begun any v) d strip).desk).lines
      ≡ lines_of told d (handed_by (read_strip (asked any v strip) strip)))
      × ((ended told (ran told (begun any v) d strip).reader (ran told (begun any v) d strip).desk).desk
      ≡ desk_of told d (handed_by (read_strip (asked any v strip) strip)))
  whole_tells any v d strip =
      (out_lines (begun any v) d strip ∙ ap (lines_of told d) (whole_out any v strip), out_desk (begun any v) d strip ∙ ap (desk_of told d) (whole_out any v strip))

  -- ---- blocks
  -- What is put out of blocks and of the strip's end is what is handed out of them, told one after the other; and the desk is what it makes of it.
  pub blocks_tell : (r : Reader) (d : D) (blocks : List (List ℕ)) → Each (λ (block : List ℕ). 0 < length block) blocks
      → taken_blocks told r d blocks ≡ lines_of told d (handed_out r blocks)
  unfolding taken_blocks feed_blocks handed_out taken Each
  blocks_tell r d [] some = end_lines r d
  blocks_tell r d (block ∷ blocks) some =
      let f = feed r block in
      let g = feed_blocks f.reader blocks in
      let last = joins (finished g.reader) [] in
      ap (λ (x : Ran D). x.lines ++ taken_blocks told x.reader x.desk blocks) (taken_is told r d block some.0 ∙ ran_is r d block)
      ∙ ap (λ (l : List ℕ). lines_of told d f.out ++ l) (blocks_tell f.reader (desk_of told d f.out) blocks some.1)
      ∙ sym (ap (lines_of told d) (append_assoc f.out g.out last) ∙ lines_append told d f.out (g.out ++ last))

  pub blocks_desk : (r : Reader) (d : D) (blocks : List (List ℕ)) → Each (λ (block : List ℕ). 0 < length block) blocks
      → desk_after told r d blocks ≡ desk_of told d (handed_out r blocks)
  unfolding desk_after feed_blocks handed_out taken Each
  blocks_desk r d [] some = end_desk r d
  blocks_desk r d (block ∷ blocks) some =
      let f = feed r block in
      let g = feed_blocks f.reader blocks in
      let last = joins (finished g.reader) [] in
      ap (λ (x : Ran D). desk_after told x.reader x.desk blocks) (taken_is told r d block some.0 ∙ ran_is r d block)
      ∙ blocks_desk f.reader (desk_of told d f.out) blocks some.1
      ∙ sym (ap (desk_of told d) (append_assoc f.out g.out last) ∙ desk_append told d f.out (g.out ++ last))
