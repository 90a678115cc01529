-- What comes out of a reader is what the whole strip has, however it is cut: the head, the records up to the first that is refused, and the end or the
-- refusal. Laws.
-- Assumes nothing.
use Rattle.std.specs.Prelude.{◌≡◌, refl, ◌⊎◌, Bool, true, false, List, [], ◌∷◌, ◌++◌, ℕ, zero, suc, ◌+◌, ◌≤◌, ◌<◌, eqb, length, take, drop, set}
use Rattle.std.proofs.Common.{sym, ap, ◌∙◌, inl, inr, append_assoc, append-nil, add-one, arith, length-set, length-append, take-suc-set, drop_at, length-take-le}
use borrow.Author.Tests.{le-leb, lt-ltb, eq-eqb, ne_eqb, eqb-true, eqb-false}
use Rattle.units.specs.Replies.{done, cut}
use Rattle.strip_format.specs.Fields.{size}
use Rattle.strip_format.specs.Format.{head_fields, Entry, entry_size}
use Rattle.strip_format.specs.Calls.{HeadRead, Read, read_head, refused_record, ended, found, read_record}
use Rattle.strip_format.specs.Whole.{joined, behind, entries_in, entries_of, Strip, read_strip}
use Rattle.strip_format.specs.Laws.Prefix.{none_of_nothing, record_settled, record_ends, record_cut_short, head_settled, head_ends, head_cut_short, version_settled, cut_before}
use Rattle.strip_format.specs.Laws.Heads.{read_version}
use Rattle.strip_format.specs.Laws.Whole.{Seen, here, over, refused, seen}
use Rattle.strip_format.specs.declared.Version.{Version}
use Rattle.strip_format.specs.declared.Version.TheVariants.{One, Two}
use Rattle.strip_reader.specs.Reader as Reading
use Rattle.strip_reader.specs.Feeding.{Fold, joins, feed, whole, handed_out, ending, entries_then, handed_by}
use Rattle.strip_reader.specs.Laws.Pieces.{joins_append, feed_blocks_lem}
use Rattle.strip_reader.specs.declared.Reader.{Reader}

-- the bytes that a reader holds
abbrev bytes_of : Reader → List ℕ
bytes_of r = take r.count r.held

-- a reader with room for one more byte
record Ready (r : Reader) : Type 0 where
  long : length r.held ≡ Reading.room
  space : r.count < Reading.room

-- the byte stands behind those that were held
held_more : (r : Reader) (b : ℕ) → Ready r → take (r.count + 1) (set r.held r.count b) ≡ bytes_of r ++ (b ∷ [])
held_more r b h = rw (add-one r.count) (take-suc-set r.held r.count b (omega (arith, h.long, h.space)))

-- and the reader with it
with_byte : Reader → ℕ → ℕ → Reader
with_byte r b stage = record { held = set r.held r.count b; count = r.count + 1; stage = stage; any = r.any; version = r.version }

emptied : Reader → ℕ → ℕ → Version → Reader
emptied r b stage v = record { held = set r.held r.count b; count = 0; stage = stage; any = r.any; version = v }

passing : (r : Reader) → Ready r → r.stage ≤ Reading.over → Reading.passes r ≡ true
unfolding Reading.passes
passing r h s = rw (lt-ltb r.count Reading.room h.space, le-leb r.stage Reading.over s)

-- ---- the version that a reader asks for
-- Once the head is settled it stays, whatever follows.
asked_settled : (any : Bool) (v : Version) (xs ys : List ℕ) → ((read_head (Reading.asked any v xs) xs).reply ≡ cut → ⊥)
    → Reading.asked any v (xs ++ ys) ≡ Reading.asked any v xs
unfolding Reading.asked
asked_settled true v xs ys n = version_settled xs ys n
asked_settled false v xs ys n = refl

-- What is cut in it is cut in that which is asked for with what follows.
asked_before : (any : Bool) (v : Version) (xs ys : List ℕ) → (read_head (Reading.asked any v xs) xs).reply ≡ cut
    → (read_head (Reading.asked any v (xs ++ ys)) xs).reply ≡ cut
unfolding Reading.asked
asked_before true v xs ys e = cut_before xs ys e
asked_before false v xs ys e = e

abbrev asked_by : Reader → List ℕ → Version
asked_by r xs = Reading.asked r.any r.version xs

-- a head in it
abbrev head_by : Reader → List ℕ → HeadRead
head_by r xs = read_head (asked_by r xs) xs

module _ (r : Reader) (b : ℕ) (h : Ready r) where
  -- a byte at the records, and one at the head
  at_record : (v : Version) → r.version ≡ v → r.stage ≡ Reading.at_records
      → Reading.fed r b ≡ Reading.record_fed r (set r.held r.count b) (r.count + 1) (read_record v (bytes_of r ++ (b ∷ [])) 0)
  unfolding Reading.fed
  at_record v w s = rw (passing r h (omega arith), s, held_more r b h, w)

  at_head_lem : r.stage ≡ Reading.at_head
      → Reading.fed r b ≡ Reading.head_fed r (set r.held r.count b) (r.count + 1) (head_by r (bytes_of r ++ (b ∷ [])))
  unfolding Reading.fed
  at_head_lem s = rw (passing r h (omega arith), s, held_more r b h)

-- After a refusal nothing comes out any more.
stays : (r : Reader) (b : ℕ) → Ready r → r.stage ≡ Reading.over → Reading.fed r b ≡ record { reader = r; got = Reading.more }
unfolding Reading.fed
stays r b h s = rw (passing r h (omega arith), eq-eqb r.stage Reading.over s)

feed_byte : (r : Reader) (b : ℕ) (bs : List ℕ) (f : Reading.Fed) → Reading.fed r b ≡ f
    → feed r (b ∷ bs) ≡ record { reader = (feed f.reader bs).reader; out = joins f.got (feed f.reader bs).out }
unfolding feed
feed_byte r b bs f e = ap (λ (x : Reading.Fed). record { reader = (feed x.reader bs).reader; out = joins x.got (feed x.reader bs).out }) e

silent : (r : Reader) (bytes : List ℕ) → Ready r → r.stage ≡ Reading.over → feed r bytes ≡ record { reader = r; out = [] }
unfolding feed joins Reading.is_more
silent r [] h s = refl
silent r (b ∷ bs) h s =
    feed_byte r b bs (record { reader = r; got = Reading.more }) (stays r b h s)
    ∙ ap (λ (x : Fold). record { reader = x.reader; out = x.out }) (silent r bs h s)

-- what comes out in the end, after all that came out before
abbrev pub ended_by : Fold → List Reading.Handed
ended_by f = f.out ++ joins (Reading.finished f.reader) []

abbrev pub out_of : Reader → List ℕ → List Reading.Handed
out_of r bytes = ended_by (feed r bytes)

-- one byte more
out_byte : (r : Reader) (b : ℕ) (bs : List ℕ) (f : Reading.Fed) → Reading.fed r b ≡ f → out_of r (b ∷ bs) ≡ joins f.got (out_of f.reader bs)
out_byte r b bs f e =
    ap ended_by (feed_byte r b bs f e)
    ∙ sym (joins_append f.got (feed f.reader bs).out (joins (Reading.finished (feed f.reader bs).reader) []))

out_silent : (r : Reader) (bs : List ℕ) → Ready r → r.stage ≡ Reading.over → out_of r bs ≡ []
unfolding joins Reading.finished Reading.is_more
out_silent r bs h s = ap ended_by (silent r bs h s) ∙ rw (passing r h (omega arith), eq-eqb r.stage Reading.over s)

-- ---- the records
-- a reader at the records: it holds nothing, or the beginning of a record
record AtRecords (v : Version) (r : Reader) : Type 0 where
  ready : Ready r
  stage : r.stage ≡ Reading.at_records
  version : r.version ≡ v
  begun : (r.count ≡ 0) ⊎ ((read_record v (bytes_of r) 0).reply ≡ cut)

emptied_ready : (r : Reader) (b stage : ℕ) (v : Version) → Ready r → Ready (emptied r b stage v)
unfolding emptied
emptied_ready r b stage v h = record { long = simp length-set h.long; space = omega arith }

emptied_records : (v w : Version) (r : Reader) (b : ℕ) → Ready r → w ≡ v → AtRecords v (emptied r b Reading.at_records w)
unfolding emptied
emptied_records v w r b h e = record { ready = emptied_ready r b Reading.at_records w h; stage = refl; version = e; begun = inl refl }

-- what the bytes that it holds and those that follow are
abbrev entries_there : ℕ → Version → List ℕ → List Reading.Handed
entries_there most v bytes = entries_then (entries_in most v bytes).entries (ending (entries_in most v bytes).reply)

-- the bytes with one more, and those after it
regroup : (xs : List ℕ) (b : ℕ) (bs : List ℕ) → xs ++ (b ∷ bs) ≡ (xs ++ (b ∷ [])) ++ bs
regroup xs b bs = sym (append_assoc xs (b ∷ []) bs)

-- a record, and what follows it
entry_first : (v : Version) (most : ℕ) (xs bs : List ℕ) (e : Entry) → 0 < length xs → read_record v xs 0 ≡ found e → entry_size e ≡ length xs
    → entries_there (suc most) v (xs ++ bs) ≡ Reading.entry e ∷ entries_there most v bs
unfolding entries_in joined behind entries_then found
entry_first v most xs bs e l h s =
    let same : read_record v (xs ++ bs) 0 ≡ found e = record_settled v xs bs l (λ c. omega (arith, sym c ∙ ap (λ (x : Read). x.reply) h)) ∙ h in
    rw (same, drop_at xs bs (entry_size e) (sym s))

-- a record that is refused
refused_first : (v : Version) (most : ℕ) (xs bs : List ℕ) (n : ℕ) → 0 < length xs → read_record v xs 0 ≡ refused_record n → (n ≡ done → ⊥) → (n ≡ cut → ⊥)
    → entries_there (suc most) v (xs ++ bs) ≡ Reading.refused n ∷ []
unfolding entries_in joined entries_then ending refused_record
refused_first v most xs bs n l h d c =
    let same : read_record v (xs ++ bs) 0 ≡ refused_record n = record_settled v xs bs l (λ e. c (sym (ap (λ (x : Read). x.reply) h) ∙ e)) ∙ h in
    rw (same, ne_eqb n done d)

-- of no byte nothing is read
nothing_read : (v : Version) → (read_record v [] 0).reply ≡ done
unfolding ended
nothing_read v = ap (λ (x : Read). x.reply) (none_of_nothing v)

-- bytes that are cut are refused with it
cut_is : (v : Version) (xs : List ℕ) → (read_record v xs 0).reply ≡ cut → read_record v xs 0 ≡ refused_record cut
unfolding found ended refused_record
cut_is v xs e = go (seen v xs)
  where
    go : Seen v xs → read_record v xs 0 ≡ refused_record cut
    go (here h) = absurd (omega (arith, sym e ∙ ap (λ (x : Read). x.reply) h.is))
    go (over o) = absurd (omega (arith, sym e ∙ ap (λ (x : Read). x.reply) o.is))
    go (refused f) = f.is ∙ ap refused_record (sym (ap (λ (x : Read). x.reply) f.is) ∙ e)

-- of no byte there is the end
nothing_there : (v : Version) (most : ℕ) → entries_there most v [] ≡ Reading.end ∷ []
unfolding entries_in joined entries_then ending
nothing_there v zero = refl
nothing_there v (suc most) = refl

cut_there : (v : Version) (most : ℕ) (xs : List ℕ) → read_record v xs 0 ≡ refused_record cut → entries_there (suc most) v xs ≡ Reading.refused cut ∷ []
unfolding entries_in joined entries_then ending refused_record
cut_there v most xs h = rw h

-- at the strip's end
end_is : (r : Reader) → Ready r → r.stage ≡ Reading.at_records → r.count ≡ 0 → joins (Reading.finished r) [] ≡ Reading.end ∷ []
unfolding joins Reading.finished Reading.is_more
end_is r h s z = rw (passing r h (omega arith), s, z)

cut_end : (r : Reader) → Ready r → r.stage ≡ Reading.at_records → (r.count ≡ 0 → ⊥) → joins (Reading.finished r) [] ≡ Reading.refused cut ∷ []
unfolding joins Reading.finished Reading.is_more
cut_end r h s n = rw (passing r h (omega arith), s, ne_eqb r.count 0 n)

none_left : (v : Version) (r : Reader) → AtRecords v r → (most : ℕ) → length (bytes_of r ++ []) ≤ most → out_of r [] ≡ entries_there most v (bytes_of r ++ [])
unfolding feed
none_left v r a most l = go a.begun most l
  where
    held : bytes_of r ++ [] ≡ bytes_of r
    held = append-nil (bytes_of r)

    some : (read_record v (bytes_of r) 0).reply ≡ cut → r.count ≡ 0 → ⊥
    some c z = omega (arith, sym c ∙ ap (λ (n : ℕ). (read_record v (take n r.held) 0).reply) z ∙ nothing_read v)

    go : (r.count ≡ 0) ⊎ ((read_record v (bytes_of r) 0).reply ≡ cut) → (m : ℕ) → length (bytes_of r ++ []) ≤ m
        → joins (Reading.finished r) [] ≡ entries_there m v (bytes_of r ++ [])
    go (inl z) m k =
        end_is r a.ready a.stage z
        ∙ sym (ap (entries_there m v) (held ∙ ap (λ (n : ℕ). take n r.held) z) ∙ nothing_there v m)
    go (inr c) zero k =
        absurd (some c (omega (arith, k, ap length held, length-take-le r.count r.held (omega (arith, a.ready.long, a.ready.space)))))
    go (inr c) (suc m) k =
        cut_end r a.ready a.stage (some c)
        ∙ sym (ap (entries_there (suc m) v) held ∙ cut_there v m (bytes_of r) (cut_is v (bytes_of r) c))

-- what a byte at the records gives, by what is read with it
module _ (v : Version) (r : Reader) (b : ℕ) (a : AtRecords v r) where
  by_record : Reading.fed r b ≡ Reading.record_fed r (set r.held r.count b) (r.count + 1) (read_record v (bytes_of r ++ (b ∷ [])) 0)
  by_record = at_record r b a.ready v a.version a.stage

  found_fed : (e : Entry) → read_record v (bytes_of r ++ (b ∷ [])) 0 ≡ found e
      → Reading.fed r b ≡ record { reader = emptied r b Reading.at_records r.version; got = Reading.entry e }
  unfolding Reading.record_fed Reading.record_found found emptied
  found_fed e i = by_record ∙ rw i

  cut_fed : read_record v (bytes_of r ++ (b ∷ [])) 0 ≡ refused_record cut
      → Reading.fed r b ≡ record { reader = with_byte r b Reading.at_records; got = Reading.more }
  unfolding Reading.record_fed refused_record with_byte
  cut_fed i = by_record ∙ rw i

  refused_fed : (n : ℕ) → (n ≡ cut → ⊥) → read_record v (bytes_of r ++ (b ∷ [])) 0 ≡ refused_record n
      → Reading.fed r b ≡ record { reader = emptied r b Reading.over r.version; got = Reading.refused n }
  unfolding Reading.record_fed Reading.record_found refused_record emptied
  refused_fed n c i = by_record ∙ rw (i, ne_eqb n cut c)

-- a reader that waits on with one byte more
waits_on : (v : Version) (r : Reader) (b : ℕ) → Ready r → r.version ≡ v → (read_record v (bytes_of r ++ (b ∷ [])) 0).reply ≡ cut
    → AtRecords v (with_byte r b Reading.at_records)
unfolding with_byte
waits_on v r b h w c =
    let short = record_cut_short v (bytes_of r ++ (b ∷ [])) c in
    let one_more : length (bytes_of r ++ (b ∷ [])) ≡ r.count + 1 = rw (length-append, length-take-le r.count r.held (omega (arith, h.long, h.space))) in
    record {
      ready = record { long = simp length-set h.long; space = omega arith };
      stage = refl;
      version = w;
      begun = inr (ap (λ (xs : List ℕ). (read_record v xs 0).reply) (held_more r b h) ∙ c);
    }

-- one byte more
byte_more : (v : Version) (r : Reader) (b : ℕ) (bs : List ℕ) → AtRecords v r → (most : ℕ) → length (bytes_of r ++ (b ∷ bs)) ≤ most
    → ((q : Reader) → AtRecords v q → (m : ℕ) → length (bytes_of q ++ bs) ≤ m → out_of q bs ≡ entries_there m v (bytes_of q ++ bs))
    → out_of r (b ∷ bs) ≡ entries_there most v (bytes_of r ++ (b ∷ bs))
unfolding joins Reading.is_more emptied with_byte refused_record
byte_more v r b bs a zero l again = absurd (omega (arith, l, ap length (regroup (bytes_of r) b bs), length-append (bytes_of r) (b ∷ bs)))
byte_more v r b bs a (suc most) l again = go (seen v (bytes_of r ++ (b ∷ [])))
  where
    some : 0 < length (bytes_of r ++ (b ∷ []))
    some = rw length-append (omega arith)

    fewer : length bs ≤ most
    fewer = omega (arith, l, length-append (bytes_of r) (b ∷ bs))

    whole_is : entries_there (suc most) v (bytes_of r ++ (b ∷ bs)) ≡ entries_there (suc most) v ((bytes_of r ++ (b ∷ [])) ++ bs)
    whole_is = ap (entries_there (suc most) v) (regroup (bytes_of r) b bs)

    begun : (r.count ≡ 0) ⊎ ((read_record v (bytes_of r) 0).reply ≡ cut) → (length (bytes_of r) ≡ 0) ⊎ ((read_record v (bytes_of r) 0).reply ≡ cut)
    begun (inl z) = inl (ap (λ (n : ℕ). length (take n r.held)) z)
    begun (inr c) = inr c

    by_reply : (n : ℕ) → (n ≡ done → ⊥) → read_record v (bytes_of r ++ (b ∷ [])) 0 ≡ refused_record n → (t : Bool) → eqb n cut ≡ t
        → out_of r (b ∷ bs) ≡ entries_there (suc most) v (bytes_of r ++ (b ∷ bs))
    by_reply n d i true t =
        let c : read_record v (bytes_of r ++ (b ∷ [])) 0 ≡ refused_record cut = i ∙ ap refused_record (eqb-true n cut t) in
        let waits = waits_on v r b a.ready a.version (ap (λ (x : Read). x.reply) c) in
        let same : bytes_of (with_byte r b Reading.at_records) ++ bs ≡ bytes_of r ++ (b ∷ bs) = ap (λ (xs : List ℕ). xs ++ bs) (held_more r b a.ready) ∙ sym (regroup (bytes_of r) b bs) in
        out_byte r b bs _ (cut_fed v r b a c)
        ∙ again (with_byte r b Reading.at_records) waits (suc most) (rw same l)
        ∙ ap (entries_there (suc most) v) same
    by_reply n d i false t =
        let c = eqb-false n cut t in
        out_byte r b bs _ (refused_fed v r b a n c i)
        ∙ ap (λ (out : List Reading.Handed). Reading.refused n ∷ out) (out_silent (emptied r b Reading.over r.version) bs (emptied_ready r b Reading.over r.version a.ready) refl)
        ∙ sym (whole_is ∙ refused_first v most (bytes_of r ++ (b ∷ [])) bs n some i d c)

    go : Seen v (bytes_of r ++ (b ∷ [])) → out_of r (b ∷ bs) ≡ entries_there (suc most) v (bytes_of r ++ (b ∷ bs))
    go (here i) =
        let e = i.entry in
        out_byte r b bs _ (found_fed v r b a e i.is)
        ∙ ap (λ (out : List Reading.Handed). Reading.entry e ∷ out) (again (emptied r b Reading.at_records r.version) (emptied_records v r.version r b a.ready a.version) most fewer)
        ∙ sym (whole_is ∙ entry_first v most (bytes_of r ++ (b ∷ [])) bs e some i.is (record_ends v (bytes_of r) b e (begun a.begun) i.is))
    go (over o) = absurd (omega (arith, some, o.none))
    go (refused f) = by_reply f.reply f.bad f.is (eqb f.reply cut) refl

-- The records of the bytes that a reader at the records holds, and of those that follow, come out.
records_out : (v : Version) (bytes : List ℕ) (r : Reader) → AtRecords v r → (most : ℕ) → length (bytes_of r ++ bytes) ≤ most
    → out_of r bytes ≡ entries_there most v (bytes_of r ++ bytes)
records_out v [] r a most l = none_left v r a most l
records_out v (b ∷ bs) r a most l = byte_more v r b bs a most l (records_out v bs)

-- ---- the head
-- a reader at the head: it holds the beginning of one
record AtHead (r : Reader) : Type 0 where
  ready : Ready r
  stage : r.stage ≡ Reading.at_head
  begun : (head_by r (bytes_of r)).reply ≡ cut

-- no head is longer than the room
longest : (v : Version) → size (head_fields v) ≤ Reading.room
longest One = omega arith
longest Two = omega arith

-- what a byte at the head gives, by what is read with it
module _ (r : Reader) (b : ℕ) (h : Ready r) (s : r.stage ≡ Reading.at_head) where
  abbrev said : HeadRead
  said = head_by r (bytes_of r ++ (b ∷ []))

  head_done : said.reply ≡ done → Reading.fed r b ≡ record { reader = emptied r b Reading.at_records said.head.version; got = Reading.head said.head }
  unfolding Reading.head_fed emptied
  head_done d = at_head_lem r b h s ∙ rw d

  head_more : said.reply ≡ cut → Reading.fed r b ≡ record { reader = with_byte r b Reading.at_head; got = Reading.more }
  unfolding Reading.head_fed with_byte
  head_more c = at_head_lem r b h s ∙ rw c

  head_refused : (said.reply ≡ cut → ⊥) → (said.reply ≡ done → ⊥)
      → Reading.fed r b ≡ record { reader = emptied r b Reading.over r.version; got = Reading.refused said.reply }
  unfolding Reading.head_fed emptied
  head_refused c d = at_head_lem r b h s ∙ rw (ne_eqb said.reply cut c, ne_eqb said.reply done d)

-- a whole strip in the version that is asked for
abbrev strip_by : Reader → List ℕ → Strip
strip_by r xs = read_strip (asked_by r xs) xs

-- one whose head is refused, and one whose head is taken
strip_refused : (v : Version) (xs : List ℕ) → ((read_head v xs).reply ≡ done → ⊥) → handed_by (read_strip v xs) ≡ Reading.refused (read_head v xs).reply ∷ []
unfolding read_strip handed_by
strip_refused v xs n = rw (ne_eqb (read_head v xs).reply done n, ne_eqb (read_head v xs).reply done n)

strip_taken : (v : Version) (xs : List ℕ) → (read_head v xs).reply ≡ done
    → handed_by (read_strip v xs) ≡ Reading.head (read_head v xs).head ∷ entries_there (length (drop (size (head_fields v)) xs)) v (drop (size (head_fields v)) xs)
unfolding read_strip handed_by entries_of
strip_taken v xs d = rw (eq-eqb (read_head v xs).reply done d, eq-eqb (read_head v xs).reply done d)

head_end : (r : Reader) → Ready r → r.stage ≡ Reading.at_head → joins (Reading.finished r) [] ≡ Reading.refused cut ∷ []
unfolding joins Reading.finished Reading.is_more
head_end r h s = rw (passing r h (omega arith), s)

-- a reader that waits on with one byte more of the head
head_waits : (r : Reader) (b : ℕ) → Ready r → (head_by r (bytes_of r ++ (b ∷ []))).reply ≡ cut → AtHead (with_byte r b Reading.at_head)
unfolding with_byte
head_waits r b h c =
    let xs = bytes_of r ++ (b ∷ []) in
    let short = head_cut_short (asked_by r xs) xs c in
    let one_more : length xs ≡ r.count + 1 = rw (length-append, length-take-le r.count r.held (omega (arith, h.long, h.space))) in
    record {
      ready = record { long = simp length-set h.long; space = omega (arith, longest (asked_by r xs)) };
      stage = refl;
      begun = ap (λ (ys : List ℕ). (head_by r ys).reply) (held_more r b h) ∙ c;
    }

head_byte : (r : Reader) (b : ℕ) (bs : List ℕ) → AtHead r → ((q : Reader) → AtHead q → out_of q bs ≡ handed_by (strip_by q (bytes_of q ++ bs)))
    → out_of r (b ∷ bs) ≡ handed_by (strip_by r (bytes_of r ++ (b ∷ bs)))
unfolding joins Reading.is_more emptied with_byte
head_byte r b bs a again = go (eqb (head_by r xs).reply cut) refl (eqb (head_by r xs).reply done) refl
  where
    xs : List ℕ
    xs = bytes_of r ++ (b ∷ [])

    v : Version
    v = asked_by r xs

    whole_is : handed_by (strip_by r (bytes_of r ++ (b ∷ bs))) ≡ handed_by (strip_by r (xs ++ bs))
    whole_is = ap (λ (ys : List ℕ). handed_by (strip_by r ys)) (regroup (bytes_of r) b bs)

    -- once the head is settled the whole strip is read in its version
    in_version_lem : ((head_by r xs).reply ≡ cut → ⊥) → handed_by (strip_by r (xs ++ bs)) ≡ handed_by (read_strip v (xs ++ bs))
    in_version_lem n = ap (λ (w : Version). handed_by (read_strip w (xs ++ bs))) (asked_settled r.any r.version xs bs n)

    go : (c : Bool) → eqb (head_by r xs).reply cut ≡ c → (d : Bool) → eqb (head_by r xs).reply done ≡ d → out_of r (b ∷ bs) ≡ handed_by (strip_by r (bytes_of r ++ (b ∷ bs)))
    go true c d e =
        let is_cut = eqb-true (head_by r xs).reply cut c in
        let same : bytes_of (with_byte r b Reading.at_head) ++ bs ≡ bytes_of r ++ (b ∷ bs) = ap (λ (ys : List ℕ). ys ++ bs) (held_more r b a.ready) ∙ sym (regroup (bytes_of r) b bs) in
        out_byte r b bs _ (head_more r b a.ready a.stage is_cut)
        ∙ again (with_byte r b Reading.at_head) (head_waits r b a.ready is_cut)
        ∙ ap (λ (ys : List ℕ). handed_by (strip_by r ys)) same
    go false c true e =
        let is-done = eqb-true (head_by r xs).reply done e in
        let not-cut = eqb-false (head_by r xs).reply cut c in
        let stays : read_head v (xs ++ bs) ≡ read_head v xs = head_settled v xs bs not-cut in
        let rest : drop (size (head_fields v)) (xs ++ bs) ≡ bs = drop_at xs bs (size (head_fields v)) (sym (head_ends v (bytes_of r) b (asked_before r.any r.version (bytes_of r) (b ∷ []) a.begun) is-done)) in
        let here = emptied_records v v r b a.ready refl in
        out_byte r b bs _ (head_done r b a.ready a.stage is-done)
        ∙ ap (λ (w : Version). Reading.head (head_by r xs).head ∷ out_of (emptied r b Reading.at_records w) bs) (read_version v xs is-done)
        ∙ ap (λ (out : List Reading.Handed). Reading.head (read_head v xs).head ∷ out) (records_out v bs (emptied r b Reading.at_records v) here (length bs) (omega arith))
        ∙ sym
        (whole_is
        ∙ in_version_lem not-cut
        ∙ strip_taken v (xs ++ bs) (ap (λ (x : HeadRead). x.reply) stays ∙ is-done)
        ∙ rw (stays, rest) refl)
    go false c false e =
        let not-cut = eqb-false (head_by r xs).reply cut c in
        let not_done = eqb-false (head_by r xs).reply done e in
        let stays : read_head v (xs ++ bs) ≡ read_head v xs = head_settled v xs bs not-cut in
        out_byte r b bs _ (head_refused r b a.ready a.stage not-cut not_done)
        ∙ ap (λ (out : List Reading.Handed). Reading.refused (head_by r xs).reply ∷ out)
        (out_silent (emptied r b Reading.over r.version) bs (emptied_ready r b Reading.over r.version a.ready) refl)
        ∙ sym
        (whole_is
        ∙ in_version_lem not-cut
        ∙ strip_refused v (xs ++ bs) (λ d. not_done (sym (ap (λ (x : HeadRead). x.reply) stays) ∙ d))
        ∙ ap (λ (x : HeadRead). Reading.refused x.reply ∷ []) stays)

head_out : (bytes : List ℕ) (r : Reader) → AtHead r → out_of r bytes ≡ handed_by (strip_by r (bytes_of r ++ bytes))
unfolding feed
head_out [] r a =
    let held = append-nil (bytes_of r) in
    head_end r a.ready a.stage
    ∙ sym
    (ap (λ (xs : List ℕ). handed_by (strip_by r xs)) held
    ∙ strip_refused (asked_by r (bytes_of r)) (bytes_of r) (λ d. omega (arith, sym d ∙ a.begun))
    ∙ ap (λ (n : ℕ). Reading.refused n ∷ []) a.begun)
head_out (b ∷ bs) r a = head_byte r b bs a (head_out bs)

-- a new reader is at the head
begun_head : (any : Bool) (v : Version) → AtHead (Reading.begun any v)
unfolding Reading.begun read_head
begun_head any v = record { ready = record { long = refl; space = omega arith }; stage = refl; begun = refl }

-- What comes out of a strip's bytes, and of its end, is what the strip has, in the version that is asked for;
pub whole_out : (any : Bool) (v : Version) (strip : List ℕ) → out_of (Reading.begun any v) strip ≡ handed_by (read_strip (Reading.asked any v strip) strip)
unfolding Reading.begun
whole_out any v strip = head_out strip (Reading.begun any v) (begun_head any v)

-- and so it is whatever the cutting into blocks.
pub any_cutting : (any : Bool) (v : Version) (blocks : List (List ℕ))
    → handed_out (Reading.begun any v) blocks ≡ handed_by (read_strip (Reading.asked any v (whole blocks)) (whole blocks))
unfolding handed_out
any_cutting any v blocks = ap ended_by (feed_blocks_lem (Reading.begun any v) blocks) ∙ whole_out any v (whole blocks)
