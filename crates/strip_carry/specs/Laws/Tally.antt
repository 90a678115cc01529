-- What was tallied of a strip, one thing after the other, is what is told of the whole strip. Laws.
-- Assumes nothing.
use Rattle.std.specs.Prelude.{◌≡◌, ℕ, zero, suc, ◌+◌, ◌^◌, ◌<◌, ◌≤◌, Bool, true, false, cond, List, [], ◌∷◌, ◌++◌, length, drop, ◌==◌, ◌≢◌}
use Rattle.std.proofs.Math.Path.{refl}
use Rattle.std.proofs.Common.{sym, ap, subst, ◌∙◌, add-zero, add_assoc, mod-eq_of_lt, add-one, arith, length-append, length-drop}
use Rattle.std.proofs.Math.Nat.{zero-add}
use borrow.Author.Tests.{eqb-true, eqb-false, eq-eqb, ne_eqb}
use Rattle.units.specs.Replies.{done, unsaid}
use Rattle.strip_format.specs.Fields.{size}
use Rattle.strip_format.specs.Format.{in_version, head_fields, Entry, entry_size, head_bytes, entry_bytes, entries_bytes, strip_bytes}
use Rattle.strip_format.specs.Calls.{refused_record, ended, found, read_head}
use Rattle.strip_format.specs.Whole.{joined, behind, entries_in, entries_of, Strip, read_strip, refused_number}
use Rattle.strip_format.specs.Laws.Heads.{head_length_lem, head_stood}
use Rattle.strip_format.specs.Laws.Prefix.{entry_fits}
use Rattle.strip_format.specs.Laws.Whole.{entry_length, as_many, read_by, Seen, here, over, refused as barred, seen}
use Rattle.strip_format.specs.declared.Head.{Head}
use Rattle.strip_format.specs.declared.Version.{Version}
use Rattle.strip_format.specs.declared.Version.TheVariants.{One, Two}
use Rattle.strip_reader.specs.Reader.{Handed, more, head, entry, end, refused}
use Rattle.strip_reader.specs.Feeding.{ending, entries_then, handed_by}
use Rattle.strip_reader.specs.Telling.{Shown, unchanged, lines_of, desk_of}
use Rattle.strip_carry.specs.Carry.{other, says_head, says_entry, Verdict, entries_said, strip_said, judged, carried_bytes}
use Rattle.strip_carry.specs.Run.{after, at_start, said, not_said, passed_by, next, with_threshold, ended_with, shown, told}
use Rattle.strip_carry.specs.declared.Tally.{Tally}

-- Where nothing comes out of the reader nothing changes.
pub quiet : (t : Tally) → told t more ≡ unchanged t
unfolding told shown
quiet t = go t.more
  where
    go : (b : Bool) → cond b (unchanged t) (unchanged t) ≡ unchanged t
    go true = refl
    go false = refl

-- ---- no number rolls over
pub after_small : (n k : ℕ) → n + k < 2 ^ 64 → after n k ≡ n + k
after_small n k h = mod-eq_of_lt h

after_one : (n : ℕ) → n + 1 < 2 ^ 64 → after n 1 ≡ suc n
after_one n h = after_small n 1 h ∙ add-one n

-- The records that are read of bytes have no more bytes than those.
pub entries_fit : (most : ℕ) (v : Version) (bytes : List ℕ) → length (entries_bytes (entries_in most v bytes).entries) ≤ length bytes
unfolding entries_in joined behind found ended refused_record entries_bytes
entries_fit zero v bytes = omega arith
entries_fit (suc most) v bytes = go (entries_fit most v) (seen v bytes)
  where
    go : ((rest : List ℕ) → length (entries_bytes (entries_in most v rest).entries) ≤ length rest) → Seen v bytes
        → length (entries_bytes (entries_in (suc most) v bytes).entries) ≤ length bytes
    go again (here h) =
        let d = h.entry in
        let rest = drop (entry_size d) bytes in
        let fits : entry_size d ≤ length bytes = entry_fits v bytes d h.is in
        rw (h.is, length-append, entry_length d) (omega (arith, again rest, length-drop (entry_size d) bytes))
    go again (over o) = rw o.is (omega arith)
    go again (barred r) = rw r.is (omega arith)

-- ---- where nothing is refused no record is told
either : (b : Bool) (x y : Verdict) → (x.reply ≡ done → x.number ≡ 0) → (y.reply ≡ done → y.number ≡ 0)
    → (cond b x y).reply ≡ done → (cond b x y).number ≡ 0
either true x y p q = p
either false x y p q = q

entries_number : (v : Version) (n : ℕ) (es : List Entry) → (entries_said v n es).reply ≡ done → (entries_said v n es).number ≡ 0
unfolding entries_said
entries_number v n [] = λ h. refl
entries_number v n (e ∷ es) = either (says_entry v e) _ _ (entries_number v (suc n) es) (λ h. absurd (omega arith))

strip_number : (v : Version) (h : Head) (es : List Entry) → (strip_said v h es).reply ≡ done → (strip_said v h es).number ≡ 0
unfolding strip_said
strip_number v h es = either (says_head v h) _ _ (entries_number v _ es) (λ e. refl)

-- Only a strip that is read whole is carried.
pub judged_read : (v : Version) (strip : List ℕ) → (judged v strip).reply ≡ done → (read_strip v strip).reply ≡ done
unfolding judged
judged_read v strip = go ((read_strip v strip).reply == done) refl
  where
    s : Strip
    s = read_strip v strip

    go : (b : Bool) → (s.reply == done) ≡ b
        → (cond b (strip_said (other v) s.head.head s.entries) (record { reply = s.reply; number = refused_number s })).reply ≡ done → s.reply ≡ done
    go true p e = eqb-true s.reply done p
    go false p e = e

-- What is told of a strip that is read whole is what can be said of it.
pub judged_whole : (v : Version) (strip : List ℕ) → (read_strip v strip).reply ≡ done
    → judged v strip ≡ strip_said (other v) (read_strip v strip).head.head (read_strip v strip).entries
unfolding judged
judged_whole v strip e = rw (eq-eqb (read_strip v strip).reply done e)

-- A strip that can be carried is told with the number 0.
pub carried_number : (v : Version) (strip : List ℕ) → (judged v strip).reply ≡ done → (judged v strip).number ≡ 0
carried_number v strip d =
    let is = judged_whole v strip (judged_read v strip d) in
    ap (λ (w : Verdict). w.number) is
    ∙ strip_number (other v) (read_strip v strip).head.head (read_strip v strip).entries (sym (ap (λ (w : Verdict). w.reply) is) ∙ d)

-- ---- the tally at the strip's end
-- The last tally, and all that was put out: the strip's own reply, or what was found of it, and behind how many things; what was put out, and how long it is,
-- where all was said.
record Ends (reply : ℕ) (found : Verdict) (things threshold : ℕ) (bytes : List ℕ) (before : ℕ) (last : Tally) (lines : List ℕ) : Type 0 where
  more : last.more ≡ false
  answer : last.reply ≡ cond (reply == done) found.reply reply
  at : last.at ≡ cond (reply == done) found.number things
  number : last.number ≡ things
  same : last.threshold ≡ threshold
  put : found.reply ≡ done → lines ≡ bytes
  long : found.reply ≡ done → last.length ≡ before + length bytes

-- what a tally will tell of the records that are left: what they are, where all was said so far, and otherwise what stands
abbrev verdict : Tally → List Entry → Verdict
verdict t es = cond (t.reply == done) (entries_said t.to t.number es) (record { reply = t.reply; number = t.at })

-- a tally before so many records, which does not roll over
record Before (t : Tally) (es : List Entry) : Type 0 where
  more : t.more ≡ true
  none : t.reply ≡ done → t.at ≡ 0
  few : t.number + length es < 2 ^ 64
  short : t.length + length (entries_bytes es) < 2 ^ 64

passed : {A : Type 0} (b : Bool) (x y : A) → b ≡ true → cond b x y ≡ x
passed b x y e = rw e

-- a tally whose strip goes on
going : (t : Tally) (h : Handed) → t.more ≡ true → told t h ≡ shown t h
unfolding told
going t h m = passed t.more (shown t h) _ m

-- the strip's end: all that was found stands, where the strip itself is not refused
end_told : (n : ℕ) (t : Tally) → t.more ≡ true
    → told t (ending n)
    ≡ unchanged
    (record { to = t.to; number = t.number; more = false; reply = cond (n == done) t.reply n; at = cond (n == done) t.at t.number; threshold = t.threshold; length = t.length })
unfolding ending shown ended_with
end_told n t m = going t (ending n) m ∙ go (n == done)
  where
    go : (b : Bool)
        → shown t (cond b end (refused n))
        ≡ unchanged
        (record { to = t.to; number = t.number; more = false; reply = cond b t.reply n; at = cond b t.at t.number; threshold = t.threshold; length = t.length })
    go true = refl
    go false = refl

none_left : (t : Tally) → Before t [] → verdict t [] ≡ record { reply = t.reply; number = t.at }
unfolding entries_said
none_left t b = go (t.reply == done) refl
  where
    stands : Verdict
    stands = record { reply = t.reply; number = t.at }

    go : (d : Bool) → (t.reply == done) ≡ d → cond d (record { reply = done; number = 0 }) stands ≡ stands
    go true e = rw (b.none (eqb-true t.reply done e), eqb-true t.reply done e)
    go false e = refl

tallied_none : (n : ℕ) (t : Tally) → Before t []
    → Ends n (verdict t []) (t.number + 0) t.threshold [] t.length (desk_of told t (ending n ∷ [])) (lines_of told t (ending n ∷ []))
unfolding desk_of lines_of
tallied_none n t b =
    subst (λ (x : Shown Tally). Ends n (verdict t []) (t.number + 0) t.threshold [] t.length x.desk (x.line ++ [])) (sym (end_told n t b.more))
    (rw (none_left t b, add-zero t.number)
    (record { more = refl; answer = refl; at = refl; number = refl; same = refl; put = λ e. refl; long = λ e. sym (add-zero t.length) }))

-- one thing, and then the records that are left
onward : (n : ℕ) (found : Verdict) (t : Tally) (a : Handed) (front : List ℕ) (es : List Entry) (x : Shown Tally)
    → told t a ≡ x → verdict x.desk es ≡ found → x.desk.number ≡ suc t.number
    → (found.reply ≡ done → (x.line ≡ front) × (x.desk.length ≡ t.length + length front))
    → Ends n (verdict x.desk es) (x.desk.number + length es) x.desk.threshold (entries_bytes es) x.desk.length
    (desk_of told x.desk (entries_then es (ending n))) (lines_of told x.desk (entries_then es (ending n)))
    → Ends n found (t.number + suc (length es)) x.desk.threshold (front ++ entries_bytes es) t.length
    (desk_of told t (a ∷ entries_then es (ending n))) (lines_of told t (a ∷ entries_then es (ending n)))
unfolding desk_of lines_of
onward n found t a front es x e f g p r =
    let things : x.desk.number + length es ≡ t.number + suc (length es) = omega arith in
    subst
    (λ (y : Shown Tally). Ends n found (t.number + suc (length es)) x.desk.threshold (front ++ entries_bytes es) t.length
    (desk_of told y.desk (entries_then es (ending n))) (y.line ++ lines_of told y.desk (entries_then es (ending n)))) (sym e)
    (record {
      more = r.more;
      answer = r.answer ∙ ap (λ (w : Verdict). cond (n == done) w.reply n) f;
      at = r.at ∙ ap (λ (w : Verdict). cond (n == done) w.number (x.desk.number + length es)) f ∙ ap (λ (k : ℕ). cond (n == done) found.number k) things;
      number = r.number ∙ things;
      same = r.same;
      put = λ d. rw ((p d).0, r.put (ap (λ (w : Verdict). w.reply) f ∙ d));
      long =
          λ d.
          r.long (ap (λ (w : Verdict). w.reply) f ∙ d)
          ∙ rw ((p d).1, length-append front (entries_bytes es)) (add_assoc t.length (length front) (length (entries_bytes es)));
    })

-- a record that can be said, where all was said so far; one that cannot; and one behind such
module _ (t : Tally) (e : Entry) (m : t.more ≡ true) (few : t.number + 1 < 2 ^ 64) where
  entry_said : t.reply ≡ done → says_entry t.to e ≡ true → t.length + length (entry_bytes e) < 2 ^ 64
      → told t (entry e)
      ≡ record {
        desk = record { to = t.to; number = suc t.number; more = true; reply = t.reply; at = t.at; threshold = t.threshold; length = t.length + length (entry_bytes e) };
        line = entry_bytes e;
      }
  unfolding shown next said
  entry_said d s l = going t (entry e) m ∙ rw (eq-eqb t.reply done d, s, after_one t.number few, after_small t.length (length (entry_bytes e)) l)

  entry_not_said : t.reply ≡ done → says_entry t.to e ≡ false
      → told t (entry e) ≡ unchanged (record { to = t.to; number = suc t.number; more = true; reply = unsaid; at = t.number; threshold = t.threshold; length = t.length })
  unfolding shown next not_said
  entry_not_said d s = going t (entry e) m ∙ rw (eq-eqb t.reply done d, s, after_one t.number few)

  entry_passed : (t.reply ≢ done)
      → told t (entry e) ≡ unchanged (record { to = t.to; number = suc t.number; more = true; reply = t.reply; at = t.at; threshold = t.threshold; length = t.length })
  unfolding shown next passed_by
  entry_passed d = going t (entry e) m ∙ rw (ne_eqb t.reply done d, after_one t.number few)

-- The records that are left, and the strip's end.
tallied_entries : (n : ℕ) (es : List Entry) (t : Tally) → Before t es
    → Ends n (verdict t es) (t.number + length es) t.threshold (entries_bytes es) t.length
    (desk_of told t (entries_then es (ending n))) (lines_of told t (entries_then es (ending n)))
unfolding entries_then entries_bytes entries_said
tallied_entries n [] t b = tallied_none n t b
tallied_entries n (e ∷ es) t b = go (tallied_entries n es) (t.reply == done) refl (says_entry t.to e) refl
  where
    few : t.number + 1 < 2 ^ 64
    few = omega (arith, b.few)

    both : length (entry_bytes e ++ entries_bytes es) ≡ length (entry_bytes e) + length (entries_bytes es)
    both = length-append (entry_bytes e) (entries_bytes es)

    go : ((u : Tally) → Before u es
        → Ends n (verdict u es) (u.number + length es) u.threshold (entries_bytes es) u.length
        (desk_of told u (entries_then es (ending n))) (lines_of told u (entries_then es (ending n))))
        → (d : Bool) → (t.reply == done) ≡ d → (s : Bool) → says_entry t.to e ≡ s
        → Ends n (verdict t (e ∷ es)) (t.number + suc (length es)) t.threshold (entry_bytes e ++ entries_bytes es) t.length
        (desk_of told t (entry e ∷ entries_then es (ending n))) (lines_of told t (entry e ∷ entries_then es (ending n)))
    go again true d true s =
        let y = eqb-true t.reply done d in
        let u : Tally = record { to = t.to; number = suc t.number; more = true; reply = t.reply; at = t.at; threshold = t.threshold; length = t.length + length (entry_bytes e) } in
        onward n (verdict t (e ∷ es)) t (entry e) (entry_bytes e) es (record { desk = u; line = entry_bytes e })
        (entry_said t e b.more few y s (omega (arith, b.short, both))) (rw s) refl (λ z. (refl, refl))
        (again u (record { more = refl; none = b.none; few = omega (arith, b.few); short = omega (arith, b.short, both) }))
    go again true d false s =
        let y = eqb-true t.reply done d in
        let u : Tally = record { to = t.to; number = suc t.number; more = true; reply = unsaid; at = t.number; threshold = t.threshold; length = t.length } in
        onward n (verdict t (e ∷ es)) t (entry e) (entry_bytes e) es (unchanged u)
        (entry_not_said t e b.more few y s) (rw (d, s)) refl (λ z. absurd (omega (arith, rw (d, s) at z)))
        (again u (record { more = refl; none = λ z. absurd (omega arith); few = omega (arith, b.few); short = omega (arith, b.short, both) }))
    go again false d s q =
        let y = eqb-false t.reply done d in
        let u : Tally = record { to = t.to; number = suc t.number; more = true; reply = t.reply; at = t.at; threshold = t.threshold; length = t.length } in
        onward n (verdict t (e ∷ es)) t (entry e) (entry_bytes e) es (unchanged u)
        (entry_passed t e b.more few y) (rw d) refl (λ z. absurd (y (rw d at z)))
        (again u (record { more = refl; none = b.none; few = omega (arith, b.few); short = omega (arith, b.short, both) }))

-- ---- the head
most_head : (v : Version) → size (head_fields v) ≤ 27
most_head One = omega arith
most_head Two = omega arith

-- the head and the records that are read of a strip are no longer than it
strip_fits : (v : Version) (strip : List ℕ) → (read_strip v strip).head.reply ≡ done
    → size (head_fields v) + length (entries_bytes (read_strip v strip).entries) ≤ length strip
unfolding read_strip entries_of
strip_fits v strip = go ((read_head v strip).reply == done) refl
  where
    rest : List ℕ
    rest = drop (size (head_fields v)) strip

    go : (b : Bool) → ((read_head v strip).reply == done) ≡ b → (read_by v strip b).head.reply ≡ done
        → size (head_fields v) + length (entries_bytes (read_by v strip b).entries) ≤ length strip
    go true p e =
        let whole : size (head_fields v) ≤ length strip = (head_stood v strip e).whole in
        omega (arith, entries_fit (length rest) v rest, length-drop (size (head_fields v)) strip)
    go false p e = absurd (eqb-false (read_head v strip).reply done p e)

tallied_head : (w : Version) (h : Head) (es : List Entry) (n : ℕ) → 1 + length es < 2 ^ 64 → size (head_fields w) + length (entries_bytes es) < 2 ^ 64
    → Ends n (strip_said w h es) (suc (length es)) h.threshold (strip_bytes (in_version w h) es) 0
    (desk_of told (at_start w) (head h ∷ entries_then es (ending n))) (lines_of told (at_start w) (head h ∷ entries_then es (ending n)))
unfolding at_start told shown next with_threshold said not_said strip_said strip_bytes in_version
tallied_head w h es n few short = go (says_head w h) refl
  where
    bytes : List ℕ
    bytes = head_bytes (in_version w h)

    long : length bytes ≡ size (head_fields w)
    long = head_length_lem (in_version w h)

    go : (b : Bool) → says_head w h ≡ b
        → Ends n (strip_said w h es) (suc (length es)) h.threshold (bytes ++ entries_bytes es) 0
        (desk_of told (at_start w) (head h ∷ entries_then es (ending n))) (lines_of told (at_start w) (head h ∷ entries_then es (ending n)))
    go true s =
        let u : Tally = record { to = w; number = 1; more = true; reply = done; at = 0; threshold = h.threshold; length = length bytes } in
        rw (← zero-add (suc (length es)))
        (onward n (strip_said w h es) (at_start w) (head h) bytes es (record { desk = u; line = bytes })
        (rw (s, after_small 0 (length bytes) (omega (arith, long)), zero-add (length bytes))) (rw s) refl (λ z. (refl, sym (zero-add (length bytes))))
        (tallied_entries n es u (record { more = refl; none = λ z. refl; few = few; short = rw long short })))
    go false s =
        let u : Tally = record { to = w; number = 1; more = true; reply = unsaid; at = 0; threshold = h.threshold; length = 0 } in
        rw (← zero-add (suc (length es)))
        (onward n (strip_said w h es) (at_start w) (head h) bytes es (unchanged u)
        (rw s) (rw s) refl (λ z. absurd (omega (arith, rw s at z)))
        (tallied_entries n es u (record { more = refl; none = λ z. absurd (omega arith); few = few; short = omega arith })))

-- ---- the whole strip
-- A tally and what was put out are those of a strip that was read to its end: its reply and the record that it is about are those of the whole strip; what was
-- put out is the carried strip, where there is one, and so long; and of a strip that was read whole they have its threshold, and how many things it has.
pub record Tallied (v : Version) (strip : List ℕ) (t : Tally) (lines : List ℕ) : Type 0 where
  pub over : t.more ≡ false
  pub reply : t.reply ≡ (judged v strip).reply
  pub at : t.at ≡ (judged v strip).number
  pub put : (judged v strip).reply ≡ done → lines ≡ carried_bytes v strip
  pub long : (judged v strip).reply ≡ done → t.length ≡ length (carried_bytes v strip)
  pub threshold : (read_strip v strip).reply ≡ done → t.threshold ≡ (read_strip v strip).head.head.threshold
  pub number : (read_strip v strip).reply ≡ done → t.number ≡ suc (length (read_strip v strip).entries)

-- A strip that is read whole has a head.
pub whole_head : (v : Version) (strip : List ℕ) → (read_strip v strip).reply ≡ done → (read_strip v strip).head.reply ≡ done
unfolding read_strip
whole_head v strip = go ((read_head v strip).reply == done) refl
  where
    go : (b : Bool) → ((read_head v strip).reply == done) ≡ b → (read_by v strip b).reply ≡ done → (read_by v strip b).head.reply ≡ done
    go true p e = eqb-true (read_head v strip).reply done p
    go false p e = e

-- a strip whose head is refused is refused with that
head_only : (v : Version) (strip : List ℕ) → ((read_strip v strip).head.reply ≡ done → ⊥) → (read_strip v strip).reply ≡ done → ⊥
head_only v strip n e = n (whole_head v strip e)

module _ (v : Version) (strip : List ℕ) where
  -- the tally at the end of a strip whose head is refused
  no_head_lem : ((read_strip v strip).head.reply ≡ done → ⊥)
      → Tallied v strip (desk_of told (at_start (other v)) (refused (read_strip v strip).reply ∷ [])) (lines_of told (at_start (other v)) (refused (read_strip v strip).reply ∷ []))
  unfolding desk_of lines_of told shown ended_with at_start judged refused_number
  no_head_lem n =
      let bad = head_only v strip n in
      record {
        over = refl;
        reply = rw (ne_eqb (read_strip v strip).reply done bad);
        at = rw (ne_eqb (read_strip v strip).reply done bad, ne_eqb (read_strip v strip).head.reply done n);
        put = λ e. absurd (bad (judged_read v strip e));
        long = λ e. absurd (bad (judged_read v strip e));
        threshold = λ e. absurd (bad e);
        number = λ e. absurd (bad e);
      }

  -- and of one whose head is read
  with_head : (read_strip v strip).head.reply ≡ done → (last : Tally) (lines : List ℕ)
      → Ends (read_strip v strip).reply (strip_said (other v) (read_strip v strip).head.head (read_strip v strip).entries) (suc (length (read_strip v strip).entries))
      (read_strip v strip).head.head.threshold (carried_bytes v strip) 0 last lines
      → Tallied v strip last lines
  unfolding judged refused_number
  with_head h last lines r =
      record {
        over = r.more;
        reply = r.answer ∙ answer ((read_strip v strip).reply == done);
        at = r.at ∙ place ((read_strip v strip).reply == done);
        put = λ e. r.put (found e);
        long = λ e. r.long (found e) ∙ zero-add (length (carried_bytes v strip));
        threshold = λ e. r.same;
        number = λ e. r.number;
      }
    where
      s : Strip
      s = read_strip v strip

      all : Verdict
      all = strip_said (other v) s.head.head s.entries

      found : (judged v strip).reply ≡ done → all.reply ≡ done
      found e = sym (ap (λ (w : Verdict). w.reply) (judged_whole v strip (judged_read v strip e))) ∙ e

      answer : (b : Bool) → cond b all.reply s.reply ≡ (cond b all (record { reply = s.reply; number = refused_number s })).reply
      answer true = refl
      answer false = refl

      place : (b : Bool) → cond b all.number (suc (length s.entries)) ≡ (cond b all (record { reply = s.reply; number = refused_number s })).number
      place true = refl
      place false = rw (eq-eqb s.head.reply done h)

  -- What is tallied of all that a strip hands out is what is told of the strip whole.
  pub tallied : length strip < 2 ^ 63
      → Tallied v strip (desk_of told (at_start (other v)) (handed_by (read_strip v strip))) (lines_of told (at_start (other v)) (handed_by (read_strip v strip)))
  unfolding handed_by carried_bytes
  tallied l = go ((read_strip v strip).head.reply == done) refl
    where
      s : Strip
      s = read_strip v strip

      go : (b : Bool) → (s.head.reply == done) ≡ b
          → Tallied v strip (desk_of told (at_start (other v)) (cond b (head s.head.head ∷ entries_then s.entries (ending s.reply)) (refused s.reply ∷ [])))
          (lines_of told (at_start (other v)) (cond b (head s.head.head ∷ entries_then s.entries (ending s.reply)) (refused s.reply ∷ [])))
      go true p =
          let h = eqb-true s.head.reply done p in
          let fits = strip_fits v strip h in
          with_head h (desk_of told (at_start (other v)) (head s.head.head ∷ entries_then s.entries (ending s.reply)))
          (lines_of told (at_start (other v)) (head s.head.head ∷ entries_then s.entries (ending s.reply)))
          (tallied_head (other v) s.head.head s.entries s.reply (omega (arith, as_many s.entries)) (omega (arith, most_head (other v))))
      go false p = no_head_lem (eqb-false s.head.reply done p)
