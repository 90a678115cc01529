-- The theorems on carrying: what is carried reads back, there and back gives the same bytes, exactly which strips are carried, how long they are, and what is
-- refused first. Laws.
-- Assumes nothing.
use Rattle.std.specs.Prelude.{◌≡◌, ℕ, suc, ◌+◌, ◌*◌, ◌<◌, ◌≤◌, Bool, true, false, cond, List, [], ◌∷◌, ◌++◌, length, take, drop, ◌==◌, nat_le}
use Rattle.std.proofs.Math.Path.{refl, ap, subst}
use Rattle.std.proofs.Common.{sym, ◌∙◌, add-zero, arith, take_at, drop_at}
use borrow.Author.Tests.{leb-true, le-leb, lt-leb, eqb-true, eqb-false, eq-eqb, ne_eqb}
use Rattle.std.proofs.Math.Seq.{take-append_seam}
use Rattle.lists.specs.Each.{Each, each_take, each_so}
use Rattle.units.specs.Replies.{done, bad_version, no_room, unsaid}
use Rattle.units.specs.Output.{Put, put}
use Rattle.strip_format.specs.Fields.{number_at}
use Rattle.strip_format.specs.Format.{in_version, number_of, Entry, gap, strip_bytes}
use Rattle.strip_format.specs.Calls.{head_refusal, refused_head}
use Rattle.strip_format.specs.Whole.{Strip, read_strip, refused_number}
use Rattle.strip_format.specs.Laws.Fields.{Bytes}
use Rattle.strip_format.specs.Laws.Heads.{held_in}
use Rattle.strip_format.specs.Laws.Refusals.{head_other_version}
use Rattle.strip_format.specs.Laws.Steps.{put_refused, put_done}
use Rattle.strip_format.specs.Laws.Whole.{Accepted, strip_back, strip_rewrites}
use Rattle.strip_format.specs.declared.Head.{Head}
use Rattle.strip_format.specs.declared.Version.{Version}
use Rattle.strip_format.specs.declared.Version.TheVariants.{One, Two}
use Rattle.strip_carry.specs.Carry.{other, says_head, says_entry, entries_said, strip_said, judged, carried_bytes, carried_to, carried, carried_out}
use Rattle.strip_carry.specs.Laws.Tally.{judged_read, judged_whole}
use Rattle.strip_carry.specs.Laws.Said.{head_said, gap_said, own_version, own_said, said_accepted, entries_accepted, head_accepted, head_version, head_held, Said, judged-exactly, says_all_up}
use Rattle.strip_carry.specs.Laws.Sizes.{figures_in, gaps_in, IsFigures, entries_length, figures_length, all_figures_said, figures_in_one, figures_carried_back, whole_length, carried_length}

-- ---- what is carried reads back
-- What a version accepts and another one says is accepted there too.
pub accepted_in : (v w : Version) (es : List Entry) → Each (Accepted v) es → Each (λ (e : Entry). says_entry w e ≡ true) es → Each (Accepted w) es
unfolding Each
accepted_in v w [] a s = tt
accepted_in v w (e ∷ es) a s = (said_accepted v w e a.0 s.0, accepted_in v w es a.1 s.1)

-- What a strip is carried to reads back, in the other version, to the same head and the same records.
pub reads_back : (v : Version) (strip : List ℕ) → (judged v strip).reply ≡ done
    → read_strip (other v) (carried_bytes v strip)
    ≡ record { head = record { reply = done; head = in_version (other v) (read_strip v strip).head.head }; entries = (read_strip v strip).entries; reply = done }
unfolding carried_bytes in_version says_head
reads_back v strip d =
    let h = (read_strip v strip).head.head in
    let es = (read_strip v strip).entries in
    let s = (judged-exactly v strip).0 d in
    strip_back (in_version (other v) h) es (held_in (other v) h (head_held v strip s.0)) (eqb-true (head_refusal (in_version (other v) h)) done s.1.head)
    (accepted_in v (other v) es (entries_accepted v strip) s.1.records)

-- two strips were read whole, and have the same threshold, samples, settings and records
pub record Alike (a b : Strip) : Type 0 where
  pub first : a.reply ≡ done
  pub second : b.reply ≡ done
  pub threshold : a.head.head.threshold ≡ b.head.head.threshold
  pub samples : a.head.head.samples ≡ b.head.head.samples
  pub settings : a.head.head.settings ≡ b.head.head.settings
  pub entries : a.entries ≡ b.entries

-- What a strip is carried to has the same threshold, samples, settings and records.
pub carried_alike : (v : Version) (strip : List ℕ) → (judged v strip).reply ≡ done → Alike (read_strip v strip) (read_strip (other v) (carried_bytes v strip))
unfolding in_version
carried_alike v strip d =
    let e = sym (reads_back v strip d) in
    record {
      first = judged_read v strip d;
      second = sym (ap (λ (s : Strip). s.reply) e);
      threshold = ap (λ (s : Strip). s.head.head.threshold) e;
      samples = ap (λ (s : Strip). s.head.head.samples) e;
      settings = ap (λ (s : Strip). s.head.head.settings) e;
      entries = ap (λ (s : Strip). s.entries) e;
    }

-- ---- there and back
other_other : (v : Version) → other (other v) ≡ v
other_other One = refl
other_other Two = refl

module _ (v : Version) (strip : List ℕ) (d : (judged v strip).reply ≡ done) where
  read : Strip
  read = read_strip v strip

  again : Strip
  again = read_strip (other v) (carried_bytes v strip)

  -- the head that comes back is the strip's own
  own_head : in_version (other (other v)) again.head.head ≡ read.head.head
  unfolding read again in_version
  own_head =
      ap (λ (s : Strip). in_version (other (other v)) s.head.head) (reads_back v strip d)
      ∙ ap (λ (w : Version). in_version w read.head.head) (other_other v)
      ∙ own_version v read.head.head (head_version v strip (judged_read v strip d))

  said_again : Said (other (other v)) again.head.head again.entries
  unfolding read again says_head
  said_again =
      record {
        head = eq-eqb (head_refusal (in_version (other (other v)) again.head.head)) done (ap head_refusal own_head ∙ head_accepted v strip (judged_read v strip d));
        records =
            subst (λ (w : Version). Each (λ (e : Entry). says_entry w e ≡ true) again.entries) (sym (other_other v))
            (subst (λ (es : List Entry). Each (λ (e : Entry). says_entry v e ≡ true) es) (carried_alike v strip d).entries
            (each_so (Accepted v) (λ (e : Entry). says_entry v e ≡ true) (own_said v) read.entries (entries_accepted v strip)));
      }

  comes_back : (judged (other v) (carried_bytes v strip)).reply ≡ done
  unfolding again
  comes_back = (judged-exactly (other v) (carried_bytes v strip)).1 ((carried_alike v strip d).second, said_again)

  same_bytes : Bytes strip → carried_bytes (other v) (carried_bytes v strip) ≡ strip
  unfolding carried_bytes read again
  same_bytes b =
      ap (λ (h : Head). strip_bytes h again.entries) own_head
      ∙ ap (strip_bytes read.head.head) (sym (carried_alike v strip d).entries)
      ∙ strip_rewrites v strip b (judged_read v strip d)

-- What a strip is carried to can be carried back, and gives the same bytes: up and back, and back and up.
pub there_and_back : (v : Version) (strip : List ℕ) → Bytes strip → (judged v strip).reply ≡ done
    → ((judged (other v) (carried_bytes v strip)).reply ≡ done) × (carried_bytes (other v) (carried_bytes v strip) ≡ strip)
there_and_back v strip b d = (comes_back v strip d, same_bytes v strip d b)

-- ---- the calls
-- bytes are put exactly where nothing is refused and there is room
put_exactly : (n : ℕ) (bytes out : List ℕ)
    → ((put n bytes out).reply ≡ done → (n ≡ done) × (length bytes ≤ length out)) × ((n ≡ done) × (length bytes ≤ length out) → (put n bytes out).reply ≡ done)
unfolding put
put_exactly n bytes out = (go (n == done) refl (nat_le (length bytes) (length out)) refl, λ h. rw (h.0, le-leb (length bytes) (length out) h.1))
  where
    go : (a : Bool) → (n == done) ≡ a → (b : Bool) → nat_le (length bytes) (length out) ≡ b → cond a (cond b done no_room) n ≡ done
        → (n ≡ done) × (length bytes ≤ length out)
    go true p true q h = (eqb-true n done p, leb-true (length bytes) (length out) q)
    go true p false q h = absurd (omega arith)
    go false p b q h = absurd (eqb-false n done p h)

-- what a call put into a buffer
abbrev pub put_out : Version → List ℕ → List ℕ → List ℕ
put_out v strip out = take (carried v strip out).length (carried_out v strip out)

module _ (v : Version) (strip out : List ℕ) where
  -- A strip is put into a buffer exactly where it can be carried and there is room.
  pub carried-exactly :
      ((carried v strip out).reply ≡ done → ((judged v strip).reply ≡ done) × (length (carried_bytes v strip) ≤ length out))
      × (((judged v strip).reply ≡ done) × (length (carried_bytes v strip) ≤ length out) → (carried v strip out).reply ≡ done)
  unfolding carried carried_to
  carried-exactly = put_exactly (judged v strip).reply (carried_bytes v strip) out

  module _ (d : (carried v strip out).reply ≡ done) where
    -- What was put is as long as the carried strip,
    pub length_put : (carried v strip out).length ≡ length (carried_bytes v strip)
    unfolding carried
    length_put = rw (eq-eqb (carried_to v strip out).reply done d)

    -- stands at the buffer's start,
    pub out_put : carried_out v strip out ≡ carried_bytes v strip ++ drop (length (carried_bytes v strip)) out
    unfolding carried carried_out carried_to
    out_put = (put_done (judged v strip).reply (carried_bytes v strip) out d).1

    -- and is the carried strip;
    pub put_is : put_out v strip out ≡ carried_bytes v strip
    put_is =
        rw (length_put, out_put)
        (take_at (carried_bytes v strip) (drop (length (carried_bytes v strip)) out) (length (carried_bytes v strip)) refl)

    -- the bytes after it stay.
    pub rest_stays : drop (carried v strip out).length (carried_out v strip out) ≡ drop (carried v strip out).length out
    rest_stays =
        rw (length_put, out_put)
        (drop_at (carried_bytes v strip) (drop (length (carried_bytes v strip)) out) (length (carried_bytes v strip)) refl)

-- A strip that was carried, and back into a buffer that has room for it, is the same bytes.
pub carried_back : (v : Version) (strip out back : List ℕ) → Bytes strip → (carried v strip out).reply ≡ done → length strip ≤ length back
    → ((carried (other v) (put_out v strip out) back).reply ≡ done) × ((carried (other v) (put_out v strip out) back).length ≡ length strip)
    × (carried_out (other v) (put_out v strip out) back ≡ strip ++ drop (length strip) back)
carried_back v strip out back b d room =
    rw (put_is v strip out d) (
      done_back,
      length_put (other v) there back done_back ∙ ap length same,
      out_put (other v) there back done_back ∙ ap (λ (l : List ℕ). l ++ drop (length l) back) same,
    )
  where
    there : List ℕ
    there = carried_bytes v strip

    both : ((judged (other v) there).reply ≡ done) × (carried_bytes (other v) there ≡ strip)
    both = there_and_back v strip b ((carried-exactly v strip out).0 d).0

    same : carried_bytes (other v) there ≡ strip
    same = both.1

    done_back : (carried (other v) there back).reply ≡ done
    done_back = (carried-exactly (other v) there back).1 (both.0, subst (λ (l : List ℕ). length l ≤ length back) (sym same) room)

-- ---- how long strips are
-- A strip of version 2 that is read whole has 27 bytes, 22 for each of its figures and 2 for each gap;
pub size_in_two : (strip : List ℕ) → Bytes strip → (read_strip Two strip).reply ≡ done
    → length strip ≡ 27 + 22 * figures_in (read_strip Two strip).entries + 2 * gaps_in (read_strip Two strip).entries
size_in_two strip b e = omega (arith, whole_length Two strip b e, entries_length (read_strip Two strip).entries)

-- and one of version 1 has 26, and 22 for each of its records, which are all figures.
pub size_in_one : (strip : List ℕ) → Bytes strip → (read_strip One strip).reply ≡ done
    → Each IsFigures (read_strip One strip).entries × (length strip ≡ 26 + 22 * length (read_strip One strip).entries)
size_in_one strip b e =
    (figures_in_one strip, omega (arith, whole_length One strip b e, figures_length (read_strip One strip).entries (figures_in_one strip)))

-- What a strip of version 1 is carried to has 27 bytes, and 22 for each of its records;
pub size_up : (strip : List ℕ) → length (carried_bytes One strip) ≡ 27 + 22 * length (read_strip One strip).entries
size_up strip = omega (arith, carried_length One strip, figures_length (read_strip One strip).entries (figures_in_one strip))

-- and what one of version 2 is carried to, where it can be, has 26, and 22 for each of its records.
pub size_back : (strip : List ℕ) → (judged Two strip).reply ≡ done → length (carried_bytes Two strip) ≡ 26 + 22 * length (read_strip Two strip).entries
size_back strip d = omega (arith, carried_length Two strip, figures_length (read_strip Two strip).entries (figures_carried_back strip d))

-- ---- exactly which strips are carried
-- a strip of version 1 is read whole, and a buffer has room for it in version 2
pub record GoesUp (strip out : List ℕ) : Type 0 where
  pub whole : (read_strip One strip).reply ≡ done
  pub room : 27 + 22 * length (read_strip One strip).entries ≤ length out

-- a strip of version 2 is read whole, its threshold is at most 200, none of its records is a gap, and a buffer has room for it in version 1
pub record GoesBack (strip out : List ℕ) : Type 0 where
  pub whole : (read_strip Two strip).reply ≡ done
  pub threshold : (read_strip Two strip).head.head.threshold ≤ 200
  pub figures : Each IsFigures (read_strip Two strip).entries
  pub room : 26 + 22 * length (read_strip Two strip).entries ≤ length out

module _ (strip out : List ℕ) where
  -- A strip is carried up exactly where it is of version 1, read whole, and has room.
  pub up_exactly : ((carried One strip out).reply ≡ done → GoesUp strip out) × (GoesUp strip out → (carried One strip out).reply ≡ done)
  up_exactly = (only, every)
    where
      only : (carried One strip out).reply ≡ done → GoesUp strip out
      only d =
          let c = (carried-exactly One strip out).0 d in
          record { whole = judged_read One strip c.0; room = omega (arith, c.1, size_up strip) }

      every : GoesUp strip out → (carried One strip out).reply ≡ done
      every u = (carried-exactly One strip out).1 (says_all_up strip u.whole, omega (arith, u.room, size_up strip))

  -- A strip is carried back exactly where it is of version 2, read whole, of a threshold up to 200, without a gap, and has room.
  pub back_exactly : ((carried Two strip out).reply ≡ done → GoesBack strip out) × (GoesBack strip out → (carried Two strip out).reply ≡ done)
  back_exactly = (only, every)
    where
      h : Head
      h = (read_strip Two strip).head.head

      only : (carried Two strip out).reply ≡ done → GoesBack strip out
      only d =
          let c = (carried-exactly Two strip out).0 d in
          let s = (judged-exactly Two strip).0 c.0 in
          record {
            whole = s.0;
            threshold = omega (arith, leb-true h.threshold 200 (sym (head_said One h (head_accepted Two strip s.0)) ∙ s.1.head));
            figures = figures_carried_back strip c.0;
            room = omega (arith, c.1, size_back strip c.0);
          }

      every : GoesBack strip out → (carried Two strip out).reply ≡ done
      every k =
          let j : (judged Two strip).reply ≡ done =
          (judged-exactly Two strip).1 (
            k.whole,
            record {
              head = head_said One h (head_accepted Two strip k.whole) ∙ le-leb h.threshold 200 (omega (arith, k.threshold));
              records = all_figures_said Two One (read_strip Two strip).entries (entries_accepted Two strip) k.figures;
            },
          ) in
          (carried-exactly Two strip out).1 (j, omega (arith, k.room, size_back strip j))

-- ---- up then back, and back then up
-- A strip of version 1 that was carried up is carried back to the same bytes.
pub up_then_back : (strip out back : List ℕ) → Bytes strip → GoesUp strip out → length strip ≤ length back
    → ((carried Two (put_out One strip out) back).reply ≡ done) × ((carried Two (put_out One strip out) back).length ≡ length strip)
    × (carried_out Two (put_out One strip out) back ≡ strip ++ drop (length strip) back)
up_then_back strip out back b u room = carried_back One strip out back b ((up_exactly strip out).1 u) room

-- A strip of version 2 that was carried back is carried up to the same bytes.
pub back_then_up : (strip out up : List ℕ) → Bytes strip → GoesBack strip out → length strip ≤ length up
    → ((carried One (put_out Two strip out) up).reply ≡ done) × ((carried One (put_out Two strip out) up).length ≡ length strip)
    × (carried_out One (put_out Two strip out) up ≡ strip ++ drop (length strip) up)
back_then_up strip out up b k room = carried_back Two strip out up b ((back_exactly strip out).1 k) room

-- ---- what is refused
module _ (v : Version) (strip out : List ℕ) where
  -- Where a call refuses, the buffer stays, and the length is 0.
  pub refused_changes_nothing : ((carried v strip out).reply ≡ done → ⊥) → (carried_out v strip out ≡ out) × ((carried v strip out).length ≡ 0)
  unfolding carried carried_out carried_to put
  refused_changes_nothing n = (rw (ne_eqb (carried_to v strip out).reply done n), rw (ne_eqb (carried_to v strip out).reply done n))

  -- what is refused for something else than the room is refused with that
  refused_with : ((judged v strip).reply ≡ done → ⊥) → (carried v strip out).reply ≡ (judged v strip).reply
  unfolding carried carried_to
  refused_with n = ap (λ (p : Put). p.reply) (put_refused (judged v strip).reply (carried_bytes v strip) out n)

  -- The number is that of the strip, whatever the room.
  pub number_is : (carried v strip out).number ≡ (judged v strip).number
  unfolding carried
  number_is = refl

  -- The strip's own refusal comes first, with its record, whatever cannot be said and whatever the room;
  pub own_first : ((read_strip v strip).reply ≡ done → ⊥)
      → ((carried v strip out).reply ≡ (read_strip v strip).reply) × ((carried v strip out).number ≡ refused_number (read_strip v strip))
  unfolding judged
  own_first n =
      let e = ne_eqb (read_strip v strip).reply done n in
      (refused_with (λ d. n (judged_read v strip d)) ∙ rw e, number_is ∙ rw e)

  -- what cannot be said comes before the room;
  pub unsaid_before_room : (judged v strip).reply ≡ unsaid → (carried v strip out).reply ≡ unsaid
  unsaid_before_room u = refused_with (λ d. omega (arith, sym d ∙ u)) ∙ u

  -- and the room comes last.
  pub room_last : (judged v strip).reply ≡ done → length out < length (carried_bytes v strip) → (carried v strip out).reply ≡ no_room
  unfolding carried carried_to put
  room_last d l = rw (d, lt-leb (length (carried_bytes v strip)) (length out) l)

  -- "7 also for a strip that is not of the version the tool starts from"
  pub other_version : 3 ≤ length strip → (number_at strip 2 1 ≡ number_of v → ⊥) → ((carried v strip out).reply ≡ bad_version) × ((carried v strip out).number ≡ 0)
  unfolding read_strip refused_head refused_number
  other_version l n = (first.0 ∙ ap (λ (s : Strip). s.reply) bad, first.1 ∙ none)
    where
      bad : read_strip v strip ≡ record { head = refused_head bad_version; entries = []; reply = bad_version }
      bad = rw (head_other_version v strip l n)

      first : ((carried v strip out).reply ≡ (read_strip v strip).reply) × ((carried v strip out).number ≡ refused_number (read_strip v strip))
      first = own_first (λ d. omega (arith, sym d ∙ ap (λ (s : Strip). s.reply) bad))

      none : refused_number (read_strip v strip) ≡ 0
      none = ap refused_number bad

-- ---- what version 1 cannot say
one_add : (n : ℕ) → 1 + n ≡ suc n
one_add n = omega arith

-- the first record that cannot be said has the number
first_unsaid : (w : Version) (n : ℕ) (front : List Entry) (e : Entry) (rest : List Entry) → Each (λ (x : Entry). says_entry w x ≡ true) front → says_entry w e ≡ false
    → entries_said w n (front ++ e ∷ rest) ≡ record { reply = unsaid; number = n + length front }
unfolding entries_said Each
first_unsaid w n [] e rest s u = rw (u, add-zero n)
first_unsaid w n (x ∷ front) e rest s u = rw (s.0, first_unsaid w (suc n) front e rest s.1 u) (ap (λ (k : ℕ). record { reply = unsaid; number = k }) (omega arith))

module _ (strip : List ℕ) (whole : (read_strip Two strip).reply ≡ done) where
  -- A threshold above 200 is refused with 9, and the number 0;
  pub threshold_unsaid : 200 < (read_strip Two strip).head.head.threshold → judged Two strip ≡ record { reply = unsaid; number = 0 }
  unfolding strip_said
  threshold_unsaid more =
      let h = (read_strip Two strip).head.head in
      judged_whole Two strip whole ∙ rw (head_said One h (head_accepted Two strip whole), lt-leb h.threshold 200 more)

  -- and otherwise the first gap is refused with 9, and its number.
  pub gap_unsaid : (read_strip Two strip).head.head.threshold ≤ 200 → (front rest : List Entry) → (read_strip Two strip).entries ≡ front ++ gap ∷ rest
      → Each IsFigures front → judged Two strip ≡ record { reply = unsaid; number = suc (length front) }
  unfolding strip_said
  gap_unsaid most front rest is all =
      let h = (read_strip Two strip).head.head in
      let a : Each (Accepted Two) (front ++ gap ∷ rest) = subst (Each (Accepted Two)) is (entries_accepted Two strip) in
      let b : Each (Accepted Two) front =
      subst (Each (Accepted Two)) (take-append_seam front (gap ∷ rest)) (each_take (Accepted Two) (length front) (front ++ gap ∷ rest) a) in
      judged_whole Two strip whole
      ∙ rw (head_said One h (head_accepted Two strip whole), le-leb h.threshold 200 most, is)
      (first_unsaid One 1 front gap rest (all_figures_said Two One front b all) (gap_said One) ∙ ap (λ (k : ℕ). record { reply = unsaid; number = k }) (one_add (length front)))
