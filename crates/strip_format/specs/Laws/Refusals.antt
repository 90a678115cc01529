-- Each place of refusal is the paper's, for every string of bytes. Laws, a line of document 01 for each.
-- Assumes nothing.
use Rattle.std.specs.Prelude.{◌≡◌, refl, Bool, true, false, cond, List, ◌++◌, ℕ, ◌+◌, ◌≤◌, ◌<◌, eqb, length, drop}
use Rattle.std.proofs.Common.{sym, ◌∙◌, arith}
use borrow.Author.Tests.{lt-leb, le-leb, eqb-true, eq-eqb, ne_eqb, le-ltb, lt-ltb}
use Rattle.units.specs.Replies.{done, cut, bad_length, bad_version, no_room}
use Rattle.strip_format.specs.Fields.{size, number_at, fields_at}
use Rattle.strip_format.specs.Format.{number_of, head_fields, head_length, head_of, record_fields, record_length, figures_of, figures, gap}
use Rattle.units.specs.Output.{put}
use Rattle.strip_format.specs.Calls.{head_refusal, refused_head, judged_head, read_head, record_refusal, refused_record, ended, found, is_gap, judged_record, read_record}
use Rattle.strip_format.specs.Laws.Steps.{HeadThere, RecordThere, head_by_place, head_placed, record_by_place, no_gap_lem, record_placed}
use Rattle.units.specs.declared.figures.Figures.{Figures}
use Rattle.strip_format.specs.declared.Version.{Version}
use Rattle.strip_format.specs.declared.Head.{Head}

module _ (v : Version) (strip : List ℕ) where
  -- "fewer than 3 bytes 5"
  pub head_too_short : length strip < 3 → read_head v strip ≡ refused_head cut
  unfolding read_head
  head_too_short h = rw (lt-leb 3 (length strip) h)

  -- "version 7", whatever the length says
  pub head_other_version : 3 ≤ length strip → (number_at strip 2 1 ≡ number_of v → ⊥) → read_head v strip ≡ refused_head bad_version
  unfolding read_head
  head_other_version h n = rw (le-leb 3 (length strip) h, ne_eqb (number_at strip 2 1) (number_of v) n)

  -- "head length 6", whether or not the head is there whole
  pub head_wrong_length : 3 ≤ length strip → number_at strip 2 1 ≡ number_of v → (number_at strip 0 2 ≡ head_length v → ⊥)
      → read_head v strip ≡ refused_head bad_length
  unfolding read_head
  head_wrong_length h n l =
      rw (le-leb 3 (length strip) h, eq-eqb (number_at strip 2 1) (number_of v) n, ne_eqb (number_at strip 0 2) (head_length v) l)

  -- "cut 5"
  pub head_cut : 3 ≤ length strip → number_at strip 2 1 ≡ number_of v → number_at strip 0 2 ≡ head_length v → length strip < size (head_fields v)
      → read_head v strip ≡ refused_head cut
  unfolding read_head
  head_cut h n l c =
      rw (
        le-leb 3 (length strip) h,
        eq-eqb (number_at strip 2 1) (number_of v) n,
        eq-eqb (number_at strip 0 2) (head_length v) l,
        lt-leb (size (head_fields v)) (length strip) c,
      )

  -- "then 1, 4": a head that is there whole is refused as its numbers are
  pub head_judged : HeadThere v strip → read_head v strip ≡ judged_head (head_of v (fields_at (head_fields v) strip 0))
  head_judged t = head_by_place v strip ∙ rw (head_placed v strip t)

-- and where its numbers are not refused, it is the answer
pub judged_head_reply : (h : Head) → (judged_head h).reply ≡ head_refusal h
unfolding judged_head refused_head
judged_head_reply h = go (eqb (head_refusal h) done) refl
  where
    go : (b : Bool) → eqb (head_refusal h) done ≡ b
        → (cond b (record { reply = done; head = h }) (refused_head (head_refusal h))).reply ≡ head_refusal h
    go true e = sym (eqb-true (head_refusal h) done e)
    go false e = refl

module _ (v : Version) (strip : List ℕ) (at : ℕ) where
  -- "no byte, end": done, and no record
  pub record_none : length strip ≤ at → read_record v strip at ≡ ended
  unfolding read_record
  record_none h = rw (le-ltb at (length strip) h)

  -- "one byte 5"
  pub record_one_byte : at + 1 ≡ length strip → read_record v strip at ≡ refused_record cut
  unfolding read_record
  record_one_byte h = rw (lt-ltb at (length strip) (omega arith), lt-leb (at + 2) (length strip) (omega arith))

  -- a gap, where the version has them
  pub record_gap : at + 2 ≤ length strip → is_gap v (number_at strip at 2) ≡ true → read_record v strip at ≡ found gap
  unfolding read_record
  record_gap h g = rw (lt-ltb at (length strip) (omega arith), le-leb (at + 2) (length strip) h, g)

  -- "length 6", whether or not the record is there whole
  pub record_wrong_length : at + 2 ≤ length strip → is_gap v (number_at strip at 2) ≡ false → (number_at strip at 2 ≡ record_length → ⊥)
      → read_record v strip at ≡ refused_record bad_length
  unfolding read_record
  record_wrong_length h g n =
      rw (lt-ltb at (length strip) (omega arith), le-leb (at + 2) (length strip) h, g, ne_eqb (number_at strip at 2) record_length n)

  -- "cut 5"
  pub record_cut : at + 2 ≤ length strip → number_at strip at 2 ≡ record_length → length strip < at + size record_fields
      → read_record v strip at ≡ refused_record cut
  unfolding read_record
  record_cut h n c =
      rw (
        lt-ltb at (length strip) (omega arith),
        le-leb (at + 2) (length strip) h,
        no_gap_lem v (number_at strip at 2) n,
        eq-eqb (number_at strip at 2) record_length n,
        lt-leb (at + size record_fields) (length strip) c,
      )

  -- "then 2": a record that is there whole is refused as its figures are
  pub record_judged : RecordThere strip at → read_record v strip at ≡ judged_record (figures_of (fields_at record_fields strip at))
  record_judged t =
      let whole = t.whole in
      record_by_place v strip at (no_gap_lem v (number_at strip at 2) t.says) ∙ rw (lt-ltb at (length strip) (omega arith), record_placed strip at t)

-- and where its figures are not refused, they are the answer
pub judged_record_reply : (f : Figures) → (judged_record f).reply ≡ record_refusal f
unfolding judged_record refused_record found
judged_record_reply f = go (eqb (record_refusal f) done) refl
  where
    go : (b : Bool) → eqb (record_refusal f) done ≡ b
        → (cond b (found (figures f)) (refused_record (record_refusal f))).reply ≡ record_refusal f
    go true e = sym (eqb-true (record_refusal f) done e)
    go false e = refl

module _ (bytes out : List ℕ) where
  -- What is not refused is written where it fits, and the bytes after it stay.
  pub put_fits : length bytes ≤ length out → put done bytes out ≡ record { reply = done; out = bytes ++ drop (length bytes) out }
  unfolding put
  put_fits h = rw (le-leb (length bytes) (length out) h)

  -- "8 last": a buffer that is too short is not written, not even in part.
  pub put_too_short : length out < length bytes → put done bytes out ≡ record { reply = no_room; out = out }
  unfolding put
  put_too_short h = rw (lt-leb (length bytes) (length out) h)
