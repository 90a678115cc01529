-- Reading and writing, step by step: what the steps answer together is what `Calls` says. Laws.
-- Assumes nothing.
use Rattle.std.specs.Prelude.{◌≡◌, refl, Bool, true, false, ◌&&◌, cond, List, ◌++◌, ℕ, ◌+◌, ◌-◌, ◌≤◌, ◌<◌, eqb, leb, ltb, length, get_or, take, drop}
use Rattle.std.proofs.Common.{sym, ap, zero-add, arith, leb-true, leb-false, le-leb, eqb-true, eq-eqb, ne_eqb, take_at, drop-drop, drop_at}
use Rattle.std.proofs.lemmas.Bool.{lt-leb, eqb-false}
use Rattle.units.specs.Replies.{done, cut, bad_length, bad_version}
use Rattle.strip_format.specs.Fields.{size, number_at, fields_at}
use Rattle.strip_format.specs.Format.{number_of, has_gaps, head_fields, head_length, head_of, record_fields, record_length, gap_length, figures_of}
use Rattle.units.specs.Output.{put}
use Rattle.strip_format.specs.Calls.{Read, refused_head, judged_head, read_head, refused_record, judged_record, is_gap, ended, read_record}
use Rattle.strip_format.specs.Steps.{head_place, record_place}
use Rattle.strip_format.specs.declared.Version.{Version}

-- ---- versions
-- The third byte says the version.
pub third_byte : (strip : List ℕ) → number_at strip 2 1 ≡ get_or strip 2 0
unfolding number_at
third_byte strip = rw zero-add

-- ---- a head
-- Four tests one after the other, each with its own refusal: the first that fails says the number.
abbrev first : Bool → Bool → Bool → Bool → ℕ
first a b c d = cond a (cond b (cond c (cond d done cut) bad_length) bad_version) cut

nested : {X : Type 0} (f : ℕ → X) (x : X) (a b c d : Bool)
    → cond a (cond b (cond c (cond d x (f cut)) (f bad_length)) (f bad_version)) (f cut) ≡ cond (eqb (first a b c d) done) x (f (first a b c d))
nested f x true true true true = refl
nested f x true true true false = refl
nested f x true true false d = refl
nested f x true false c d = refl
nested f x false b c d = refl

passed : (a b c d : Bool) → first a b c d ≡ done → (a ≡ true) × (b ≡ true) × (c ≡ true) × (d ≡ true)
passed true true true true e = (refl, refl, refl, refl)
passed true true true false e = absurd (omega arith)
passed true true false d e = absurd (omega arith)
passed true false c d e = absurd (omega arith)
passed false b c d e = absurd (omega arith)

-- A head is read where its place is right, and refused with the place's number where it is not.
pub head_by_place : (v : Version) (strip : List ℕ)
    → read_head v strip
    ≡ cond (eqb (head_place v strip) done) (judged_head (head_of v (fields_at (head_fields v) strip 0))) (refused_head (head_place v strip))
unfolding read_head head_place
head_by_place v strip =
    nested refused_head (judged_head (head_of v (fields_at (head_fields v) strip 0))) (leb 3 (length strip)) (eqb (number_at strip 2 1) (number_of v))
    (eqb (number_at strip 0 2) (head_length v)) (leb (size (head_fields v)) (length strip))

-- A head's place is right: its version, its length, and the head is there whole.
pub record HeadThere (v : Version) (strip : List ℕ) : Type 0 where
  pub version : number_at strip 2 1 ≡ number_of v
  pub says : number_at strip 0 2 ≡ head_length v
  pub whole : size (head_fields v) ≤ length strip

pub head_there : (v : Version) (strip : List ℕ) → head_place v strip ≡ done → HeadThere v strip
unfolding head_place
head_there v strip e =
    let tests =
    passed (leb 3 (length strip)) (eqb (number_at strip 2 1) (number_of v)) (eqb (number_at strip 0 2) (head_length v))
    (leb (size (head_fields v)) (length strip)) e in
    record {
      version = eqb-true (number_at strip 2 1) (number_of v) tests.1;
      says = eqb-true (number_at strip 0 2) (head_length v) tests.2;
      whole = leb-true (size (head_fields v)) (length strip) tests.3;
    }

pub head_placed : (v : Version) (strip : List ℕ) → HeadThere v strip → head_place v strip ≡ done
unfolding head_place
head_placed v strip t =
    rw (
      le-leb 3 (length strip) (omega (arith, t.whole)),
      eq-eqb (number_at strip 2 1) (number_of v) t.version,
      eq-eqb (number_at strip 0 2) (head_length v) t.says,
      le-leb (size (head_fields v)) (length strip) t.whole,
    )

-- A record whose length says no gap is read where its place is right; at the strip's end there is none.
pub record_by_place : (v : Version) (strip : List ℕ) (at : ℕ) → is_gap v (number_at strip at 2) ≡ false
    → read_record v strip at
    ≡ cond (ltb at (length strip))
    (cond (eqb (record_place strip at) done) (judged_record (figures_of (fields_at record_fields strip at))) (refused_record (record_place strip at)))
    (refused_record done)
unfolding read_record record_place ended refused_record
record_by_place v strip at g =
    rw g
    (ap (λ (r : Read). cond (ltb at (length strip)) r (refused_record done))
    (nested refused_record (judged_record (figures_of (fields_at record_fields strip at))) (leb (at + 2) (length strip)) true
    (eqb (number_at strip at 2) record_length) (leb (at + size record_fields) (length strip))))

-- In no version does another length than a gap's say one,
pub other_length : (v : Version) (n : ℕ) → eqb n gap_length ≡ false → is_gap v n ≡ false
other_length v n e = rw e (never (has_gaps v))
  where
    never : (b : Bool) → b && false ≡ false
    never true = refl
    never false = refl

-- and that of figures is another.
pub no_gap_lem : (v : Version) (n : ℕ) → n ≡ record_length → is_gap v n ≡ false
no_gap_lem v n e = other_length v n (rw e)

-- A record's place is right: its length, and the record is there whole.
pub record RecordThere (strip : List ℕ) (at : ℕ) : Type 0 where
  pub says : number_at strip at 2 ≡ record_length
  pub whole : at + size record_fields ≤ length strip

pub record_there : (strip : List ℕ) (at : ℕ) → record_place strip at ≡ done → RecordThere strip at
unfolding record_place
record_there strip at e =
    let tests =
    passed (leb (at + 2) (length strip)) true (eqb (number_at strip at 2) record_length) (leb (at + size record_fields) (length strip)) e in
    record {
      says = eqb-true (number_at strip at 2) record_length tests.2;
      whole = leb-true (at + size record_fields) (length strip) tests.3;
    }

pub record_placed : (strip : List ℕ) (at : ℕ) → RecordThere strip at → record_place strip at ≡ done
unfolding record_place
record_placed strip at t =
    rw (
      le-leb (at + 2) (length strip) (omega (arith, t.whole)),
      eq-eqb (number_at strip at 2) record_length t.says,
      le-leb (at + size record_fields) (length strip) t.whole,
    )

-- So many bytes are left from a place on exactly where the place and so many are within the length.
pub left_enough : (k n at : ℕ) → at < n → leb k (n - at) ≡ leb (at + k) n
left_enough k n at h = go (leb k (n - at)) refl
  where
    go : (b : Bool) → leb k (n - at) ≡ b → b ≡ leb (at + k) n
    go true e = sym (le-leb (at + k) n (omega (arith, leb-true k (n - at) e)))
    go false e = sym (lt-leb (at + k) n (omega (arith, leb-false k (n - at) e)))

-- Bytes that are put behind those that were put join them.
pub joins : (p q o : List ℕ) (n k m : ℕ) → length p ≡ n → n + k ≡ m → take n (p ++ drop n o) ++ q ++ drop (n + k) (p ++ drop n o) ≡ p ++ q ++ drop m o
joins p q o n k m e s =
    rw (take_at p (drop n o) n e, ← drop-drop k n (p ++ drop n o), drop_at p (drop n o) n e, drop-drop k n o, s)

-- What is refused is not written.
pub put_refused : (n : ℕ) (bytes out : List ℕ) → (n ≡ done → ⊥) → put n bytes out ≡ record { reply = n; out = out }
unfolding put
put_refused n bytes out h = simp (ne_eqb n done h)

-- What a writer answers that has worked out what is refused, and the bytes where nothing is:
pub put_taken : (refused reply : ℕ) (bytes made out : List ℕ) → made ≡ bytes → reply ≡ refused → reply ≡ done → put done made out ≡ put refused bytes out
put_taken refused reply bytes made out b r d = rw (b, ← r, d)

pub put_left : (refused reply : ℕ) (bytes out : List ℕ) → reply ≡ refused → (reply ≡ done → ⊥) → record { reply = reply; out = out } ≡ put refused bytes out
put_left refused reply bytes out r n = rw (← r) (sym (put_refused reply bytes out n))

-- What is answered with done was not refused, and stands at the buffer's start.
pub put_done : (n : ℕ) (bytes out : List ℕ) → (put n bytes out).reply ≡ done
    → (n ≡ done) × ((put n bytes out).out ≡ bytes ++ drop (length bytes) out)
unfolding put
put_done n bytes out = go (eqb n done) refl (leb (length bytes) (length out)) refl
  where
    go : (a : Bool) → eqb n done ≡ a → (b : Bool) → leb (length bytes) (length out) ≡ b → (put n bytes out).reply ≡ done
        → (n ≡ done) × ((put n bytes out).out ≡ bytes ++ drop (length bytes) out)
    go true p true q h = (eqb-true n done p, simp (p, q))
    go true p false q h = absurd (omega (arith, simp (p, q) at h))
    go false p b q h = absurd (eqb-false n done p (simp p at h))
