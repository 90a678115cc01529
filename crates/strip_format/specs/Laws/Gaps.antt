-- A gap: where it is found and where it is refused, its bytes, and that what is written reads back. Laws.
-- Assumes nothing.
use Rattle.std.specs.Prelude.{◌≡◌, refl, Bool, true, false, cond, List, [], ◌∷◌, ◌++◌, ℕ, ◌+◌, ◌≤◌, eqb, leb, ltb, length, get_or, take, drop}
use Rattle.std.proofs.Common.{sym, ◌∙◌, arith, leb-true, eqb-true, length-append}
use Rattle.std.proofs.Math.Path.{ap}
use Rattle.lists.specs.Tests.{each_of}
use Rattle.units.specs.Replies.{done, cut, bad_length}
use Rattle.units.specs.declared.figures.Figures.{Figures}
use Rattle.strip_format.specs.Fields.{size, number_at, written, fields_at}
use Rattle.strip_format.specs.Format.{has_gaps, gap_fields, gap_length, record_fields, record_length, figures_of, figures, gap, entry_bytes}
use Rattle.strip_format.specs.Calls.{Read, record_refusal, refused_record, ended, found, judged_record, is_gap, read_record, said_of, gap_refusal, put_gap}
use Rattle.strip_format.specs.Laws.Steps.{put_refused, put_done}
use Rattle.strip_format.specs.Laws.Fields.{Fits, Bytes, written_length, numbers_back, bytes_back}
use Rattle.strip_format.specs.Laws.Refusals.{record_gap, record_wrong_length}
use Rattle.strip_format.specs.declared.Version.{Version}

-- The number of what was found: 0 where nothing was.
number : Read → ℕ
number r = (said_of r.found).number

-- Figures are no gap.
judged_no_gap : (f : Figures) → judged_record f ≡ found gap → ⊥
unfolding judged_record refused_record found number
judged_no_gap f = go (eqb (record_refusal f) done)
  where
    go : (b : Bool) → cond b (found (figures f)) (refused_record (record_refusal f)) ≡ found gap → ⊥
    go true e = omega (arith, ap number e)
    go false e = omega (arith, ap number e)

-- A gap is found only where two bytes are left and say one.
chosen : (a b g c d : Bool) (x : Read) → (x ≡ found gap → ⊥)
    → cond a (cond b (cond g (found gap) (cond c (cond d x (refused_record cut)) (refused_record bad_length))) (refused_record cut)) ended ≡ found gap
    → (b ≡ true) × (g ≡ true)
unfolding refused_record ended found number
chosen false b g c d x n e = absurd (omega (arith, ap number e))
chosen true false g c d x n e = absurd (omega (arith, ap number e))
chosen true true true c d x n e = (refl, refl)
chosen true true false false d x n e = absurd (omega (arith, ap number e))
chosen true true false true false x n e = absurd (omega (arith, ap number e))
chosen true true false true true x n e = absurd (n e)

-- The two bytes of a gap stand at a place of a strip: they are there, and say its length.
pub record GapThere (strip : List ℕ) (at : ℕ) : Type 0 where
  pub says : number_at strip at 2 ≡ gap_length
  pub whole : at + size gap_fields ≤ length strip

-- ---- read, then written
module _ (v : Version) (strip : List ℕ) (at : ℕ) (e : read_record v strip at ≡ found gap) where
  tests : (leb (at + 2) (length strip) ≡ true) × (is_gap v (number_at strip at 2) ≡ true)
  unfolding read_record
  tests =
      chosen (ltb at (length strip)) (leb (at + 2) (length strip)) (is_gap v (number_at strip at 2)) (eqb (number_at strip at 2) record_length)
      (leb (at + size record_fields) (length strip)) (judged_record (figures_of (fields_at record_fields strip at)))
      (judged_no_gap (figures_of (fields_at record_fields strip at))) e

  -- Where a gap is found its length says so,
  pub gap_says : is_gap v (number_at strip at 2) ≡ true
  gap_says = tests.1

  -- in a version that has gaps,
  pub gap_had : has_gaps v ≡ true
  gap_had = each_of (has_gaps v ∷ _ ∷ []) gap_says 0

  -- and its two bytes are there.
  pub gap_stood : GapThere strip at
  gap_stood =
      record {
        says = eqb-true (number_at strip at 2) gap_length (each_of (has_gaps v ∷ eqb (number_at strip at 2) gap_length ∷ []) gap_says 1);
        whole = leb-true (at + 2) (length strip) tests.0;
      }

  -- It rewrites to the same bytes.
  pub gap_rewrites : Bytes strip → entry_bytes gap ≡ take (size gap_fields) (drop at strip)
  unfolding fields_at entry_bytes
  gap_rewrites b =
      ap (λ (n : ℕ). written gap_fields (n ∷ [])) (sym gap_stood.says) ∙ bytes_back gap_fields strip at b gap_stood.whole

-- ---- exactly
module _ (v : Version) (strip : List ℕ) (at : ℕ) where
  -- A gap is found at a place exactly where its two bytes stand there and the version has gaps.
  pub gaps-found-exactly :
      (read_record v strip at ≡ found gap → (has_gaps v ≡ true) × GapThere strip at)
      × ((has_gaps v ≡ true) × GapThere strip at → read_record v strip at ≡ found gap)
  gaps-found-exactly = (only, every)
    where
      only : read_record v strip at ≡ found gap → (has_gaps v ≡ true) × GapThere strip at
      only e = (gap_had v strip at e, gap_stood v strip at e)

      every : (has_gaps v ≡ true) × GapThere strip at → read_record v strip at ≡ found gap
      every h = record_gap v strip at h.1.whole (rw (h.0, h.1.says))

  -- "it still is in version 1": in a version without gaps the same two bytes are refused with 6.
  pub gap_refused : has_gaps v ≡ false → GapThere strip at → read_record v strip at ≡ refused_record bad_length
  gap_refused n t = record_wrong_length v strip at t.whole (rw n) (λ e. omega (arith, sym t.says ∙ e))

-- ---- written, then read
-- A gap has as many bytes as its description says.
pub gap_length_lem : length (entry_bytes gap) ≡ size gap_fields
unfolding entry_bytes
gap_length_lem = refl

-- a gap's length fits its field
fits_field : Fits gap_fields (gap_length ∷ [])
unfolding Fits
fits_field = (omega arith, tt)

-- what is written stands where it was put
written_there : (before rest : List ℕ) → GapThere (before ++ entry_bytes gap ++ rest) (length before)
unfolding entry_bytes fields_at
written_there before rest =
    record {
      says = ap (λ (ns : List ℕ). get_or ns 0 0) (numbers_back gap_fields (gap_length ∷ []) before rest fits_field);
      whole = simp (length-append, written_length gap_fields (gap_length ∷ []) refl) (omega arith);
    }

-- What is written reads back as a gap, whatever stands before it and after, in a version that has gaps.
pub written_gap_reads : (v : Version) (before rest : List ℕ) → has_gaps v ≡ true
    → read_record v (before ++ entry_bytes gap ++ rest) (length before) ≡ found gap
written_gap_reads v before rest h =
    (gaps-found-exactly v (before ++ entry_bytes gap ++ rest) (length before)).1 (h, written_there before rest)

-- Only a version that has gaps can say one.
pub gap_said : (v : Version) → gap_refusal v ≡ done → has_gaps v ≡ true
gap_said v = go (has_gaps v)
  where
    go : (b : Bool) → cond b done bad_length ≡ done → b ≡ true
    go true e = refl
    go false e = absurd (omega arith)

-- What was put into a buffer reads back from it.
pub put_gap_reads : (v : Version) (out : List ℕ) → (put_gap v out).reply ≡ done → read_record v (put_gap v out).out 0 ≡ found gap
unfolding put_gap
put_gap_reads v out e =
    let d = put_done (gap_refusal v) (entry_bytes gap) out e in
    ap (λ (l : List ℕ). read_record v l 0) d.1 ∙ written_gap_reads v [] (drop (length (entry_bytes gap)) out) (gap_said v d.0)

-- In a version without gaps nothing is put, and the answer is 6, whatever the room.
pub put_gap_refused : (v : Version) (out : List ℕ) → has_gaps v ≡ false → put_gap v out ≡ record { reply = bad_length; out = out }
unfolding put_gap
put_gap_refused v out n = rw n (put_refused bad_length (entry_bytes gap) out (λ e. omega arith))
