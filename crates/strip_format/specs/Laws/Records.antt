-- Records: what is written reads back equal, what reads rewrites to the same bytes, and the reader accepts exactly what the description
-- gives. Laws. Assumes nothing.
use Rattle.std.specs.Prelude.{◌≡◌, refl, Bool, true, false, cond, List, [], ◌∷◌, ◌++◌, ℕ, ◌+◌, T, eqb, leb, ltb, length, get_or, take, drop}
use Rattle.std.proofs.Common.{sym, ap, ◌∙◌, append_assoc, arith, eqb-true, leb-true, lt-ltb, length-append, take-append-drop, length-take-le, drop-drop}
use Rattle.std.specs.Float.{binary32}
use Rattle.std.specs.Float.Ieee.{fits}
use Rattle.bits.specs.Floats.{float_of, pattern_of}
use Rattle.bits.specs.Laws.RoundTrip.{float_fits, pattern_small, float_back}
use Rattle.units.specs.Replies.{done, cut, bad_length}
use Rattle.units.specs.Laws.Replies.{none_refused}
use Rattle.units.specs.Figures as Figure
use Rattle.units.specs.declared.figures.Figures.{Figures}
use Rattle.strip_format.specs.Fields.{number_at, size, written, fields_at}
use Rattle.strip_format.specs.Format.{record_fields, record_length, record_numbers, figures_of, record_bytes, figures, gap}
use Rattle.strip_format.specs.Calls.{Read, record_refusal, refused_record, ended, found, judged_record, is_gap, read_record, said_of, put_record}
use Rattle.strip_format.specs.Laws.Steps.{RecordThere, record_by_place, no_gap_lem, record_placed, put_done}
use Rattle.strip_format.specs.Laws.Fields.{Fits, Bytes, written_length, numbers_back, bytes_back}
use Rattle.strip_format.specs.Laws.NoNan.{PlainFigures, plain_figures, same_bits}
use Rattle.strip_format.specs.declared.Version.{Version}

-- the figures are floats of 32 bits, as all that the code holds are
pub record Held (f : Figures) : Type 0 where
  pub probability : T (fits binary32 f.probability)
  pub rms : T (fits binary32 f.rms.0)
  pub peak : T (fits binary32 f.peak.0)
  pub noise : T (fits binary32 f.noise.0)
  pub envelope : T (fits binary32 f.envelope.0)

plain : (f : Figures) → record_refusal f ≡ done → PlainFigures f
unfolding record_refusal
plain f e = plain_figures f (none_refused true true (Figure.accepted f) true e).2

-- ---- written, then read
fits_fields : (f : Figures) → Held f → Fits record_fields (record_numbers f)
unfolding Fits record_numbers
fits_fields f p = (
  omega arith,
  (
    pattern_small f.probability p.probability,
    (
      pattern_small f.rms.0 p.rms,
      (
        pattern_small f.peak.0 p.peak,
        (pattern_small f.noise.0 p.noise, (pattern_small f.envelope.0 p.envelope, tt)),
      ),
    ),
  ),
)

figures_of_numbers : (f : Figures) → Held f → PlainFigures f → figures_of (record_numbers f) ≡ f
unfolding figures_of record_numbers
figures_of_numbers f p n =
    rw (
      float_back f.probability p.probability n.probability,
      float_back f.rms.0 p.rms n.rms,
      float_back f.peak.0 p.peak n.peak,
      float_back f.noise.0 p.noise n.noise,
      float_back f.envelope.0 p.envelope n.envelope,
    )

-- A record has as many bytes as its description says.
pub record_length_lem : (f : Figures) → length (record_bytes f) ≡ size record_fields
unfolding record_bytes record_numbers
record_length_lem f = written_length record_fields (record_numbers f) refl

there : (strip before rest : List ℕ) (f : Figures) → Fits record_fields (record_numbers f) → strip ≡ before ++ record_bytes f ++ rest
    → fields_at record_fields strip (length before) ≡ record_numbers f → RecordThere strip (length before)
unfolding record_bytes fields_at record_numbers
there strip before rest f h s e =
    record {
      says = ap (λ (ns : List ℕ). get_or ns 0 0) e;
      whole = rw s (simp (length-append, written_length record_fields (record_numbers f) refl) (omega arith));
    }

accepted_reads : (v : Version) (strip : List ℕ) (at : ℕ) (f : Figures) → RecordThere strip at → figures_of (fields_at record_fields strip at) ≡ f
    → record_refusal f ≡ done → read_record v strip at ≡ found (figures f)
unfolding judged_record
accepted_reads v strip at f t e r =
    let whole = t.whole in
    record_by_place v strip at (no_gap_lem v (number_at strip at 2) t.says) ∙ rw (lt-ltb at (length strip) (omega arith), record_placed strip at t, e, r)

-- What is written reads back equal, whatever stands before it and after.
pub written_record_reads : (v : Version) (f : Figures) (before rest : List ℕ) → Held f → record_refusal f ≡ done
    → read_record v (before ++ record_bytes f ++ rest) (length before) ≡ found (figures f)
unfolding record_bytes
written_record_reads v f before rest p r =
    let h = fits_fields f p in
    let e = numbers_back record_fields (record_numbers f) before rest h in
    let strip = before ++ record_bytes f ++ rest in
    accepted_reads v strip (length before) f (there strip before rest f h refl e) (ap figures_of e ∙ figures_of_numbers f p (plain f r)) r

-- What was put into a buffer reads back equal from it.
pub put_record_reads : (v : Version) (f : Figures) (out : List ℕ) → Held f → (put_record f out).reply ≡ done → read_record v (put_record f out).out 0 ≡ found (figures f)
unfolding put_record
put_record_reads v f out p e =
    let d = put_done (record_refusal f) (record_bytes f) out e in
    ap (λ (l : List ℕ). read_record v l 0) d.1 ∙ written_record_reads v f [] (drop (length (record_bytes f)) out) p d.0

-- ---- read, then written
-- The number of what was found: 0 where nothing was.
number : Read → ℕ
number r = (said_of r.found).number

-- Figures are found only where each test of the reader holds and they are not refused.
chosen : (f : Figures) (a b g c d : Bool) (x : Read)
    → cond a (cond b (cond g (found gap) (cond c (cond d x (refused_record cut)) (refused_record bad_length))) (refused_record cut)) ended ≡ found (figures f)
    → (c ≡ true) × (d ≡ true) × (x ≡ found (figures f))
unfolding refused_record ended found number
chosen f false b g c d x e = absurd (omega (arith, ap number e))
chosen f true false g c d x e = absurd (omega (arith, ap number e))
chosen f true true true c d x e = absurd (omega (arith, ap number e))
chosen f true true false false d x e = absurd (omega (arith, ap number e))
chosen f true true false true false x e = absurd (omega (arith, ap number e))
chosen f true true false true true x e = (refl, refl, e)

-- Figures that were judged and found are those, and were not refused.
judged_is : (g f : Figures) → judged_record g ≡ found (figures f) → (g ≡ f) × (record_refusal g ≡ done)
unfolding judged_record refused_record found number
judged_is g f = go (eqb (record_refusal g) done) refl
  where
    same : figures g ∷ [] ≡ figures f ∷ [] → g ≡ f
    same e = cc e

    go : (b : Bool) → eqb (record_refusal g) done ≡ b → cond b (found (figures g)) (refused_record (record_refusal g)) ≡ found (figures f) → (g ≡ f) × (record_refusal g ≡ done)
    go true p e = (same (ap (λ (r : Read). r.found) e), eqb-true (record_refusal g) done p)
    go false p e = absurd (omega (arith, ap number e))

-- What was found stood in its place, and was not refused.
module _ (v : Version) (strip : List ℕ) (at : ℕ) (f : Figures) (e : read_record v strip at ≡ found (figures f)) where
  tests : (eqb (number_at strip at 2) record_length ≡ true) × (leb (at + size record_fields) (length strip) ≡ true)
      × (judged_record (figures_of (fields_at record_fields strip at)) ≡ found (figures f))
  unfolding read_record
  tests =
      chosen f (ltb at (length strip)) (leb (at + 2) (length strip)) (is_gap v (number_at strip at 2)) (eqb (number_at strip at 2) record_length)
      (leb (at + size record_fields) (length strip)) (judged_record (figures_of (fields_at record_fields strip at))) e

  -- The record is there whole.
  pub stood : RecordThere strip at
  stood =
      record {
        says = eqb-true (number_at strip at 2) record_length tests.0;
        whole = leb-true (at + size record_fields) (length strip) tests.1;
      }

  -- The figures are those of the fields.
  pub figures_are : figures_of (fields_at record_fields strip at) ≡ f
  figures_are = (judged_is (figures_of (fields_at record_fields strip at)) f tests.2).0

  not_refused : record_refusal (figures_of (fields_at record_fields strip at)) ≡ done
  not_refused = (judged_is (figures_of (fields_at record_fields strip at)) f tests.2).1

  -- They are not refused.
  pub read_not_refused : record_refusal f ≡ done
  read_not_refused = ap record_refusal (sym figures_are) ∙ not_refused

numbers_of_record : (n0 n1 n2 n3 n4 n5 : ℕ) → record_length ≡ n0
    → pattern_of (float_of n1) ≡ n1 → pattern_of (float_of n2) ≡ n2 → pattern_of (float_of n3) ≡ n3 → pattern_of (float_of n4) ≡ n4 → pattern_of (float_of n5) ≡ n5
    → record_numbers (figures_of (n0 ∷ n1 ∷ n2 ∷ n3 ∷ n4 ∷ n5 ∷ [])) ≡ n0 ∷ n1 ∷ n2 ∷ n3 ∷ n4 ∷ n5 ∷ []
unfolding record_numbers figures_of
numbers_of_record n0 n1 n2 n3 n4 n5 a b c d e f = rw (a, b, c, d, e, f)

rewritten : (strip : List ℕ) (at : ℕ) → Bytes strip → RecordThere strip at → PlainFigures (figures_of (fields_at record_fields strip at))
    → record_numbers (figures_of (fields_at record_fields strip at)) ≡ fields_at record_fields strip at
unfolding fields_at figures_of
rewritten strip at b t n =
    let whole = t.whole in
    numbers_of_record (number_at strip at 2) (number_at strip (at + 2) 4) (number_at strip (at + 2 + 4) 4) (number_at strip (at + 2 + 4 + 4) 4)
    (number_at strip (at + 2 + 4 + 4 + 4) 4) (number_at strip (at + 2 + 4 + 4 + 4 + 4) 4) (sym t.says)
    (same_bits strip (at + 2) b (omega arith) n.probability) (same_bits strip (at + 2 + 4) b (omega arith) n.rms)
    (same_bits strip (at + 2 + 4 + 4) b (omega arith) n.peak) (same_bits strip (at + 2 + 4 + 4 + 4) b (omega arith) n.noise)
    (same_bits strip (at + 2 + 4 + 4 + 4 + 4) b (omega arith) n.envelope)

-- What reads rewrites to the same bytes, a negative zero's too.
pub read_record_rewrites : (v : Version) (strip : List ℕ) (at : ℕ) (f : Figures) → Bytes strip → read_record v strip at ≡ found (figures f)
    → record_bytes f ≡ take (size record_fields) (drop at strip)
unfolding record_bytes
read_record_rewrites v strip at f b e =
    let t = stood v strip at f e in
    let g = figures_of (fields_at record_fields strip at) in
    ap record_bytes (sym (figures_are v strip at f e))
    ∙ ap (written record_fields) (rewritten strip at b t (plain g (not_refused v strip at f e)))
    ∙ bytes_back record_fields strip at b t.whole

-- No NaN is read.
pub read_record_no_nan : (v : Version) (strip : List ℕ) (at : ℕ) (f : Figures) → read_record v strip at ≡ found (figures f) → PlainFigures f
read_record_no_nan v strip at f e = plain f (read_not_refused v strip at f e)

-- ---- exactly
-- The bytes of figures that are accepted stand at a place of a strip.
pub record Stands (strip : List ℕ) (at : ℕ) : Type 0 where
  pub said : Figures
  pub before : List ℕ
  pub rest : List ℕ
  pub held : Held said
  pub accepted : record_refusal said ≡ done
  pub place : length before ≡ at
  pub is : strip ≡ before ++ record_bytes said ++ rest

pub held_figures : (ns : List ℕ) → Held (figures_of ns)
unfolding figures_of
held_figures ns =
    record {
      probability = float_fits (get_or ns 1 0);
      rms = float_fits (get_or ns 2 0);
      peak = float_fits (get_or ns 3 0);
      noise = float_fits (get_or ns 4 0);
      envelope = float_fits (get_or ns 5 0);
    }

-- a list is what stands before a place, so many elements from there on, and the rest
cut_out : (strip : List ℕ) (at n : ℕ) → strip ≡ take at strip ++ take n (drop at strip) ++ drop (at + n) strip
cut_out strip at n =
    sym (
    append_assoc (take at strip) (take n (drop at strip)) (drop (at + n) strip)
    ∙ rw (← drop-drop n at strip, take-append-drop n (drop at strip)) (take-append-drop at strip)
    )

-- Figures are found at a place exactly where such bytes stand there.
pub records_found_exactly : (v : Version) (strip : List ℕ) (at : ℕ) → Bytes strip
    → ((f : Figures) → read_record v strip at ≡ found (figures f) → Stands strip at) × ((s : Stands strip at) → read_record v strip at ≡ found (figures s.said))
records_found_exactly v strip at b = (only, every)
  where
    only : (f : Figures) → read_record v strip at ≡ found (figures f) → Stands strip at
    only f e =
        let t = stood v strip at f e in
        let g = figures_of (fields_at record_fields strip at) in
        let same : record_bytes g ≡ take (size record_fields) (drop at strip) =
        ap record_bytes (figures_are v strip at f e) ∙ read_record_rewrites v strip at f b e in
        record {
          said = g;
          before = take at strip;
          rest = drop (at + size record_fields) strip;
          held = held_figures (fields_at record_fields strip at);
          accepted = not_refused v strip at f e;
          place = length-take-le at strip (omega (arith, t.whole));
          is = cut_out strip at (size record_fields) ∙ ap (λ (l : List ℕ). take at strip ++ l ++ drop (at + size record_fields) strip) (sym same);
        }

    every : (s : Stands strip at) → read_record v strip at ≡ found (figures s.said)
    every s =
        ap (λ (l : List ℕ). read_record v l at) s.is
        ∙ ap (read_record v (s.before ++ record_bytes s.said ++ s.rest)) (sym s.place)
        ∙ written_record_reads v s.said s.before s.rest s.held s.accepted
