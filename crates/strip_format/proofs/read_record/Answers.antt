-- `strip_format::read_record` meets its contract: a gap is looked for first, then the place is judged, and then the figures. Assumes nothing.
use Rattle.std.proofs.Common.{◌≡◌, refl, sym, ap, ◌∙◌, Bool, true, false, ◌&&◌, cond, eqb, leb, List, [], ◌∷◌, ℕ, ◌+◌, ◌≤◌, ◌<◌, length, Option, None, Some, Result, Ok, Err}
use borrow.Author.Tests.{leb-true, ne_eqb, lt-ltb}
use Rattle.std.specs.Result.{IsErrAnd}
use Rattle.std.proofs.lemmas.Result.{err_from_is_err_and}
use Rattle.lists.specs.Tests.{each_of}
use Rattle.units.specs.Replies.{done}
use Rattle.units.specs.Handed.{number_of, handed}
use Rattle.units.specs.Laws.Handed.{passed_done}
use Rattle.units.specs.declared.figures.Figures.{Figures}
use Rattle.units.specs.declared.refusals.Refusal.{Refusal}
use Rattle.strip_format.specs.Fields.{number_at, fields_at}
use Rattle.strip_format.specs.Format.{record_fields, figures_of, figures}
use Rattle.strip_format.specs.Calls.{told, told_of, record_refusal, judged_record, refused_record, ended, found, is_gap, read_record}
use Rattle.strip_format.specs.Steps.{record_place}
use Rattle.strip_format.specs.Laws.Steps.{record_by_place, record_there}
use Rattle.strip_format.specs.Laws.Refusals.{record_none, record_gap}
use Rattle.strip_format.specs.declared.Version.{Version}
use Rattle.strip_format.specs.declared.Entry.{Entry}
use Rattle.strip_format.specs.declared.Entry.TheVariants.{Record, Gap}
use Rattle.strip_format.proofs.Refused.{refused_is, record_place_number, record_refusal_number}
use Rattle.strip_format.proofs.read_record.Goals as goal

-- what is handed on by `?` tells its number
refusal_told : (r : Result (Option Entry) Refusal) (e : Refusal) (n : ℕ) → IsErrAnd r (λ d. d ≡ e) → number_of e ≡ n → told r ≡ told_of (refused_record n)
unfolding told told_of refused_record
refusal_told r e n out h = let known = err_from_is_err_and r out in rw (known.1, known.2, h)

module _ (v : Version) (strip : List ℕ) (at : ℕ) where
  none : length strip ≤ at → told (Ok None) ≡ told_of (read_record v strip at)
  unfolding told told_of ended
  none l = ap told_of (sym (record_none v strip at l))

  -- whether a gap stands at the place
  abbrev gap_here : Bool
  gap_here = leb (at + 2) (length strip) && is_gap v (number_at strip at 2)

  -- where a gap stands, it is found
  a-gap : gap_here ≡ true → told (Ok (Some Gap)) ≡ told_of (read_record v strip at)
  unfolding told told_of found
  a-gap t =
      let both = each_of (leb (at + 2) (length strip) ∷ is_gap v (number_at strip at 2) ∷ []) t in
      ap told_of (sym (record_gap v strip at (leb-true (at + 2) (length strip) (both 0)) (both 1)))

  -- where none stands, the record is read by its place: a single byte is cut in any case
  module _ (g : gap_here ≡ false) (l : at < length strip) where
    by_place : read_record v strip at ≡ cond (eqb (record_place strip at) done) (judged_record (figures_of (fields_at record_fields strip at))) (refused_record (record_place strip at))
    unfolding read_record record_place
    by_place = go (leb (at + 2) (length strip)) refl g
      where
        go : (b : Bool) → leb (at + 2) (length strip) ≡ b → b && is_gap v (number_at strip at 2) ≡ false
            → read_record v strip at ≡ cond (eqb (record_place strip at) done) (judged_record (figures_of (fields_at record_fields strip at))) (refused_record (record_place strip at))
        go true e n = record_by_place v strip at n ∙ rw (lt-ltb at (length strip) l)
        go false e n = rw (lt-ltb at (length strip) l, e)

    misplaced : (r : Result (Option Entry) Refusal) (e : Refusal) → IsErrAnd r (λ d. d ≡ e) → Err e ≡ handed (record_place strip at) (tt {0}) → told r ≡ told_of (read_record v strip at)
    misplaced r e out h =
        let known = refused_is (record_place strip at) e h in
        refusal_told r e (record_place strip at) out (ap number_of known.1 ∙ record_place_number strip at known.0)
        ∙ ap told_of (sym (by_place ∙ rw (ne_eqb (record_place strip at) done known.0)))

    module _ (p : Ok (tt {0}) ≡ handed (record_place strip at) (tt {0})) (f : Figures) (m : f ≡ figures_of (fields_at record_fields strip at)) where
      placed : read_record v strip at ≡ judged_record f
      placed = by_place ∙ rw (passed_done (record_place strip at) (tt {0}) (tt {0}) p, m)

      judged_badly : (r : Result (Option Entry) Refusal) (e : Refusal) → IsErrAnd r (λ d. d ≡ e) → Err e ≡ handed (record_refusal f) (tt {0}) → told r ≡ told_of (read_record v strip at)
      unfolding judged_record
      judged_badly r e out h =
          let known = refused_is (record_refusal f) e h in
          refusal_told r e (record_refusal f) out (ap number_of known.1 ∙ record_refusal_number f known.0)
          ∙ ap told_of (sym (placed ∙ rw (ne_eqb (record_refusal f) done known.0)))

      judged_well : Ok (tt {0}) ≡ handed (record_refusal f) (tt {0}) → told (Ok (Some (Record f))) ≡ told_of (read_record v strip at)
      unfolding judged_record told told_of found
      judged_well h =
          let well : read_record v strip at ≡ found (figures f) = placed ∙ rw (passed_done (record_refusal f) (tt {0}) (tt {0}) h) in
          ap told_of (sym well)

pub returns-then-strip-at : goal.returns-then-strip-at
returns-then-strip-at c = none c.args.version c.args.strip.now c.args.at c.if-strip-at.true

pub returns-then-is_gap_at : goal.returns-then-is_gap_at
returns-then-is_gap_at c = a-gap c.args.version c.args.strip.now c.args.at (sym c.is_gap_at.ensures ∙ c.if-is_gap_at.true)

pub returns-in_err-check_record_place : goal.returns-in_err-check_record_place
returns-in_err-check_record_place c =
    misplaced c.args.version c.args.strip.now c.args.at (sym c.is_gap_at.ensures ∙ c.if-is_gap_at.false) c.if-strip-at.false _ _ c.from_residual.ensures.1
    c.in_err-check_record_place.ensures

pub figures_at-figures-requires : goal.figures_at-figures-requires
figures_at-figures-requires c =
    (record_there c.args.strip.now c.args.at (passed_done _ (tt {0}) (tt {0}) c.in_ok-check_record_place.ensures)).whole

pub returns-in_err-check_figures : goal.returns-in_err-check_figures
returns-in_err-check_figures c =
    judged_badly c.args.version c.args.strip.now c.args.at (sym c.is_gap_at.ensures ∙ c.if-is_gap_at.false) c.if-strip-at.false c.in_ok-check_record_place.ensures
    _ c.figures_at-figures.ensures _ _ c.from_residual-in_err-check_figures.ensures.1 c.in_err-check_figures.ensures

pub returns : goal.returns
returns c =
    judged_well c.args.version c.args.strip.now c.args.at (sym c.is_gap_at.ensures ∙ c.if-is_gap_at.false) c.if-strip-at.false c.in_ok-check_record_place.ensures
    _ c.figures_at-figures.ensures c.in_ok-check_figures.ensures
