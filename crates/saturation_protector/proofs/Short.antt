-- What a closed run leaves behind: a run shorter than the threshold nothing at all, and a longer one its preliminary state. By the laws of `runs`. Laws.
-- Assumes nothing.
use Rattle.std.specs.Prelude.{◌≡◌, refl, Bool, true, false, ◌&&◌, cond, ℕ, ◌+◌, ◌≤◌, ◌<◌, length, Float}
use Rattle.std.proofs.Common.{sym, ap, ◌∙◌, subst, arith}
use mathlib.Core.List.{List, [], ◌∷◌, ◌++◌}
use Rattle.std.proofs.lemmas.Bool.{lt-leb}
use Rattle.lists.specs.Each.{Each, each_append}
use Rattle.units.specs.Figures.{headroom}
use Rattle.units.specs.Settings.{threshold}
use Rattle.runs.specs.Runs.{speech, Run, advanced, closed, framed, published}
use Rattle.runs.specs.Histories.{after, advanced_by, Settled}
use Rattle.runs.specs.Laws.Counts.{longer_below}
use Rattle.runs.proofs.Short.{short_run, long_run, framed_settled}
use Rattle.saturation_protector_buffer.specs.Ring.{is_capacity}
use Rattle.saturation_protector.specs.Peaks as Peaks
use Rattle.saturation_protector.specs.Protector.{run, passes, nothing, fresh, again, analyzed}
use Rattle.saturation_protector.specs.Calls.{made, reset}
use Rattle.saturation_protector.specs.History.{Figures, InRange, Speech, Other, heard, frames}
use Rattle.saturation_protector.specs.declared.Peaks.{Peaks as State}
use Rattle.saturation_protector.specs.declared.Protector.{Protector}
use Rattle.saturation_protector.specs.Laws.Again.{stepped_analyzed}
use Rattle.saturation_protector.proofs.Joined.{analyzed_run, one_kept, heard_next, heard_append, heard_kept, heard_run, all_speech, frames_length}

-- ---- what is published
-- A speech frame before the threshold publishes nothing.
unpublished : (s : Protector) (f : Figures) → Speech f → s.count + 1 < s.threshold → (analyzed s f.probability f.peak f.level).headroom ≡ s.headroom
unfolding analyzed published
unpublished s f h k =
    rw (h, longer_below s.threshold s.count (omega arith), lt-leb s.threshold (s.count + 1) k) refl

-- and makes the run longer by one
counted : (s : Protector) (f : Figures) → Speech f → s.count + 1 < s.threshold → (analyzed s f.probability f.peak f.level).count ≡ s.count + 1
unfolding analyzed framed advanced
counted s f h k = rw (h, longer_below s.threshold s.count (omega arith)) refl

-- Speech frames that do not reach the threshold publish nothing.
pub short_unpublished : (s : Protector) (fs : List Figures) → passes s ≡ true → Each InRange fs → Each Speech fs → s.count + length fs < s.threshold
    → (heard s fs).headroom ≡ s.headroom
unfolding heard Each
short_unpublished s [] h k l few = refl
short_unpublished s (f ∷ fs) h k l few =
    let next = analyzed s f.probability f.peak f.level in
    let one = one_kept s f h k.0 in
    let same = one.threshold in
    let more = counted s f l.0 (omega arith) in
    ap (λ (r : Protector). (heard r fs).headroom) (stepped_analyzed s f.probability f.peak f.level h k.0)
    ∙ short_unpublished next fs one.state k.1 l.1 (omega arith)
    ∙ unpublished s f l.0 (omega arith)

-- A frame that is no speech publishes nothing,
pub other_unpublished : (s : Protector) (f : Figures) → Other f → (analyzed s f.probability f.peak f.level).headroom ≡ s.headroom
unfolding analyzed published
other_unpublished s f h = rw h refl

-- and closes the run.
pub other_closed : (s : Protector) (f : Figures) → Other f → run (analyzed s f.probability f.peak f.level) ≡ closed s.threshold (run s)
unfolding analyzed framed
other_closed s f h = rw h refl

-- ---- a run of speech frames, and the frame that closes it
module _ (s : Protector) (fs : List Figures) (f : Figures) (state : passes s ≡ true) (ranges : Each InRange fs) (range : InRange f) (speech : Each Speech fs) (other : Other f) where
  -- the run, and then the frame that closes it
  ran : heard s (fs ++ (f ∷ [])) ≡ analyzed (heard s fs) f.probability f.peak f.level
  unfolding heard
  ran = heard_append s fs (f ∷ []) ∙ heard_next (heard s fs) f [] (heard_kept s fs state ranges).state range

  all : Each InRange (fs ++ (f ∷ []))
  unfolding Each
  all = each_append InRange fs (f ∷ []) ranges (range, tt)

  ran_run : run (heard s (fs ++ (f ∷ []))) ≡ closed s.threshold (after s.threshold (run s) (frames fs))
  ran_run =
      ap run ran
      ∙ other_closed (heard s fs) f other
      ∙ ap (λ (t : ℕ). closed t (run (heard s fs))) (heard_kept s fs state ranges).threshold
      ∙ ap (λ (r : Run State). closed s.threshold r) (heard_run s fs state ranges)

  -- A run of speech frames that is shorter than the threshold and closed leaves no trace: both states, the count and the published headroom, and with
  -- them the whole protector, are as they were.
  pub short_run_forgotten : 1 < s.threshold → Settled (run s) → s.count ≡ 0 → length fs < s.threshold → heard s (fs ++ (f ∷ [])) ≡ s
  short_run_forgotten two settled none few =
      let back : run (heard s (fs ++ (f ∷ []))) ≡ run s =
      ran_run ∙ short_run s.threshold (run s) (frames fs) two settled none (all_speech fs speech) (rw (frames_length fs) few) in
      let published : (heard s (fs ++ (f ∷ []))).headroom ≡ s.headroom =
      ap (λ (r : Protector). r.headroom) ran ∙ other_unpublished (heard s fs) f other ∙ short_unpublished s fs state ranges speech (omega arith) in
      let kept = heard_kept s (fs ++ (f ∷ [])) state all in
      λ i.
      record {
        initial = kept.initial i;
        threshold = kept.threshold i;
        count = (back i).count;
        headroom = published i;
        preliminary = (back i).preliminary;
        reliable = (back i).reliable;
      }

  -- A run that reached the threshold is kept: both states are the preliminary one, advanced by each of its frames.
  pub long_run_kept : 1 < s.threshold → s.count ≡ 0 → s.threshold ≤ length fs
      → run (heard s (fs ++ (f ∷ [])))
      ≡ record { preliminary = advanced_by s.preliminary (frames fs); reliable = advanced_by s.preliminary (frames fs); count = 0 }
  long_run_kept two none many =
      ran_run ∙ long_run s.threshold (run s) (frames fs) two none (all_speech fs speech) (rw (frames_length fs) many)

-- ---- which protectors are settled
-- A new protector is settled.
pub made_settled : (initial : Float) (t n : ℕ) → Settled (run (made initial t n).protector)
unfolding made fresh nothing
made_settled initial t n = go (threshold t && is_capacity n && headroom initial)
  where
    go : (b : Bool) → Settled (run (cond b (fresh initial t n) nothing))
    go true = record { same = λ h. refl }
    go false = record { same = λ h. refl }

-- A settled protector stays so through accepted frames, where the threshold is two or more.
pub heard_settled : (s : Protector) (fs : List Figures) → passes s ≡ true → Each InRange fs → 1 < s.threshold → Settled (run s) → Settled (run (heard s fs))
unfolding heard Each
heard_settled s [] h k two settled = settled
heard_settled s (f ∷ fs) h k two settled =
    let one = one_kept s f h k.0 in
    let same = one.threshold in
    let next : Settled (run (analyzed s f.probability f.peak f.level)) =
    rw (analyzed_run s f.probability f.peak f.level)
    (framed_settled s.threshold (speech f.probability) (Peaks.advanced f.peak f.level) (run s) two settled) in
    subst (λ (r : Protector). Settled (run (heard r fs))) (sym (stepped_analyzed s f.probability f.peak f.level h k.0))
    (heard_settled (analyzed s f.probability f.peak f.level) fs one.state k.1 (omega arith) next)

-- A settled protector with no run open is settled after a reset: both states start with the same storage.
pub reset_settled : (s : Protector) → Settled (run s) → s.count ≡ 0 → Settled (run (reset s).protector)
unfolding reset again
reset_settled s settled none = go (passes s)
  where
    go : (b : Bool) → Settled (run (cond b (again s) s))
    go true = record { same = λ h. ap (Peaks.restarted s.initial) (settled.same none) }
    go false = settled
