-- The two states and the count go by the rule of `runs`: of one frame, and of any number of accepted frames. Laws.
-- Assumes nothing.
use Rattle.std.specs.Prelude.{◌≡◌, refl, Bool, true, false, List, [], ◌∷◌, ◌++◌, ℕ, ◌≤◌, ltb, length, Float}
use Rattle.std.proofs.Common.{sym, ap, ◌∙◌, arith, ltb-true, ltb-false}
use Rattle.lists.specs.Each.{Each}
use Rattle.lists.specs.Tests.{each_of}
use Rattle.units.specs.Figures.{probability, level}
use Rattle.runs.specs.Runs.{speech, framed, Run}
use Rattle.runs.specs.Histories.{after, advanced_by, AllSpeech}
use Rattle.runs.specs.Laws.Counts.{held, held_below, held_at}
use Rattle.runs.proofs.Short.{after_speech}
use Rattle.saturation_protector.specs.Peaks as Peaks
use Rattle.saturation_protector.specs.Protector.{run, passes, analyzed}
use Rattle.saturation_protector.specs.Calls.{figures, stepped}
use Rattle.saturation_protector.specs.History.{Figures, InRange, Speech, heard, frames}
use Rattle.saturation_protector.specs.declared.Peaks.{Peaks as State}
use Rattle.saturation_protector.specs.declared.Protector.{Protector}
use Rattle.saturation_protector.specs.Laws.Tests.{passed_whole}
use Rattle.saturation_protector.specs.Laws.Again.{analyzed_passes, stepped_analyzed}

-- The two states and the count after a frame are those of `runs`.
pub analyzed_run : (s : Protector) (p peak speech_level : Float)
    → run (analyzed s p peak speech_level) ≡ framed (speech p) (Peaks.advanced peak speech_level) s.threshold (run s)
unfolding analyzed
analyzed_run s p peak speech_level = refl

-- And so after a frame that is not refused.
pub stepped_run : (s : Protector) (p peak speech_level : Float) → passes s ≡ true → figures p peak speech_level ≡ true
    → run (stepped s p peak speech_level).protector ≡ framed (speech p) (Peaks.advanced peak speech_level) s.threshold (run s)
stepped_run s p peak speech_level h k = ap run (stepped_analyzed s p peak speech_level h k) ∙ analyzed_run s p peak speech_level

-- what a protector keeps through frames
pub record Kept (s r : Protector) : Type 0 where
  pub state : passes r ≡ true
  pub initial : r.initial ≡ s.initial
  pub threshold : r.threshold ≡ s.threshold

-- one accepted frame
pub one_kept : (s : Protector) (f : Figures) → passes s ≡ true → InRange f → Kept s (analyzed s f.probability f.peak f.level)
unfolding analyzed
one_kept s f h k =
    let p = each_of (probability f.probability ∷ level f.peak ∷ level f.level ∷ []) k in
    record { state = analyzed_passes s f.probability f.peak f.level h (p 1) (p 2); initial = refl; threshold = refl }

-- the first of accepted frames, and then the others
pub heard_next : (s : Protector) (f : Figures) (fs : List Figures) → passes s ≡ true → InRange f
    → heard s (f ∷ fs) ≡ heard (analyzed s f.probability f.peak f.level) fs
unfolding heard
heard_next s f fs h k = ap (λ (r : Protector). heard r fs) (stepped_analyzed s f.probability f.peak f.level h k)

-- Frames one list after the other.
pub heard_append : (s : Protector) (fs gs : List Figures) → heard s (fs ++ gs) ≡ heard (heard s fs) gs
unfolding heard
heard_append s [] gs = refl
heard_append s (f ∷ fs) gs = heard_append (stepped s f.probability f.peak f.level).protector fs gs

-- A protector that passes keeps its settings through accepted frames, and goes on passing.
pub heard_kept : (s : Protector) (fs : List Figures) → passes s ≡ true → Each InRange fs → Kept s (heard s fs)
unfolding heard Each
heard_kept s [] h k = record { state = h; initial = refl; threshold = refl }
heard_kept s (f ∷ fs) h k =
    let one = one_kept s f h k.0 in
    let rest = heard_kept (analyzed s f.probability f.peak f.level) fs one.state k.1 in
    rw (stepped_analyzed s f.probability f.peak f.level h k.0)
    (record { state = rest.state; initial = rest.initial ∙ one.initial; threshold = rest.threshold ∙ one.threshold })

-- The two states and the count after accepted frames are those of `runs` after them.
pub heard_run : (s : Protector) (fs : List Figures) → passes s ≡ true → Each InRange fs → run (heard s fs) ≡ after s.threshold (run s) (frames fs)
unfolding heard frames after Each
heard_run s [] h k = refl
heard_run s (f ∷ fs) h k =
    let next = analyzed s f.probability f.peak f.level in
    let one = one_kept s f h k.0 in
    ap (λ (r : Protector). run (heard r fs)) (stepped_analyzed s f.probability f.peak f.level h k.0)
    ∙ heard_run next fs one.state k.1
    ∙ ap (λ (t : ℕ). after t (run next) (frames fs)) one.threshold
    ∙ ap (λ (r : Run State). after s.threshold r (frames fs)) (analyzed_run s f.probability f.peak f.level)

-- Speech frames are speech frames to `runs`.
pub all_speech : (fs : List Figures) → Each Speech fs → AllSpeech (frames fs)
unfolding frames Each
all_speech [] h = tt
all_speech (f ∷ fs) h = (h.0, all_speech fs h.1)

-- As many frames to `runs`.
pub frames_length : (fs : List Figures) → length (frames fs) ≡ length fs
unfolding frames
frames_length [] = refl
frames_length (f ∷ fs) = rw (frames_length fs) refl

-- A count up to the threshold is held.
pub count_held : (t count : ℕ) → count ≤ t → count ≡ held t count
count_held t count h = go (ltb count t) refl
  where
    go : (b : Bool) → ltb count t ≡ b → count ≡ held t count
    go true e = sym (held_below t count (ltb-true count t e))
    go false e =
        let least = ltb-false count t e in
        sym (held_at t count least ∙ omega arith)

-- After accepted speech frames the preliminary state has advanced by each.
pub heard_preliminary : (s : Protector) (fs : List Figures) → passes s ≡ true → Each InRange fs → Each Speech fs
    → (heard s fs).preliminary ≡ advanced_by s.preliminary (frames fs)
heard_preliminary s fs h k l =
    ap (λ (r : Run State). r.preliminary)
    (heard_run s fs h k
    ∙ after_speech s.threshold (run s) s.count (frames fs) (count_held s.threshold s.count (passed_whole s h).count) (all_speech fs l))
