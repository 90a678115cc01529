-- The estimator's two states and its count are a run of `runs`, so what holds of every run holds of it: a run of speech frames that is shorter than the
-- threshold and closed by a frame that is not speech leaves no trace. Laws.
-- Assumes nothing.
use Rattle.std.specs.Prelude.{◌≡◌, ℕ, suc, ◌+◌, ◌<◌, true, false, ◌&&◌, List, [], ◌∷◌, length, refl}
use Rattle.std.proofs.Common.{ap, ◌∙◌, arith}
use borrow.Author.Tests.{lt-leb}
use Rattle.lists.specs.Each.{Each}
use Rattle.units.specs.Replies.{done, refusal}
use Rattle.units.specs.Laws.Replies.{none_refused}
use Rattle.units.specs.Settings.{accepted, threshold}
use Rattle.units.specs.declared.settings.Settings.{Settings}
use Rattle.runs.specs.Runs as Runs
use Rattle.runs.specs.Runs.{Run, speech, framed, published}
use Rattle.runs.specs.Histories.{after, AllSpeech, Settled}
use Rattle.runs.specs.Laws.Counts.{longer_below}
use Rattle.runs.proofs.Short.{framed_settled, short_run}
use Rattle.speech_level_estimator.specs.Average as Average
use Rattle.speech_level_estimator.specs.Estimator.{run, passes, fresh, updated}
use Rattle.speech_level_estimator.specs.Calls.{made, stepped, restarted}
use Rattle.speech_level_estimator.specs.Histories.{Pair, Accepted, fed_one, fed, frames, Ready, Untouched}
use Rattle.speech_level_estimator.specs.declared.Average.{Average as State}
use Rattle.speech_level_estimator.specs.declared.Estimator.{Estimator}
use Rattle.speech_level_estimator.specs.Laws.Again.{stepped_passes, stepped_held}

-- An accepted frame is not refused,
pub accepted_done : (e : Estimator) (f : Pair) → passes e ≡ true → Accepted f → (stepped e f.rms f.probability).reply ≡ done
unfolding stepped refusal
accepted_done e f h a = rw (h, a.inside) refl

-- and it is an update.
pub accepted_updates : (e : Estimator) (f : Pair) → passes e ≡ true → Accepted f → fed_one e f ≡ updated e f.rms f.probability
unfolding stepped
accepted_updates e f h a = rw (h, a.inside) refl

-- The two states and the count after an accepted frame are those of the run.
pub accepted_run : (e : Estimator) (f : Pair) → passes e ≡ true → Accepted f → run (fed_one e f) ≡ framed (speech f.probability) (Average.advanced f.rms f.probability) e.threshold (run e)
accepted_run e f h a = rw (accepted_updates e f h a) (unfold updated in refl)

-- The threshold stays.
pub accepted_threshold : (e : Estimator) (f : Pair) → passes e ≡ true → Accepted f → (fed_one e f).threshold ≡ e.threshold
accepted_threshold e f h a = rw (accepted_updates e f h a) (unfold updated in refl)

-- The estimator still passes, and its numbers are f32.
pub accepted_ready : (e : Estimator) (f : Pair) → Ready e → Accepted f → Ready (fed_one e f)
accepted_ready e f h a =
    let d = accepted_done e f h.passes a in
    record {
      passes = stepped_passes e f.rms f.probability h.held a.rms a.probability d;
      held = stepped_held e f.rms f.probability h.held a.rms a.probability d;
    }

-- ---- accepted frames one after the other
-- After them the estimator still passes,
pub fed_ready : (e : Estimator) (fs : List Pair) → Ready e → Each Accepted fs → Ready (fed e fs)
unfolding fed Each
fed_ready e [] h a = h
fed_ready e (f ∷ fs) h a = fed_ready (fed_one e f) fs (accepted_ready e f h a.0) a.1

-- its threshold is what it was,
pub fed_threshold : (e : Estimator) (fs : List Pair) → Ready e → Each Accepted fs → (fed e fs).threshold ≡ e.threshold
unfolding fed Each
fed_threshold e [] h a = refl
fed_threshold e (f ∷ fs) h a = fed_threshold (fed_one e f) fs (accepted_ready e f h a.0) a.1 ∙ accepted_threshold e f h.passes a.0

-- and its two states and its count are those of the run.
pub fed_run : (e : Estimator) (fs : List Pair) → Ready e → Each Accepted fs → run (fed e fs) ≡ after e.threshold (run e) (frames fs)
unfolding fed frames after Each
fed_run e [] h a = refl
fed_run e (f ∷ fs) h a =
    fed_run (fed_one e f) fs (accepted_ready e f h a.0) a.1
    ∙ rw (accepted_threshold e f h.passes a.0, accepted_run e f h.passes a.0) refl

-- each of these frames is speech
abbrev pub Spoken : List Pair → Type 0
Spoken fs = Each (λ f. speech f.probability ≡ true) fs

spoken_frames : (fs : List Pair) → Spoken fs → AllSpeech (frames fs)
unfolding frames Each
spoken_frames [] s = s
spoken_frames (f ∷ fs) s = (s.0, spoken_frames fs s.1)

as_many : (fs : List Pair) → length (frames fs) ≡ length fs
unfolding frames
as_many [] = refl
as_many (f ∷ fs) = ap suc (as_many fs)

-- A speech frame with which the run is still shorter than the threshold makes it one longer,
spoken_count : (e : Estimator) (f : Pair) → passes e ≡ true → Accepted f → speech f.probability ≡ true → e.count < e.threshold → (fed_one e f).count ≡ e.count + 1
spoken_count e f h a s k =
    rw (accepted_updates e f h a) (unfold updated framed Runs.advanced in rw s (longer_below e.threshold e.count k))

-- and publishes nothing.
spoken_level : (e : Estimator) (f : Pair) → passes e ≡ true → Accepted f → speech f.probability ≡ true → e.count + 1 < e.threshold → (fed_one e f).level ≡ e.level
spoken_level e f h a s k =
    let below : e.count < e.threshold = omega arith in
    rw (accepted_updates e f h a) (unfold updated published in rw (s, longer_below e.threshold e.count below, lt-leb e.threshold (e.count + 1) k) refl)

-- Neither does a frame that is not speech.
quiet_level : (e : Estimator) (f : Pair) → passes e ≡ true → Accepted f → speech f.probability ≡ false → (fed_one e f).level ≡ e.level
quiet_level e f h a s = rw (accepted_updates e f h a) (unfold updated published in rw s refl)

-- While a run is shorter than the threshold, nothing is published.
pub short_level : (e : Estimator) (fs : List Pair) → Ready e → Each Accepted fs → Spoken fs → e.count + length fs < e.threshold → (fed e fs).level ≡ e.level
unfolding fed Each
short_level e [] h a s k = refl
short_level e (f ∷ fs) h a s k =
    let few : e.count + 1 < e.threshold = omega arith in
    let below : e.count < e.threshold = omega arith in
    let count = spoken_count e f h.passes a.0 s.0 below in
    let same = accepted_threshold e f h.passes a.0 in
    short_level (fed_one e f) fs (accepted_ready e f h a.0) a.1 s.1 (rw (count, same) (omega arith)) ∙ spoken_level e f h.passes a.0 s.0 few

-- a frame that is not speech closes the run
closes : (advance : State → State) (t : ℕ) (r : Run State) → framed false advance t r ≡ Runs.closed t r
unfolding framed
closes advance t r = refl

-- A run of accepted speech frames that is shorter than the threshold, closed by an accepted frame that is not speech, leaves no trace in a settled estimator.
pub short_run_untouched : (e : Estimator) (fs : List Pair) (f : Pair) → Ready e → Each Accepted fs → Accepted f → 1 < e.threshold → Settled (run e) → e.count ≡ 0
    → Spoken fs → length fs < e.threshold → speech f.probability ≡ false → Untouched e (fed_one (fed e fs) f)
short_run_untouched e fs f h a b more settled none spoken short quiet =
    let r = fed_ready e fs h a in
    let few : length (frames fs) < e.threshold = rw (as_many fs) short in
    record {
      run =
          accepted_run (fed e fs) f r.passes b
          ∙ rw (quiet, fed_threshold e fs h a, fed_run e fs h a) (closes (Average.advanced f.rms f.probability) e.threshold (after e.threshold (run e) (frames fs)) ∙ short_run e.threshold (run e) (frames fs) more settled none (spoken_frames fs spoken) few);
      level = quiet_level (fed e fs) f r.passes b quiet ∙ short_level e fs h a spoken (rw none (omega arith));
    }

-- ---- which estimators are settled
-- A new one that is not refused is,
pub made_settled : (s : Settings) (t : ℕ) → (made s t).reply ≡ done → Settled (run (made s t).estimator)
unfolding made fresh
made_settled s t h = rw (none_refused true (accepted s && threshold t) true true h).1 (record { same = λ (e : ◌≡◌ {A = ℕ} 0 0). refl })

-- a settled one is still after an accepted frame, where the threshold is two or more,
pub accepted_settled : (e : Estimator) (f : Pair) → passes e ≡ true → Accepted f → 1 < e.threshold → Settled (run e) → Settled (run (fed_one e f))
accepted_settled e f h a more s =
    rw (accepted_run e f h a) (framed_settled e.threshold (speech f.probability) (Average.advanced f.rms f.probability) (run e) more s)

-- and any is after a reset that is not refused.
pub restarted_settled : (e : Estimator) → (restarted e).reply ≡ done → Settled (run (restarted e).estimator)
unfolding restarted fresh
restarted_settled e h = rw (none_refused true (passes e) true true h).1 (record { same = λ (k : ◌≡◌ {A = ℕ} 0 0). refl })
