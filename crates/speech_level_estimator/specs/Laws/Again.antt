-- Accepted states pass again: the one that `new` makes, and those after a frame and after a reset. And the published level keeps its range. Laws.
-- Assumes nothing.
use Rattle.std.specs.Prelude.{◌≡◌, ℕ, ◌≤◌, Bool, true, false, cond, ◌&&◌, T, [], ◌∷◌, nat_le, Float}
use Rattle.std.proofs.Common.{zero-le, leb-true, le-leb}
use Rattle.std.specs.Float.{binary32}
use Rattle.std.specs.Float.Ieee.{fits, eq}
use Rattle.std.specs.Float.Ieee.Bits.{is_true}
use Rattle.lists.specs.Tests.{each_of, each_passed, ◌and◌}
use Rattle.floats.specs.Laws.Kinds.{passed as holds}
use Rattle.units.specs.Figures.{rms, probability}
use Rattle.units.specs.Ranges.{closed}
use Rattle.units.specs.Replies.{done}
use Rattle.units.specs.Laws.Replies.{none_refused}
use Rattle.units.specs.Settings.{accepted, threshold}
use Rattle.units.specs.declared.settings.Settings.{Settings}
use Rattle.runs.specs.Runs as Runs
use Rattle.runs.specs.Runs.{Run, speech, keeps, throws, framed, published}
use Rattle.runs.specs.Laws.Counts.{longer_most}
use Rattle.speech_level_estimator.specs.Average as Average
use Rattle.speech_level_estimator.specs.Estimator.{starting_level, run, passes, fresh, updated}
use Rattle.speech_level_estimator.specs.Calls.{made, figures, stepped, restarted, level_told}
use Rattle.speech_level_estimator.specs.Held.{Held, HeldSettings, HeldEstimator}
use Rattle.speech_level_estimator.specs.declared.Estimator.{Estimator}
use Rattle.speech_level_estimator.specs.Laws.Facts.{one_value, Passed, passed, passing}
use Rattle.speech_level_estimator.specs.Laws.Advance.{advanced_passed, passed_held}
use Rattle.speech_level_estimator.specs.Laws.Level.{lowest, highest, in_closed, level_in, starting_level_in, wider, equals_itself, equal_in, starting_passed}

-- ---- of a run: what holds of both states holds of them after any frame, where advancing keeps it; and the count stays at most the threshold
module _ {S : Type 0} (Q : S → Type 0) where
  either : (b : Bool) {x y : S} → Q x → Q y → Q (cond b x y)
  either true p q = p
  either false p q = q

  framed_keeps : (b : Bool) (advance : S → S) (t : ℕ) (r : Run S) → Q r.preliminary → Q r.reliable → (T b → Q (advance r.preliminary))
      → Q (framed b advance t r).preliminary × Q (framed b advance t r).reliable
  unfolding framed Runs.advanced Runs.closed
  framed_keeps true advance t r p q k = (k tt, q)
  framed_keeps false advance t r p q k = (either (throws t r.count) q p, either (keeps t r.count) p q)

framed_count : {S : Type 0} (b : Bool) (advance : S → S) (t : ℕ) (r : Run S) → r.count ≤ t → (framed b advance t r).count ≤ t
unfolding framed Runs.advanced Runs.closed
framed_count true advance t r h = longer_most t r.count h
framed_count false advance t r h = zero-le

-- ---- what a state that passes has passed
pub record Sound (e : Estimator) : Type 0 where
  pub settings : accepted e.settings ≡ true
  pub threshold : threshold e.threshold ≡ true
  pub initial : eq e.initial (starting_level e.settings) ≡ true
  pub level : closed lowest e.level highest ≡ true
  pub count : nat_le e.count e.threshold ≡ true
  pub preliminary : Average.passes e.preliminary ≡ true
  pub reliable : Average.passes e.reliable ≡ true

-- What a state that passes has passed.
pub sound : (e : Estimator) → passes e ≡ true → Sound e
unfolding passes
sound e h =
    let p = each_of (_ ∷ _ ∷ _ ∷ _ ∷ _ ∷ _ ∷ _ ∷ []) h in
    record { settings = p 0; threshold = p 1; initial = p 2; level = p 3; count = p 4; preliminary = p 5; reliable = p 6 }

-- And what has all seven passes.
pub sounds : (e : Estimator) → Sound e → passes e ≡ true
unfolding passes
sounds e s = s.settings and s.threshold and s.initial and s.level and s.count and s.preliminary and s.reliable

-- ---- at the start
-- The state that accepted settings and a threshold in its range start with passes, with any starting level that equals theirs.
pub fresh_passes : (s : Settings) (t : ℕ) (x : Float) → HeldSettings s → T (fits binary32 x) → accepted s ≡ true → threshold t ≡ true → eq x (starting_level s) ≡ true → passes (fresh s t x) ≡ true
unfolding fresh
fresh_passes s t x held f a b c =
    let i = wider x (equal_in x (starting_level s) f (holds c) (starting_level_in s held (holds a))) in
    let p = passing (Average.starting x) (starting_passed x i) in
    sounds (fresh s t x) (record { settings = a; threshold = b; initial = c; level = is_true (closed lowest x highest) (in_closed x i); count = le-leb 0 t zero-le; preliminary = p; reliable = p })

-- The starting level of accepted settings equals itself.
pub starting_level_itself : (s : Settings) → HeldSettings s → T (accepted s) → T (eq (starting_level s) (starting_level s))
starting_level_itself s held a = equals_itself (starting_level s) (starting_level_in s held a).number

-- ---- after a frame
-- A state that passes, after a frame whose figures are accepted, passes.
pub updated_passes : (e : Estimator) (r p : Float) → HeldEstimator e → T (fits binary32 r) → T (fits binary32 p) → passes e ≡ true → T (figures r p) → passes (updated e r p) ≡ true
unfolding updated
updated_passes e r p held f g h t =
    let s = sound e h in
    let q = each_passed (rms r ∷ probability p ∷ []) t in
    let pre = passed e.preliminary held.preliminary s.preliminary in
    let rel = passed e.reliable held.reliable s.reliable in
    let next = framed (speech p) (Average.advanced r p) e.threshold (run e) in
    let both = framed_keeps Passed (speech p) (Average.advanced r p) e.threshold (run e) pre rel (λ (k : T (speech p)). advanced_passed e.preliminary r p pre f g (q 0) (q 1) k) in
    sounds (updated e r p)
    (record {
      settings = s.settings;
      threshold = s.threshold;
      initial = s.initial;
      level =
          either (λ (x : Float). closed lowest x highest ≡ true) (published (speech p) e.threshold e.count)
          (is_true (closed lowest (Average.level next.preliminary) highest) (in_closed (Average.level next.preliminary) (level_in next.preliminary both.0))) s.level;
      count = le-leb next.count e.threshold (framed_count (speech p) (Average.advanced r p) e.threshold (run e) (leb-true e.count e.threshold s.count));
      preliminary = passing next.preliminary both.0;
      reliable = passing next.reliable both.1;
    })

-- ---- of the calls: where the reply is 0, the state that comes out passes
-- A new estimator that is not refused passes.
pub made_passes : (s : Settings) (t : ℕ) → HeldSettings s → (made s t).reply ≡ done → passes (made s t).estimator ≡ true
unfolding made
made_passes s t held h =
    let ok = (none_refused true (accepted s && threshold t) true true h).1 in
    let p = each_of (accepted s ∷ threshold t ∷ []) ok in
    let a = holds (p 0) in
    let x = (starting_level_in s held a).number.held in
    rw ok (fresh_passes s t (starting_level s) held x (p 0) (p 1) (is_true (eq (starting_level s) (starting_level s)) (starting_level_itself s held a)))

-- After a frame that is not refused the state passes.
pub stepped_passes : (e : Estimator) (r p : Float) → HeldEstimator e → T (fits binary32 r) → T (fits binary32 p)
    → (stepped e r p).reply ≡ done → passes (stepped e r p).estimator ≡ true
unfolding stepped
stepped_passes e r p held f g h =
    let k = none_refused true (passes e) (figures r p) true h in
    rw (k.1 and k.2) (updated_passes e r p held f g k.1 (holds k.2))

-- After a reset that is not refused the state passes.
pub restarted_passes : (e : Estimator) → HeldEstimator e → (restarted e).reply ≡ done → passes (restarted e).estimator ≡ true
unfolding restarted
restarted_passes e held h =
    let k = (none_refused true (passes e) true true h).1 in
    let s = sound e k in
    rw k
    (fresh_passes e.settings e.threshold e.initial held.settings held.initial s.settings s.threshold s.initial)

-- Where the level is told, it lies from -90 to 30.
pub published_in_range : (e : Estimator) → (level_told e).reply ≡ done → closed lowest (level_told e).level.0 highest ≡ true
unfolding level_told
published_in_range e h =
    let k = (none_refused true (passes e) true true h).1 in
    rw k (sound e k).level

-- ---- and its numbers are f32
fresh_held : (s : Settings) (t : ℕ) (x : Float) → HeldSettings s → T (fits binary32 x) → HeldEstimator (fresh s t x)
unfolding fresh Average.starting
fresh_held s t x held f =
    let a : Held (Average.starting x) = record { sum = f; weight = one_value.number.held } in
    record { settings = held; initial = f; level = f; preliminary = a; reliable = a }

-- The numbers of a new estimator that is not refused are f32,
pub made_held : (s : Settings) (t : ℕ) → HeldSettings s → (made s t).reply ≡ done → HeldEstimator (made s t).estimator
unfolding made
made_held s t held h =
    let ok = (none_refused true (accepted s && threshold t) true true h).1 in
    rw ok (fresh_held s t (starting_level s) held (starting_level_in s held (holds (each_of (accepted s ∷ threshold t ∷ []) ok 0))).number.held)

-- and so they are after a frame
pub stepped_held : (e : Estimator) (r p : Float) → HeldEstimator e → T (fits binary32 r) → T (fits binary32 p) → (stepped e r p).reply ≡ done → HeldEstimator (stepped e r p).estimator
unfolding stepped updated
stepped_held e r p held f g h =
    let k = none_refused true (passes e) (figures r p) true h in
    let s = sound e k.1 in
    let q = each_passed (rms r ∷ probability p ∷ []) (holds k.2) in
    let pre = passed e.preliminary held.preliminary s.preliminary in
    let rel = passed e.reliable held.reliable s.reliable in
    let next = framed (speech p) (Average.advanced r p) e.threshold (run e) in
    let kept = framed_keeps Passed (speech p) (Average.advanced r p) e.threshold (run e) pre rel (λ (j : T (speech p)). advanced_passed e.preliminary r p pre f g (q 0) (q 1) j) in
    rw (k.1 and k.2)
    (record {
      settings = held.settings;
      initial = held.initial;
      level = either (λ (x : Float). T (fits binary32 x)) (published (speech p) e.threshold e.count) (level_in next.preliminary kept.0).number.held held.level;
      preliminary = passed_held next.preliminary kept.0;
      reliable = passed_held next.reliable kept.1;
    })

-- and after a reset.
pub restarted_held : (e : Estimator) → HeldEstimator e → (restarted e).reply ≡ done → HeldEstimator (restarted e).estimator
unfolding restarted
restarted_held e held h = rw (none_refused true (passes e) true true h).1 (fresh_held e.settings e.threshold e.initial held.settings held.initial)
