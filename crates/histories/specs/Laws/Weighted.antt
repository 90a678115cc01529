-- The published level after any history is the weighted average over the initial level and the frames that count. Laws.
-- Assumes nothing.
use Rattle.std.specs.Prelude.{◌≡◌, Bool, ℕ, ◌≤◌, leb, length, Float}
use Rattle.std.proofs.Math.Path.{refl, ap}
use Rattle.std.proofs.Common.{sym, ◌∙◌}
use Rattle.std.proofs.Math.Bool.{true, false, cond}
use mathlib.Core.List.{List, [], ◌∷◌, ◌++◌, map}
use Rattle.lists.specs.Each.{Each}
use Rattle.units.specs.declared.settings.Settings.{Settings}
use Rattle.runs.specs.Runs.{framed, published}
use Rattle.runs.specs.Histories.{Frame, advanced_by, reached, counting, counted, Shown, showing, shown_after}
use Rattle.runs.proofs.Published.{published_after}
use Rattle.speech_level_estimator.specs.Average as Level
use Rattle.speech_level_estimator.specs.Estimator as Estimators
use Rattle.speech_level_estimator.specs.declared.Average.{Average}
use Rattle.chain.specs.Calls.{stepped, interrupted, fresh}
use Rattle.chain.specs.declared.Chain.{Chain}
use Rattle.histories.specs.Histories.{Event, frame, gap, is_speech, takes, only_taken, next, after}
use Rattle.histories.specs.Held.{HeldEvent, ReadyAt}
use Rattle.histories.specs.Average.{figures_in, weighted, average_level}
use Rattle.histories.specs.Laws.Parts.{shown_level, level_frame}
use Rattle.histories.specs.Laws.Steps.{step_of}
use Rattle.histories.specs.Laws.Calls.{next_is, next_refused, next_ready}

-- ---- the frames that count, of a list and of what it is mapped to
module _ {A B : Type 0} (g : A → B) (t : ℕ) where
  map_length : (xs : List A) → length (map g xs) ≡ length xs
  map_length [] = refl
  map_length (x ∷ xs) = rw (map_length xs) refl

  map_append : (xs ys : List A) → map g (xs ++ ys) ≡ map g xs ++ map g ys
  map_append [] ys = refl
  map_append (x ∷ xs) ys = rw (map_append xs ys) refl

  reached_map : (run : List A) → reached t (map g run) ≡ map g (reached t run)
  unfolding reached
  reached_map run = rw (map_length run) (go (leb t (length run)))
    where
      go : (b : Bool) → cond b (map g run) [] ≡ map g (cond b run [])
      go true = refl
      go false = refl

  counting_map : (p : A → Bool) (q : B → Bool) → ((x : A) → q (g x) ≡ p x) → (run xs : List A) → counting q t (map g run) (map g xs) ≡ map g (counting p t run xs)
  unfolding counting
  counting_map p q same run [] = reached_map run
  counting_map p q same run (x ∷ xs) =
      rw (same x)
      (go (p x) (ap (λ (z : List B). counting q t z (map g xs)) (sym (map_append run (x ∷ []))) ∙ counting_map p q same (run ++ x ∷ []) xs) (counting_map p q same [] xs))
    where
      joined : List B
      joined = counting q t (map g run ++ g x ∷ []) (map g xs)

      afresh : List B
      afresh = counting q t [] (map g xs)

      go : (b : Bool) → joined ≡ map g (counting p t (run ++ x ∷ []) xs) → afresh ≡ map g (counting p t [] xs)
          → cond b joined (reached t (map g run) ++ afresh) ≡ map g (cond b (counting p t (run ++ x ∷ []) xs) (reached t run ++ counting p t [] xs))
      go true e f = e
      go false e f = rw (reached_map run, f) (sym (map_append (reached t run) (counting p t [] xs)))

-- ---- an event as the run of the level meets it: a gap is no speech, and no average advances by it
unfoldable frame_of : Event → Frame Average
frame_of (frame f s) = level_frame f.rms.0 f.probability
frame_of gap = record { speech = false; advance = λ a. a }

frame_speech : (e : Event) → (frame_of e).speech ≡ is_speech e
unfolding frame_of is_speech
frame_speech (frame f s) = refl
frame_speech gap = refl

-- An average that events advance is one with their figures more.
weighted_map : (a : Average) (es : List Event) → advanced_by a (map frame_of es) ≡ weighted a (figures_in es)
unfolding advanced_by weighted figures_in frame_of
weighted_map a [] = refl
weighted_map a (frame f s ∷ es) = weighted_map (Level.advanced f.rms.0 f.probability a) es
weighted_map a (gap ∷ es) = weighted_map a es

-- ---- the level estimator of a chain after a history
-- a step is an event to the run of the estimator, and to what it publishes
step_shown : (c : Chain) (e : Event) → shown_level (step_of c e).chain.estimator ≡ showing Level.level c.estimator.threshold (frame_of e) (shown_level c.estimator)
unfolding step_of stepped interrupted Estimators.updated Estimators.interrupted showing framed published frame_of
step_shown c (frame f s) = refl
step_shown c gap = refl

step_threshold : (c : Chain) (e : Event) → (step_of c e).chain.estimator.threshold ≡ c.estimator.threshold
unfolding step_of stepped interrupted Estimators.updated Estimators.interrupted
step_threshold c (frame f s) = refl
step_threshold c gap = refl

module _ (n t : ℕ) where
  abbrev shown_by : Shown Average Float → List Event → Shown Average Float
  shown_by x es = shown_after Level.level t x (map frame_of es)

  -- The run and the published level after a history are those of `runs` after the events of it that are taken.
  shown_after_lem : (c : Chain) (es : List Event) → c.estimator.threshold ≡ t → ReadyAt n c → Each HeldEvent es → shown_level (after c es).estimator ≡ shown_by (shown_level c.estimator) (only_taken n es)
  unfolding after shown_after Each only_taken
  shown_after_lem c [] h r held = refl
  shown_after_lem c (e ∷ es) h r held =
      go (takes n e) refl (λ same. shown_after_lem (next c e) es same (next_ready n c r e held.0) held.1) (shown_after_lem c es h r held.1)
    where
      go : (b : Bool) → takes n e ≡ b
          → ((next c e).estimator.threshold ≡ t → shown_level (after (next c e) es).estimator ≡ shown_by (shown_level (next c e).estimator) (only_taken n es))
          → shown_level (after c es).estimator ≡ shown_by (shown_level c.estimator) (only_taken n es)
          → shown_level (after (next c e) es).estimator ≡ shown_by (shown_level c.estimator) (cond b (e ∷ only_taken n es) (only_taken n es))
      go true taken later rest =
          let is = next_is n c r e taken in
          let one : shown_level (next c e).estimator ≡ showing Level.level t (frame_of e) (shown_level c.estimator) =
          ap (λ (z : Chain). shown_level z.estimator) is ∙ step_shown c e ∙ ap (λ (z : ℕ). showing Level.level z (frame_of e) (shown_level c.estimator)) h in
          later (ap (λ (z : Chain). z.estimator.threshold) is ∙ step_threshold c e ∙ h) ∙ ap (λ (z : Shown Average Float). shown_by z (only_taken n es)) one
      go false taken later rest = ap (λ (z : Chain). shown_level (after z es).estimator) (next_refused n c r e taken) ∙ rest

  -- From a new chain, whose level is that of its starting average, it is the weighted average.
  pub level_after : (s : Settings) (samples capacity : ℕ) (es : List Event) → 1 ≤ t → Level.level (Level.starting (Estimators.starting_level s)) ≡ Estimators.starting_level s
      → ReadyAt n (fresh s t samples capacity) → Each HeldEvent es → (after (fresh s t samples capacity) es).estimator.level ≡ average_level s t (only_taken n es)
  unfolding fresh Estimators.fresh average_level
  level_after s samples capacity es one start r held =
      let first = Level.starting (Estimators.starting_level s) in
      let fs = map frame_of (only_taken n es) in
      ap (λ (z : Shown Average Float). z.value) (shown_after_lem (fresh s t samples capacity) es refl r held)
      ∙ ap (λ (z : Float). (shown_after Level.level t (record { run = record { preliminary = first; reliable = first; count = 0 }; value = z }) fs).value) (sym start)
      ∙ published_after Level.level t first fs one
      ∙ ap (λ (z : List (Frame Average)). Level.level (advanced_by first z)) (counting_map frame_of t is_speech (λ (f : Frame Average). f.speech) frame_speech [] (only_taken n es))
      ∙ ap Level.level (weighted_map first (counted is_speech t (only_taken n es)))
