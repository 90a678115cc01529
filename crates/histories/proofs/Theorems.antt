-- The theorems on histories of frames and gaps, refused calls included: demand 3 for every new chain, whatever the capacity of its rings, that no call
-- changes that capacity, what a gap does, and full scale for every chain that passes. That the numbers of the events are f32 is all that is asked of them. The
-- promises of the chain's step and gap join the theorems to the code.
-- Assumes nothing.
use Rattle.std.specs.Prelude.{◌≡◌, refl, Bool, false, ◌&&◌, cond, ℕ, ◌+◌, ◌<◌}
use Rattle.std.proofs.Common.{sym, subst, ◌∙◌, arith, leb-true, lt-ltb}
use Rattle.std.proofs.Math.Path.{ap}
use Rattle.std.proofs.Math.Bool.{true}
use Rattle.std.proofs.lemmas.Bool.{false≢true}
use mathlib.Core.List.{List, [], ◌∷◌, ◌++◌}
use Rattle.lists.specs.Each.{Each, each_append}
use Rattle.lists.specs.Tests.{each_of, ◌and◌}
use Rattle.floats.specs.Laws.Kinds.{passed as holds}
use Rattle.units.specs.Replies.{done}
use Rattle.units.specs.Laws.Replies.{none_refused}
use Rattle.units.specs.Settings as Settings
use Rattle.units.specs.declared.settings.Settings.{Settings as Set}
use Rattle.frames.specs.Shape.{is_samples}
use Rattle.speech_level_estimator.specs.Average as Level
use Rattle.speech_level_estimator.specs.Estimator.{starting_level}
use Rattle.speech_level_estimator.specs.Laws.Level.{starting_level_in, wider}
use Rattle.adaptive_digital_gain_controller.specs.Range.{HeldSettings}
use Rattle.limiter.specs.Scale.{FullScale}
use Rattle.saturation_protector_buffer.specs.Ring.{is_capacity}
use Rattle.chain.specs.Chain.{published, capacities_of}
use Rattle.chain.specs.Calls.{made, fresh}
use Rattle.chain.specs.declared.Chain.{Chain}
use Rattle.chain.specs.Laws.Start.{made_fresh, made_ready, made_samples, made_capacities}
use Rattle.histories.specs.Histories.{Event, gap, is_speech, takes, next, after, only_taken, Out, out, outputs, outputs_taken}
use Rattle.histories.specs.Held.{HeldEvent, ReadyAt}
use Rattle.histories.specs.Changes.{ahead, ends, in_short, Changed, States}
use Rattle.histories.specs.Average.{figures_in, weighted, average_level}
use Rattle.histories.specs.Longest.{longest}
use Rattle.histories.specs.Laws.Ground.{Good, new_good}
use Rattle.histories.specs.Laws.Calls.{next_refused, next_ready, after_ready, out_full_scale}
use Rattle.histories.proofs.Agree.{no_difference}
use Rattle.histories.specs.Laws.Ends.{same_at_end}
use Rattle.histories.specs.Laws.Weighted.{level_after}
use Rattle.histories.specs.Laws.Start.{level_starting, at_most_minus_twenty}
use Rattle.histories.specs.Laws.Confidence.{Sure, new_sure, sure_after}
use Rattle.histories.specs.Laws.Gaps.{gap_alike, gap_publishes}
use Rattle.histories.specs.Laws.Capacity.{after_capacities}
use Rattle.histories.specs.Laws.Longest.{none_counted, longest_parted, only_parted}

-- ---- refused calls
-- "A refused call leaves [the chain] where it was, so a history is that of the accepted calls": a history leads where its accepted events alone lead, and
-- what comes out at these is what comes out of them alone.
pub accepted_alone : (n : ℕ) (c : Chain) (es : List Event) → ReadyAt n c → Each HeldEvent es
    → (after c es ≡ after c (only_taken n es)) × (outputs_taken n c es ≡ outputs c (only_taken n es))
unfolding after only_taken outputs outputs_taken Each
accepted_alone n c [] r h = (refl, refl)
accepted_alone n c (e ∷ es) r h = go (takes n e) refl (accepted_alone n (next c e) es (next_ready n c r e h.0) h.1) (accepted_alone n c es r h.1)
  where
    Alone : Chain → Type 0
    Alone x = (after x es ≡ after x (only_taken n es)) × (outputs_taken n x es ≡ outputs x (only_taken n es))

    go : (b : Bool) → takes n e ≡ b → Alone (next c e) → Alone c
        → (after (next c e) es ≡ after c (cond b (e ∷ only_taken n es) (only_taken n es)))
        × (cond b (out c e ∷ outputs_taken n (next c e) es) (outputs_taken n (next c e) es) ≡ outputs c (cond b (e ∷ only_taken n es) (only_taken n es)))
    go true taken later rest = (later.0, ap (λ (x : List Out). out c e ∷ x) later.1)
    go false taken later rest =
        let same = next_refused n c r e taken in
        (ap (λ (x : Chain). after x es) same ∙ rest.0, ap (λ (x : Chain). outputs_taken n x es) same ∙ rest.1)

-- the accepted events of a history are f32 where all are
only_held : (n : ℕ) (es : List Event) → Each HeldEvent es → Each HeldEvent (only_taken n es)
unfolding only_taken Each
only_held n [] h = tt
only_held n (e ∷ es) h = go (takes n e) (only_held n es h.1)
  where
    go : (b : Bool) → Each HeldEvent (only_taken n es) → Each HeldEvent (cond b (e ∷ only_taken n es) (only_taken n es))
    go true rest = (h.0, rest)
    go false rest = rest

-- ---- demand 3, of a chain that is new and was not refused, with rings of any capacity
module _ (s : Set) (t n capacity : ℕ) (held : HeldSettings s) (new : (made s t n capacity).reply ≡ done) where
  abbrev chain : Chain
  chain = (made s t n capacity).chain

  chain_ready : ReadyAt n chain
  chain_ready = record { ready = made_ready s t n capacity held new; samples = made_samples s t n capacity held new }

  module _ (two : 1 < t) where
    chain_good : Good t 0 chain
    chain_good = subst (Good t 0) (sym (made_fresh s t n capacity held new)) (new_good s t n capacity (omega (arith, two)))

    module _ (es ds : List Event) (first : Each HeldEvent es) (second : Each HeldEvent ds) where
      both : (changed : Changed n t 0 es ds) → (outputs chain es ≡ outputs chain ds) × States false chain chain changed
      both changed = no_difference n t two changed false chain chain (refl, chain_good) refl chain_ready chain_ready first second

      -- "every published level, headroom, confidence and gain, and every output sample of every frame, is bit-equal"
      pub no_trace : Changed n t 0 es ds → outputs chain es ≡ outputs chain ds
      no_trace changed = (both changed).0

      -- "and the whole state wherever no such run is open"
      pub no_trace_states : (changed : Changed n t 0 es ds) → States false chain chain changed
      no_trace_states changed = (both changed).1

      -- so at the end, when all of them are closed.
      pub no_trace_after : Changed n t 0 es ds → after chain es ≡ after chain ds
      no_trace_after changed = same_at_end n changed false chain chain (λ (h : false ≡ false). refl) (λ (h : false ≡ true). absurd (false≢true h)) (no_trace_states changed)

    -- The same where the accepted events of two histories differ so, whatever was refused in each.
    pub no_trace_accepted : (es ds : List Event) → Each HeldEvent es → Each HeldEvent ds → Changed n t 0 (only_taken n es) (only_taken n ds)
        → (outputs_taken n chain es ≡ outputs_taken n chain ds) × (after chain es ≡ after chain ds)
    no_trace_accepted es ds first second changed =
        let a = accepted_alone n chain es chain_ready first in
        let b = accepted_alone n chain ds chain_ready second in
        let f = only_held n es first in
        let g = only_held n ds second in
        (a.1 ∙ no_trace (only_taken n es) (only_taken n ds) f g changed ∙ sym b.1, a.0 ∙ no_trace_after (only_taken n es) (only_taken n ds) f g changed ∙ sym b.0)

  -- what was accepted of the settings and the threshold
  settings_taken : (Settings.accepted s ≡ true) × (Settings.threshold t ≡ true)
  unfolding made
  settings_taken =
      let p = each_of (_ ∷ _ ∷ _ ∷ []) (none_refused (is_samples n) (Settings.accepted s && Settings.threshold t && is_capacity capacity) true true new).1 in
      (p 0, p 1)

  start_level : Level.level (Level.starting (starting_level s)) ≡ starting_level s
  start_level =
      let i = starting_level_in s (record { headroom = held.headroom; initial = held.initial }) (holds settings_taken.0) in
      let b = at_most_minus_twenty _ (starting_level s) i in
      level_starting (starting_level s) (wider (starting_level s) i) b.0 b.1

  -- "The published level after any history is [the] weighted average .. over exactly: the initial level with weight 1; then the frames of closed runs that
  -- reached the threshold; then the current run's, once it has reached it; clamped to -90 and 30." Also for a threshold of 1.
  pub published_average : (es : List Event) → Each HeldEvent es → (published (after chain es)).level.0 ≡ average_level s t (only_taken n es)
  published_average es numbers =
      ap (λ (c : Chain). (after c es).estimator.level) (made_fresh s t n capacity held new)
      ∙ level_after n t s n capacity es (leb-true 1 t (each_of (_ ∷ _ ∷ []) settings_taken.1 0)) start_level (subst (ReadyAt n) (made_fresh s t n capacity held new) chain_ready) numbers

  -- ---- the rings
  -- Both rings have the capacity that was asked for, and "no accepted call changes it"; no refused one does either. So it is after any history, and
  -- nothing is asked of its events.
  pub capacities_kept : (es : List Event) → capacities_of (after chain es) ≡ (capacity, capacity)
  capacities_kept es = after_capacities chain es ∙ made_capacities s t n capacity held new

  -- ---- gaps
  chain_sure : Sure chain.estimator
  unfolding fresh
  chain_sure = rw (made_fresh s t n capacity held new) (new_sure s t (starting_level s))

  -- A gap "moves no gain", and no other published figure: after any history level, headroom, gain and confidence are as they were before it. Also for a
  -- threshold of 1.
  pub gap_changes_no_figure : (es : List Event) → Each HeldEvent es → published (next (after chain es) gap) ≡ published (after chain es)
  gap_changes_no_figure es numbers = gap_publishes n (after chain es) (after_ready n chain es chain_ready numbers) (sure_after n chain es chain_ready numbers chain_sure)

  -- Where no run reaches the threshold, the published level stays the starting level.
  pub short_runs_unpublished : (es : List Event) → Each HeldEvent es → longest (only_taken n es) < t → (published (after chain es)).level.0 ≡ starting_level s
  unfolding average_level weighted figures_in
  short_runs_unpublished es numbers short =
      published_average es numbers
      ∙ ap (λ (fs : List Event). Level.level (weighted (Level.starting (starting_level s)) (figures_in fs))) (none_counted t (only_taken n es) short)
      ∙ start_level

  -- "A lost frame must break the run": speech frames on either side of a gap are not joined. Where no run before it and none after it reaches the threshold,
  -- none does.
  pub no_run_joined : (es ds : List Event) → Each HeldEvent es → Each HeldEvent ds → longest (only_taken n es) < t → longest (only_taken n ds) < t
      → (published (after chain (es ++ gap ∷ ds))).level.0 ≡ starting_level s
  unfolding Each
  no_run_joined es ds first second before behind =
      short_runs_unpublished (es ++ gap ∷ ds) (each_append HeldEvent es (gap ∷ ds) first (tt, second))
      (rw (only_parted n es ds) (omega (arith, longest_parted (only_taken n es) (only_taken n ds), before, behind)))

-- "It ends the run as a non-speech frame does, sets the controller's waiting count back to T": a gap leaves the estimator, the protector and the waiting
-- count that any event leaves that is taken and is not speech.
pub gap_ends_the_run : (n : ℕ) (c : Chain) (e : Event) → ReadyAt n c → takes n e ≡ true → is_speech e ≡ false
    → ((next c gap).estimator ≡ (next c e).estimator) × ((next c gap).protector ≡ (next c e).protector) × ((next c gap).controller.waiting ≡ (next c e).controller.waiting)
gap_ends_the_run n c e r taken silent = gap_alike n c r e taken silent

-- "a gap closes a run too": a speech frame before a gap belongs to a run that is closed there, so that demand 3 speaks of it where the run is short.
pub gap_closes_a_run : (n t k : ℕ) (e : Event) (es : List Event) → takes n e ≡ true → is_speech e ≡ true → k + 1 < t → in_short n t k e (gap ∷ es) ≡ true
unfolding in_short only_taken takes ends ahead is_speech
gap_closes_a_run n t k e es taken spoken short = taken and spoken and refl and lt-ltb (k + 1 + 0) t (omega (arith, short))

-- ---- full scale
-- "Every sample that comes out of any accepted chain step lies between -32768 and 32767":
pub step_full_scale : (n : ℕ) (c : Chain) (e : Event) → ReadyAt n c → HeldEvent e → takes n e ≡ true → FullScale (out c e).sound
step_full_scale n c e r h taken = out_full_scale n c r e h taken

-- and so in every history.
pub all_full_scale_lem : (n : ℕ) (c : Chain) (es : List Event) → ReadyAt n c → Each HeldEvent es → Each (λ (x : Out). FullScale x.sound) (outputs_taken n c es)
unfolding outputs_taken Each
all_full_scale_lem n c [] r h = tt
all_full_scale_lem n c (e ∷ es) r h = go (takes n e) refl (all_full_scale_lem n (next c e) es (next_ready n c r e h.0) h.1)
  where
    go : (b : Bool) → takes n e ≡ b → Each (λ (x : Out). FullScale x.sound) (outputs_taken n (next c e) es)
        → Each (λ (x : Out). FullScale x.sound) (cond b (out c e ∷ outputs_taken n (next c e) es) (outputs_taken n (next c e) es))
    go true taken rest = (step_full_scale n c e r h.0 taken, rest)
    go false taken rest = rest
