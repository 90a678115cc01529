-- A chain at the start passes, and its numbers are f32. Laws.
-- Assumes nothing.
use Rattle.std.specs.Prelude.{◌≡◌, refl, Bool, ◌&&◌, [], ◌∷◌, ℕ, Float}
use Rattle.std.proofs.Common.{sym, ◌∙◌}
use Rattle.std.proofs.Math.Path.{ap, ap₂, subst}
use Rattle.std.proofs.Math.Bool.{true, cond}
use borrow.Author.Tests.{eq-eqb}
use Rattle.std.proofs.Math.Dec.{eqb}
use Rattle.std.specs.Float.{binary32}
use Rattle.std.specs.Float.Ieee.{of_bits, eq, le, lt}
use Rattle.std.specs.Float.Ieee.Bits.{of_bits-fits}
use Rattle.lists.specs.Tests.{each_of, ◌and◌}
use Rattle.units.specs.Figures as Range
use Rattle.units.specs.Replies.{done, refusal}
use Rattle.units.specs.Laws.Replies.{none_refused}
use Rattle.units.specs.Settings as Settings
use Rattle.units.specs.declared.settings.Settings.{Settings as Set}
use Rattle.frames.specs.Shape.{is_samples}
use Rattle.speech_level_estimator.specs.Estimator as Level
use Rattle.speech_level_estimator.specs.Calls as Levels
use Rattle.speech_level_estimator.specs.Held as LevelHeld
use Rattle.speech_level_estimator.specs.Laws.Again as LevelAgain
use Rattle.saturation_protector_buffer.specs.Ring as Ring
use Rattle.saturation_protector_buffer.specs.Ring.{is_capacity}
use Rattle.saturation_protector.specs.Peaks as Peaks
use Rattle.saturation_protector.specs.Protector as Headroom
use Rattle.saturation_protector.specs.Calls as Headrooms
use Rattle.saturation_protector.specs.Laws.Again as HeadroomAgain
use Rattle.adaptive_digital_gain_controller.specs.Controller as Gain
use Rattle.adaptive_digital_gain_controller.specs.Calls as Gaining
use Rattle.adaptive_digital_gain_controller.specs.Range as GainRange
use Rattle.adaptive_digital_gain_controller.specs.Laws.Calls as GainCalls
use Rattle.fixed_digital_level_estimator.specs.Estimator as Envelope
use Rattle.limiter.specs.Limiter as Limiting
use Rattle.limiter.specs.Scale as Scale
use Rattle.limiter.specs.Laws.States as LimiterStates
use Rattle.chain.specs.Chain.{initial, alike, samples_of, capacities_of}
use Rattle.chain.specs.Calls.{fresh, nothing, made}
use Rattle.chain.specs.Held.{HeldProtector, Ready}
use Rattle.chain.specs.Laws.Passing.{passing, alike_itself}
use Rattle.chain.specs.declared.Chain.{Chain}

-- nothing fails, so nothing is refused
unrefused : (b : Bool) → b ≡ true → refusal true b true true ≡ done
unfolding refusal
unrefused b h = ap (λ (x : Bool). refusal true x true true) h

unrefused_figure : (a b : Bool) → a ≡ true → b ≡ true → refusal true a b true ≡ done
unfolding refusal
unrefused_figure a b p q = ap₂ (λ (x y : Bool). refusal true x y true) p q

shaped : (b : Bool) → b ≡ true → refusal b true true true ≡ done
unfolding refusal
shaped b h = ap (λ (x : Bool). refusal x true true true) h

-- ---- the four parts
initial_headroom : Range.headroom initial ≡ true
unfolding le lt eq of_bits
initial_headroom = refl

initial_itself : eq initial initial ≡ true
unfolding eq of_bits
initial_itself = refl

headroom_held : (t n : ℕ) → HeldProtector (Headroom.fresh initial t n)
unfolding Headroom.fresh Peaks.starting
headroom_held t n = record { headroom = of_bits-fits binary32 0x41a0_0000; preliminary = of_bits-fits binary32 0x41a0_0000; reliable = of_bits-fits binary32 0x41a0_0000 }

level_settings : (s : Set) → GainRange.HeldSettings s → LevelHeld.HeldSettings s
level_settings s h = record { headroom = h.headroom; initial = h.initial }

module _ (s : Set) (t : ℕ) (h : GainRange.HeldSettings s) (ok : Settings.accepted s && Settings.threshold t ≡ true) where
  level_is : (Levels.made s t).estimator ≡ Level.fresh s t (Level.starting_level s)
  unfolding Levels.made
  level_is = ap (λ (b : Bool). cond b (Level.fresh s t (Level.starting_level s)) Level.nothing) ok

  level_done : (Levels.made s t).reply ≡ done
  unfolding Levels.made
  level_done = unrefused (Settings.accepted s && Settings.threshold t) ok

  level_passes : Level.passes (Level.fresh s t (Level.starting_level s)) ≡ true
  level_passes = ap Level.passes (sym level_is) ∙ LevelAgain.made_passes s t (level_settings s h) level_done

  level_held : LevelHeld.HeldEstimator (Level.fresh s t (Level.starting_level s))
  level_held = subst LevelHeld.HeldEstimator level_is (LevelAgain.made_held s t (level_settings s h) level_done)

  gain_is : (Gaining.made s t).controller ≡ Gain.fresh s t
  unfolding Gaining.made
  gain_is = ap (λ (b : Bool). cond b (Gain.fresh s t) Gain.nothing) ok

  gain_done : (Gaining.made s t).reply ≡ done
  unfolding Gaining.made
  gain_done = unrefused (Settings.accepted s && Settings.threshold t) ok

  gain_ready : GainRange.Ready (Gain.fresh s t)
  gain_ready = subst GainRange.Ready gain_is (GainCalls.made_ready s t h gain_done)

module _ (samples : ℕ) (ok : is_samples samples ≡ true) where
  limiter_is : (Limiting.made samples).limiter ≡ Limiting.starting samples
  unfolding Limiting.made
  limiter_is = ap (λ (b : Bool). cond b (Limiting.starting samples) Limiting.none) ok

  limiter_ready : Scale.Ready (Limiting.starting samples)
  unfolding Limiting.made
  limiter_ready = subst Scale.Ready limiter_is (LimiterStates.made_passes samples (shaped (is_samples samples) ok))

starting_samples : (samples : ℕ) → (Limiting.starting samples).estimator.samples ≡ samples
unfolding Limiting.starting Envelope.sized_to
starting_samples samples = refl

-- what each part of a new chain has in common with the others
fresh_level : (s : Set) (t : ℕ) (x : Float) → ((Level.fresh s t x).threshold ≡ t) × ((Level.fresh s t x).settings ≡ s)
unfolding Level.fresh
fresh_level s t x = (refl, refl)

fresh_headroom : (x : Float) (t n : ℕ) → ((Headroom.fresh x t n).threshold ≡ t) × ((Headroom.fresh x t n).initial ≡ x)
unfolding Headroom.fresh
fresh_headroom x t n = (refl, refl)

fresh_gain : (s : Set) (t : ℕ) → ((Gain.fresh s t).threshold ≡ t) × ((Gain.fresh s t).settings ≡ s)
unfolding Gain.fresh
fresh_gain s t = (refl, refl)

-- ---- the chain
module _ (s : Set) (t samples capacity : ℕ) (h : GainRange.HeldSettings s) where
  -- A chain of accepted settings, a threshold and a capacity in their ranges and a shape's samples passes at the start, and its numbers are f32.
  pub fresh_ready : Settings.accepted s ≡ true → Settings.threshold t ≡ true → is_capacity capacity ≡ true → is_samples samples ≡ true → Ready (fresh s t samples capacity)
  unfolding fresh
  fresh_ready a b d n =
      let ok = a and b in
      let x = Level.starting_level s in
      let e = fresh_level s t x in
      let p = fresh_headroom initial t capacity in
      let g = fresh_gain s t in
      let gain = gain_ready s t h ok in
      let limiter = limiter_ready samples n in
      record {
        held =
            record {
              estimator = level_held s t h ok;
              protector = headroom_held t capacity;
              controller = gain.held;
              level = limiter.level;
              carried = limiter.carried;
            };
        state = passing (fresh s t samples capacity)
            (record {
              estimator = level_passes s t h ok;
              protector = HeadroomAgain.fresh_passes initial t capacity initial_headroom b d;
              controller = gain.state;
              limiter = limiter.state;
              second = ap₂ eqb e.0 p.0 ∙ eq-eqb t t refl;
              third = ap₂ eqb e.0 g.0 ∙ eq-eqb t t refl;
              settings = ap₂ alike e.1 g.1 ∙ alike_itself s h a;
              start = ap (λ (y : Float). eq y initial) p.1 ∙ initial_itself;
            });
      }

  -- Its samples are those that were asked for.
  pub fresh_samples : samples_of (fresh s t samples capacity) ≡ samples
  unfolding fresh
  fresh_samples = starting_samples samples

  module _ (k : (made s t samples capacity).reply ≡ done) where
    tests : (is_samples samples ≡ true) × (Settings.accepted s && Settings.threshold t && is_capacity capacity ≡ true)
    unfolding made
    tests = let q = none_refused (is_samples samples) (Settings.accepted s && Settings.threshold t && is_capacity capacity) true true k in (q.0, q.1)

    -- A new chain that is not refused is the one at the start,
    pub made_fresh : (made s t samples capacity).chain ≡ fresh s t samples capacity
    unfolding made
    made_fresh = ap (λ (b : Bool). cond b (fresh s t samples capacity) nothing) (tests.0 and tests.1)

    -- so it passes, and its numbers are f32,
    pub made_ready : Ready (made s t samples capacity).chain
    made_ready =
        let p = each_of (Settings.accepted s ∷ Settings.threshold t ∷ is_capacity capacity ∷ []) tests.1 in
        subst Ready (sym made_fresh) (fresh_ready (p 0) (p 1) (p 2) tests.0)

    -- its samples are those that were asked for,
    pub made_samples : samples_of (made s t samples capacity).chain ≡ samples
    made_samples = ap (λ (c : Chain). samples_of c) made_fresh ∙ fresh_samples

    -- and so is the capacity of both rings.
    pub made_capacities : capacities_of (made s t samples capacity).chain ≡ (capacity, capacity)
    unfolding fresh Headroom.fresh Peaks.starting Ring.empty
    made_capacities = ap (λ (c : Chain). capacities_of c) made_fresh

-- ---- as the code makes it: each part by its own call
unfoldable pub four : Set → ℕ → ℕ → ℕ → Chain
four s t samples capacity =
    record {
      estimator = (Levels.made s t).estimator;
      protector = (Headrooms.made initial t capacity).protector;
      controller = (Gaining.made s t).controller;
      limiter = (Limiting.made samples).limiter;
    }

headroom_is : (t n : ℕ) → Settings.threshold t ≡ true → is_capacity n ≡ true → (Headrooms.made initial t n).protector ≡ Headroom.fresh initial t n
unfolding Headrooms.made
headroom_is t n h k = ap (λ (b : Bool). cond b (Headroom.fresh initial t n) Headroom.nothing) (h and k and initial_headroom)

headroom_done : (t n : ℕ) → Settings.threshold t ≡ true → is_capacity n ≡ true → (Headrooms.made initial t n).reply ≡ done
unfolding Headrooms.made
headroom_done t n h k = unrefused_figure (Settings.threshold t && is_capacity n) (Range.headroom initial) (h and k) initial_headroom

limiter_done : (samples : ℕ) → is_samples samples ≡ true → (Limiting.made samples).reply ≡ done
unfolding Limiting.made
limiter_done samples n = shaped (is_samples samples) n

four_fresh : (s : Set) (t samples capacity : ℕ) → Settings.accepted s && Settings.threshold t && is_capacity capacity ≡ true → is_samples samples ≡ true
    → four s t samples capacity ≡ fresh s t samples capacity
unfolding four fresh Levels.made Gaining.made Limiting.made
four_fresh s t samples capacity all n =
    let each = each_of (Settings.accepted s ∷ Settings.threshold t ∷ is_capacity capacity ∷ []) all in
    let ok = each 0 and each 1 in
    let e = ap (λ (b : Bool). cond b (Level.fresh s t (Level.starting_level s)) Level.nothing) ok in
    let p = headroom_is t capacity (each 1) (each 2) in
    let g = ap (λ (b : Bool). cond b (Gain.fresh s t) Gain.nothing) ok in
    let l = ap (λ (b : Bool). cond b (Limiting.starting samples) Limiting.none) n in
    λ i. record { estimator = e i; protector = p i; controller = g i; limiter = l i }

-- The first test's answer is the definition's.
pub made_reply : (s : Set) (t samples capacity : ℕ) {a b d e : Bool}
    → a ≡ is_samples samples → b ≡ Settings.accepted s → d ≡ Settings.threshold t → e ≡ is_capacity capacity
    → refusal a (b && d && e) true true ≡ (made s t samples capacity).reply
unfolding made
made_reply s t samples capacity pa pb pd pe = rw (pa, pb, pd, pe) refl

-- that no part refuses
pub record PartsDone (s : Set) (t samples capacity : ℕ) : Type 0 where
  pub estimator : (Levels.made s t).reply ≡ done
  pub protector : (Headrooms.made initial t capacity).reply ≡ done
  pub controller : (Gaining.made s t).reply ≡ done
  pub limiter : (Limiting.made samples).reply ≡ done

-- Where that test passes no part refuses, and what the code's calls come to is the definition's.
module _ (s : Set) (t samples capacity : ℕ) (k : (made s t samples capacity).reply ≡ done) where
  whole : (is_samples samples ≡ true) × (Settings.accepted s && Settings.threshold t && is_capacity capacity ≡ true)
  unfolding made
  whole = let q = none_refused (is_samples samples) (Settings.accepted s && Settings.threshold t && is_capacity capacity) true true k in (q.0, q.1)

  pub parts_done : PartsDone s t samples capacity
  unfolding Levels.made Gaining.made
  parts_done =
      let each = each_of (Settings.accepted s ∷ Settings.threshold t ∷ is_capacity capacity ∷ []) whole.1 in
      record {
        estimator = unrefused (Settings.accepted s && Settings.threshold t) (each 0 and each 1);
        protector = headroom_done t capacity (each 1) (each 2);
        controller = unrefused (Settings.accepted s && Settings.threshold t) (each 0 and each 1);
        limiter = limiter_done samples whole.0;
      }

  pub parts_made : four s t samples capacity ≡ (made s t samples capacity).chain
  unfolding made
  parts_made =
      four_fresh s t samples capacity whole.1 whole.0
      ∙ sym (ap (λ (b : Bool). cond b (fresh s t samples capacity) nothing) (whole.0 and whole.1))
