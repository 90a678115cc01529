-- Where a chain that passes takes a frame no part of it refuses, the chain passes again, and what comes out is of full scale. Laws.
-- Assumes nothing.
use Rattle.std.specs.Prelude.{◌≡◌, refl, Bool, List, ℕ, T, Float}
use Rattle.std.proofs.Common.{sym, ◌∙◌, subst}
use Rattle.std.proofs.Math.Path.{ap, ap₂}
use Rattle.std.proofs.Math.Bool.{true, cond}
use Rattle.std.proofs.Math.Dec.{eqb}
use Rattle.std.specs.Float.{binary32}
use Rattle.std.specs.Float.Ieee.{fits, eq}
use Rattle.lists.specs.Tests.{◌and◌}
use Rattle.floats.specs.Laws.Kinds.{passed as so}
use Rattle.units.specs.Figures as Range
use Rattle.units.specs.Replies.{done, refusal}
use Rattle.frames.specs.Shape.{is_shape}
use Rattle.frames.specs.Samples.{largest_input, largest_level, all_within}
use Rattle.frames.specs.Facts.{Taken, taken, not_refused}
use Rattle.runs.specs.Runs.{speech, turned}
use Rattle.gain_applier.specs.Applier as Applying
use Rattle.gain_applier.specs.declared.Applier.{Applier}
use Rattle.gain_applier.specs.Range.{Held}
use Rattle.speech_level_estimator.specs.Estimator as Level
use Rattle.speech_level_estimator.specs.Calls as Levels
use Rattle.speech_level_estimator.specs.Held.{HeldEstimator}
use Rattle.speech_level_estimator.specs.Laws.Again as LevelAgain
use Rattle.speech_level_estimator.specs.declared.Estimator.{Estimator}
use Rattle.saturation_protector.specs.Protector as Headroom
use Rattle.saturation_protector.specs.Calls as Headrooms
use Rattle.saturation_protector.specs.Laws.Again as HeadroomAgain
use Rattle.saturation_protector.specs.Laws.Tests.{passed_whole}
use Rattle.saturation_protector.specs.Laws.Passing.{advanced_in}
use Rattle.saturation_protector.specs.Laws.Frames.{preliminary_of, turned_to, analyzed_turned}
use Rattle.saturation_protector.specs.declared.Peaks.{Peaks as State}
use Rattle.saturation_protector.specs.declared.Protector.{Protector}
use Rattle.adaptive_digital_gain_controller.specs.Controller as Gain
use Rattle.adaptive_digital_gain_controller.specs.Calls as Gaining
use Rattle.adaptive_digital_gain_controller.specs.Range as GainRange
use Rattle.adaptive_digital_gain_controller.specs.Laws.Calls as GainCalls
use Rattle.adaptive_digital_gain_controller.specs.declared.Info.{Info}
use Rattle.adaptive_digital_gain_controller.specs.declared.Controller.{Controller}
use Rattle.fixed_digital_level_estimator.specs.Estimator as Envelope
use Rattle.limiter.specs.Limiter as Limiting
use Rattle.limiter.specs.Scale as Scale
use Rattle.limiter.specs.Laws.States as LimiterStates
use Rattle.limiter.specs.declared.Limiter.{Limiter}
use Rattle.units.specs.Figures.{accepted}
use Rattle.chain.specs.Chain.{initial, alike, passes, samples_of}
use Rattle.chain.specs.Calls.{informed, stepped, refused}
use Rattle.chain.specs.Held.{HeldProtector, HeldFigures, Ready}
use Rattle.chain.specs.Laws.Frames.{either, applied_held, applied_long}
use Rattle.chain.specs.Laws.Passing.{Passed, passed_all, passing, Inside, inside, published_level}
use Rattle.chain.specs.declared.Chain.{Chain}
use Rattle.units.specs.declared.figures.Figures.{Figures}

pub fine : (a b : Bool) → a ≡ true → b ≡ true → refusal true a b true ≡ done
unfolding refusal
fine a b p q = ap₂ (λ (x y : Bool). refusal true x y true) p q

-- ---- of each part alone
-- The estimator does not refuse accepted figures.
pub level_done : (e : Estimator) (r p : Float) → Level.passes e ≡ true → Levels.figures r p ≡ true → (Levels.stepped e r p).reply ≡ done
unfolding Levels.stepped
level_done e r p h k = fine (Level.passes e) (Levels.figures r p) h k

pub level_is : (e : Estimator) (r p : Float) → Level.passes e ≡ true → Levels.figures r p ≡ true → (Levels.stepped e r p).estimator ≡ Level.updated e r p
unfolding Levels.stepped
level_is e r p h k = ap (λ (b : Bool). cond b (Level.updated e r p) e) (h and k)

updated_same : (e : Estimator) (r p : Float) → ((Level.updated e r p).threshold ≡ e.threshold) × ((Level.updated e r p).settings ≡ e.settings)
unfolding Level.updated
updated_same e r p = (refl, refl)

analyzed_same : (s : Protector) (p peak level : Float) → ((Headroom.analyzed s p peak level).threshold ≡ s.threshold) × ((Headroom.analyzed s p peak level).initial ≡ s.initial)
unfolding Headroom.analyzed
analyzed_same s p peak level = (refl, refl)

abbrev Fine : State → Type 0
Fine z = T (fits binary32 z.headroom)

-- The numbers of a protector stay f32.
pub analyzed_held : (s : Protector) (p peak level : Float) → HeldProtector s → Headroom.passes s ≡ true → Range.level peak ≡ true → Range.level level ≡ true
    → HeldProtector (Headroom.analyzed s p peak level)
unfolding turned_to turned preliminary_of
analyzed_held s p peak level h k a b =
    let was = passed_whole s k in
    let talks = speech p in
    let turn = turned talks s.threshold s.count in
    let pre : T (fits binary32 (preliminary_of talks peak level s).headroom) =
    either Fine talks (advanced_in peak level s.preliminary was.preliminary a b).number.held (either Fine turn.throw h.reliable h.preliminary) in
    rw (analyzed_turned s p peak level)
    (record {
      headroom = either (λ (x : Float). T (fits binary32 x)) turn.publish pre h.headroom;
      preliminary = pre;
      reliable = either Fine turn.keep h.preliminary h.reliable;
    })

decided_same : (k : Controller) (i : Info) (a : Applier)
    → ((Gaining.with_applier (Gain.decided k i) a).threshold ≡ k.threshold) × ((Gaining.with_applier (Gain.decided k i) a).settings ≡ k.settings)
unfolding Gaining.with_applier Gain.decided
decided_same k i a = (refl, refl)

-- What comes out of a controller that does not refuse.
module _ (k : Controller) (i : Info) (frame : List Float) (channels samples : ℕ) (ok : (Gaining.processed k i frame channels samples).next.reply ≡ done) where
  abbrev put : Applying.Applied
  put = Applying.applied (Gain.decided k i).applier frame channels samples

  pub controller_is : (Gaining.processed k i frame channels samples).next.controller ≡ Gaining.with_applier (Gain.decided k i) put.next.applier
  unfolding Gaining.processed
  controller_is = ap (λ (n : ℕ). cond (eqb n done) (Gaining.with_applier (Gain.decided k i) put.next.applier) k) ok

  pub frame_is : (Gaining.processed k i frame channels samples).frame ≡ put.frame
  unfolding Gaining.processed
  frame_is = ap (λ (n : ℕ). cond (eqb n done) put.frame frame) ok

-- A limiter's samples stay.
limiter_samples : (l : Limiter) (frame : List Float) (channels samples : ℕ) → (Limiting.processed l frame channels samples).next.limiter.estimator.samples ≡ l.estimator.samples
unfolding Limiting.processed Limiting.after Envelope.heard_up_to
limiter_samples l frame channels samples =
    either (λ (z : Limiter). z.estimator.samples ≡ l.estimator.samples) (eqb (Limiting.processed l frame channels samples).next.reply done) {x = Limiting.after l (Limiting.levels_of l frame channels)} {y = l} refl refl

-- ---- of the chain
module _ (c : Chain) (f : Figures) where
  -- the estimator and the protector after the frame, and what the controller is told
  abbrev pub heard : Estimator
  heard = Level.updated c.estimator f.rms.0 f.probability

  abbrev pub safe : Protector
  safe = Headroom.analyzed c.protector f.probability f.peak.0 heard.level

  abbrev pub info : Info
  info = informed heard safe f

  module _ (ready : Ready c) (held : HeldFigures f) (ok : accepted f ≡ true) where
    was : Passed c
    was = passed_all c ready.state

    given : Inside f
    given = inside f ok

    -- The estimator's figures are accepted,
    pub heard_figures : Levels.figures f.rms.0 f.probability ≡ true
    heard_figures = given.rms and given.probability

    -- so it passes,
    pub heard_passes : Level.passes heard ≡ true
    heard_passes =
        LevelAgain.updated_passes c.estimator f.rms.0 f.probability ready.held.estimator held.rms held.probability was.estimator (so heard_figures)

    -- its numbers are f32,
    pub heard_held : HeldEstimator heard
    heard_held =
        subst HeldEstimator (level_is c.estimator f.rms.0 f.probability was.estimator heard_figures)
        (LevelAgain.stepped_held c.estimator f.rms.0 f.probability ready.held.estimator held.rms held.probability
        (level_done c.estimator f.rms.0 f.probability was.estimator heard_figures))

    -- and the level that it publishes is one.
    pub heard_level : Range.level heard.level ≡ true
    heard_level = published_level heard.level heard_held.level (LevelAgain.sound heard heard_passes).level

    -- So the protector's figures are accepted,
    pub safe_figures : Headrooms.figures f.probability f.peak.0 heard.level ≡ true
    safe_figures = given.probability and given.peak and heard_level

    -- it passes,
    pub safe_passes : Headroom.passes safe ≡ true
    safe_passes = HeadroomAgain.analyzed_passes c.protector f.probability f.peak.0 heard.level was.protector given.peak heard_level

    -- and its numbers are f32.
    pub safe_held : HeldProtector safe
    safe_held = analyzed_held c.protector f.probability f.peak.0 heard.level ready.held.protector was.protector given.peak heard_level

    -- So what the controller is told is accepted,
    pub info_accepted : Gain.accepted info ≡ true
    unfolding Gain.accepted informed
    info_accepted = given.probability and heard_level and given.noise and (passed_whole safe safe_passes).headroom and given.envelope

    -- and its numbers are f32.
    pub info_held : GainRange.HeldInfo info
    unfolding informed
    info_held = record { level = heard_held.level; noise = held.noise; headroom = safe_held.headroom; envelope = held.envelope }

    module _ (frame : List Float) (channels samples : ℕ) (sound : Held frame) (taken_it : refused c f frame channels samples ≡ done) where
      -- the frame with the gain on it
      abbrev level_frame_lem : Applying.Applied
      level_frame_lem = Applying.applied (Gain.decided c.controller info).applier frame channels samples

      tests : Taken frame channels samples (eqb samples (samples_of c)) (passes c) (accepted f) largest_input
      unfolding refused
      tests = taken frame channels samples (eqb samples (samples_of c)) (passes c) (accepted f) largest_input taken_it

      -- The controller does not refuse,
      pub gain_done : (Gaining.processed c.controller info frame channels samples).next.reply ≡ done
      unfolding Gaining.processed
      gain_done =
          not_refused frame channels samples true (Gain.passes c.controller) (Gain.accepted info) largest_input
          (record { shape = tests.shape; same = refl; settings = was.controller; figures = info_accepted; sound = tests.sound })

      -- it passes and its numbers are f32,
      pub gain_ready : GainRange.Ready (Gaining.with_applier (Gain.decided c.controller info) level_frame_lem.next.applier)
      gain_ready =
          subst GainRange.Ready (controller_is c.controller info frame channels samples gain_done)
          (GainCalls.processed_ready c.controller info frame channels samples ready.held.controller info_held gain_done)

      -- and what it hands on is within 33554432.
      pub handed_on : all_within largest_level level_frame_lem.frame ≡ true
      handed_on =
          ap (all_within largest_level) (sym (frame_is c.controller info frame channels samples gain_done))
          ∙ GainCalls.handed_on c.controller info frame channels samples ready.held.controller info_held gain_done sound

      level_held : Held level_frame_lem.frame
      level_held = applied_held (Gain.decided c.controller info).applier frame channels samples sound

      limiter_ready : Scale.Ready c.limiter
      limiter_ready = record { level = ready.held.level; carried = ready.held.carried; state = was.limiter }

      -- So the limiter does not refuse either,
      pub limiter_done : (Limiting.processed c.limiter level_frame_lem.frame channels samples).next.reply ≡ done
      unfolding Limiting.processed
      limiter_done =
          not_refused level_frame_lem.frame channels samples (eqb samples (samples_of c)) (Limiting.passes c.limiter) true largest_level
          (record {
            shape = ap (is_shape channels samples) (applied_long (Gain.decided c.controller info).applier frame channels samples) ∙ tests.shape;
            same = tests.same;
            settings = was.limiter;
            figures = refl;
            sound = handed_on;
          })

      limited_ready : Scale.Ready (Limiting.processed c.limiter level_frame_lem.frame channels samples).next.limiter
      limited_ready = LimiterStates.processed_ready c.limiter level_frame_lem.frame channels samples level_held limiter_ready limiter_done

      -- and what comes out is of full scale.
      pub stepped_full_scale : Scale.FullScale (stepped c f frame channels samples).frame
      unfolding stepped
      stepped_full_scale = LimiterStates.processed_full_scale c.limiter level_frame_lem.frame channels samples level_held limiter_ready limiter_done

      -- A chain that passes, after a frame that is not refused, passes, and its numbers are f32.
      pub stepped_ready : Ready (stepped c f frame channels samples).chain
      unfolding stepped
      stepped_ready =
          let e = updated_same c.estimator f.rms.0 f.probability in
          let s = analyzed_same c.protector f.probability f.peak.0 heard.level in
          let g = decided_same c.controller info level_frame_lem.next.applier in
          record {
            held =
                record {
                  estimator = heard_held;
                  protector = safe_held;
                  controller = gain_ready.held;
                  level = limited_ready.level;
                  carried = limited_ready.carried;
                };
            state = passing (stepped c f frame channels samples).chain
                (record {
                  estimator = heard_passes;
                  protector = safe_passes;
                  controller = gain_ready.state;
                  limiter = limited_ready.state;
                  second = ap₂ eqb e.0 s.0 ∙ was.second;
                  third = ap₂ eqb e.0 g.0 ∙ was.third;
                  settings = ap₂ alike e.1 g.1 ∙ was.settings;
                  start = ap (λ (y : Float). eq y initial) s.1 ∙ was.start;
                });
          }

  -- A chain's samples stay.
  pub stepped_samples : (frame : List Float) (channels samples : ℕ) → samples_of (stepped c f frame channels samples).chain ≡ samples_of c
  unfolding stepped
  stepped_samples frame channels samples =
      limiter_samples c.limiter (Applying.applied (Gain.decided c.controller info).applier frame channels samples).frame channels samples
