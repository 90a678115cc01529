-- A gap: no part of a chain that passes refuses it, the chain passes again, and gain, limiter and published figures stay. Laws.
-- Assumes nothing.
use Rattle.std.specs.Prelude.{◌≡◌, true, false, T}
use Rattle.std.proofs.Math.Path.{refl}
use Rattle.std.proofs.Common.{sym, ap, subst}
use Rattle.std.specs.Float.{binary32}
use Rattle.std.specs.Float.Ieee.{fits}
use Rattle.units.specs.Replies.{done}
use Rattle.speech_level_estimator.specs.Estimator as Level
use Rattle.speech_level_estimator.specs.Calls as Levels
use Rattle.speech_level_estimator.specs.Held.{HeldEstimator}
use Rattle.speech_level_estimator.specs.Laws.Gaps as LevelGaps
use Rattle.saturation_protector.specs.Protector as Headroom
use Rattle.saturation_protector.specs.Calls as Headrooms
use Rattle.saturation_protector.proofs.Gaps as HeadroomGaps
use Rattle.saturation_protector.specs.declared.Protector.{Protector}
use Rattle.saturation_protector.specs.declared.Peaks.{Peaks as State}
use Rattle.runs.specs.Runs.{keeps, throws, closed}
use Rattle.adaptive_digital_gain_controller.specs.Controller as Gain
use Rattle.adaptive_digital_gain_controller.specs.Calls as Gaining
use Rattle.adaptive_digital_gain_controller.specs.Range as GainRange
use Rattle.adaptive_digital_gain_controller.specs.Laws.Gaps as GainGaps
use Rattle.limiter.specs.declared.Limiter.{Limiter}
use Rattle.chain.specs.Chain.{passes, samples_of, published}
use Rattle.chain.specs.Calls.{interrupted, gap}
use Rattle.chain.specs.Held.{HeldProtector, Ready}
use Rattle.chain.specs.Laws.Frames.{either}
use Rattle.chain.specs.Laws.Passing.{Passed, passed_all, passing}
use Rattle.chain.specs.declared.Chain.{Chain}
use Rattle.chain.specs.Calls.{Gapped}

-- ---- of each part alone: one that passes does not refuse a gap
level_gap : (c : Chain) → Level.passes c.estimator ≡ true → Levels.gap c.estimator ≡ record { reply = done; estimator = Level.interrupted c.estimator }
unfolding Levels.gap
level_gap c h = rw h

pub headroom_gap : (c : Chain) → Headroom.passes c.protector ≡ true → Headrooms.gap c.protector ≡ record { reply = done; protector = Headroom.interrupted c.protector }
unfolding Headrooms.gap
headroom_gap c h = rw h

gain_gap : (c : Chain) → Gain.passes c.controller ≡ true → Gaining.gap c.controller ≡ record { reply = done; controller = Gain.interrupted c.controller }
unfolding Gaining.gap
gain_gap c h = rw h

-- So the parts' own gaps make up the chain's.
pub parts_interrupted : (c : Chain) → passes c ≡ true
    → ◌≡◌ {A = Chain}
    (record {
      estimator = (Levels.gap c.estimator).estimator;
      protector = (Headrooms.gap c.protector).protector;
      controller = (Gaining.gap c.controller).controller;
      limiter = c.limiter;
    })
    (interrupted c)
unfolding interrupted
parts_interrupted c h =
    let p = passed_all c h in
    rw (level_gap c p.estimator, headroom_gap c p.protector, gain_gap c p.controller)

-- None of them refuses.
pub record GapsDone (c : Chain) : Type 0 where
  pub estimator : (Levels.gap c.estimator).reply ≡ done
  pub protector : (Headrooms.gap c.protector).reply ≡ done
  pub controller : (Gaining.gap c.controller).reply ≡ done

pub gaps_done : (c : Chain) → passes c ≡ true → GapsDone c
gaps_done c h =
    let p = passed_all c h in
    record {
      estimator = rw (level_gap c p.estimator) refl;
      protector = rw (headroom_gap c p.protector) refl;
      controller = rw (gain_gap c p.controller) refl;
    }

-- A chain that passes takes a gap.
pub gap_taken : (c : Chain) → passes c ≡ true → gap c ≡ record { reply = done; chain = interrupted c }
unfolding gap
gap_taken c h = rw h

-- One that fails its test does not, and stays as it was.
pub gap_refused : (c : Chain) → passes c ≡ false → (gap c).chain ≡ c
unfolding gap
gap_refused c h = rw h

-- ---- what stays, of any chain
module _ (c : Chain) where
  by_test : {A : Type 0} (f : Chain → A) → f (interrupted c) ≡ f c → f (gap c).chain ≡ f c
  unfolding gap
  by_test f h = either (λ (x : Chain). f x ≡ f c) (passes c) h refl

  -- The limiter stays, with its counts,
  pub gap_limiter : (gap c).chain.limiter ≡ c.limiter
  unfolding interrupted
  gap_limiter = by_test (λ (x : Chain). x.limiter) refl

  -- the applier with its ramp,
  pub gap_applier : (gap c).chain.controller.applier ≡ c.controller.applier
  unfolding interrupted Gain.interrupted
  gap_applier = by_test (λ (x : Chain). x.controller.applier) refl

  -- the gain,
  pub gap_gain : (published (gap c).chain).gain ≡ (published c).gain
  unfolding interrupted Gain.interrupted
  gap_gain = by_test (λ (x : Chain). (published x).gain) refl

  -- the published level
  pub gap_level : (published (gap c).chain).level ≡ (published c).level
  unfolding interrupted Level.interrupted
  gap_level = by_test (λ (x : Chain). (published x).level) refl

  -- and the published headroom. Only the confidence of a chain that was handed in may change, as it may at a frame that is not speech.
  pub gap_headroom : (published (gap c).chain).headroom ≡ (published c).headroom
  unfolding interrupted Headroom.interrupted
  gap_headroom = by_test (λ (x : Chain). (published x).headroom) refl

  -- So do the samples that the chain was made for.
  pub gap_samples : samples_of (gap c).chain ≡ samples_of c
  gap_samples = ap (λ (l : Limiter). l.estimator.samples) gap_limiter

-- ---- a chain that passes does so after a gap
abbrev Fine : State → Type 0
Fine z = T (fits binary32 z.headroom)

-- the numbers of a protector stay f32
interrupted_held : (s : Protector) → HeldProtector s → HeldProtector (Headroom.interrupted s)
unfolding Headroom.interrupted closed
interrupted_held s h =
    record {
      headroom = h.headroom;
      preliminary = either Fine (throws s.threshold s.count) h.reliable h.preliminary;
      reliable = either Fine (keeps s.threshold s.count) h.preliminary h.reliable;
    }

module _ (c : Chain) (r : Ready c) where
  tests : Passed c
  tests = passed_all c r.state

  level_done : (Levels.gap c.estimator).reply ≡ done
  level_done = rw (level_gap c tests.estimator) refl

  headroom_done : (Headrooms.gap c.protector).reply ≡ done
  headroom_done = rw (headroom_gap c tests.protector) refl

  level_passes : Level.passes (Level.interrupted c.estimator) ≡ true
  level_passes = rw (level_gap c tests.estimator) at (LevelGaps.gap_passes c.estimator r.held.estimator level_done)

  level_held : HeldEstimator (Level.interrupted c.estimator)
  level_held = rw (level_gap c tests.estimator) at (LevelGaps.gap_held c.estimator r.held.estimator level_done)

  headroom_passes : Headroom.passes (Headroom.interrupted c.protector) ≡ true
  headroom_passes = rw (headroom_gap c tests.protector) at (HeadroomGaps.gap_passes c.protector headroom_done)

  gain_ready : GainRange.Ready (Gain.interrupted c.controller)
  gain_ready = GainGaps.interrupted_ready c.controller (record { held = r.held.controller; state = tests.controller })

  interrupted_ready : Ready (interrupted c)
  unfolding interrupted
  interrupted_ready =
      record {
        held = record { estimator = level_held; protector = interrupted_held c.protector r.held.protector; controller = gain_ready.held; level = r.held.level; carried = r.held.carried };
        state =
            passing (interrupted c)
            (unfold Level.interrupted Headroom.interrupted Gain.interrupted in
            record {
              estimator = level_passes;
              protector = headroom_passes;
              controller = gain_ready.state;
              limiter = tests.limiter;
              second = tests.second;
              third = tests.third;
              settings = tests.settings;
              start = tests.start;
            });
      }

  -- After a gap the chain passes again, and its numbers are f32.
  pub gap_ready : Ready (gap c).chain
  gap_ready = subst (λ (g : Gapped). Ready g.chain) (sym (gap_taken c r.state)) interrupted_ready
