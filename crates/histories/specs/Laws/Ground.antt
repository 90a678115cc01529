-- What every chain from a new one on keeps, whatever events come: the counts of its parts go by the run of speech frames alone. Laws.
-- Assumes nothing.
use Rattle.std.specs.Prelude.{◌≡◌, Bool, true, ℕ, ◌+◌, ◌-◌, ◌<◌, ltb}
use Rattle.std.proofs.Math.Path.{refl, ap}
use Rattle.std.proofs.Common.{sym, ◌∙◌, arith, ltb-true, ltb-false}
use Rattle.std.proofs.Math.Bool.{false, cond}
use Rattle.units.specs.declared.settings.Settings.{Settings}
use Rattle.runs.specs.Runs.{speech, longer, closed, framed}
use Rattle.runs.specs.Histories.{Settled}
use Rattle.runs.specs.Laws.Counts.{held, held_longer, held_below, held_at}
use Rattle.runs.proofs.Short.{framed_settled}
use Rattle.runs.proofs.Near.{near_itself}
use Rattle.speech_level_estimator.specs.Average as Average
use Rattle.speech_level_estimator.specs.Estimator as Level
use Rattle.saturation_protector.specs.Peaks as Peaks
use Rattle.saturation_protector.specs.Protector as Headroom
use Rattle.adaptive_digital_gain_controller.specs.Change.{waits}
use Rattle.adaptive_digital_gain_controller.specs.Controller as Gain
use Rattle.adaptive_digital_gain_controller.specs.Calls.{with_applier}
use Rattle.adaptive_digital_gain_controller.specs.Laws.Waiting.{closed_waits_again}
use Rattle.chain.specs.Calls.{informed, stepped, interrupted, fresh}
use Rattle.chain.specs.declared.Chain.{Chain}
use Rattle.chain.specs.Laws.Steps.{heard}
use Rattle.histories.specs.Histories.{Event, frame, gap, is_speech}
use Rattle.histories.specs.Laws.Parts.{shown_level, shown_headroom, headroom_of}
use Rattle.histories.specs.Laws.Steps.{step_of, Beside, updated_count, analyzed_count}

-- its parts have one threshold, and where no run is open their two states are alike
pub record Ground (t : ℕ) (c : Chain) : Type 0 where
  pub level : c.estimator.threshold ≡ t
  pub headroom : c.protector.threshold ≡ t
  pub gain : c.controller.threshold ≡ t
  pub level_settled : Settled (Level.run c.estimator)
  pub headroom_settled : Settled (Headroom.run c.protector)

-- behind k adjacent speech frames: the counts are k, held at the threshold, and so many frames less are still to come
pub record Good (t k : ℕ) (c : Chain) : Type 0 where
  pub on_ground : Ground t c
  pub level_count : c.estimator.count ≡ held t k
  pub headroom_count : c.protector.count ≡ held t k
  pub waiting : c.controller.waiting ≡ t - held t k

-- ---- a new chain
pub new_good : (s : Settings) (t samples capacity : ℕ) → 0 < t → Good t 0 (fresh s t samples capacity)
unfolding fresh Level.fresh Headroom.fresh Gain.fresh
new_good s t samples capacity some =
    record {
      on_ground =
          record {
            level = refl;
            headroom = refl;
            gain = refl;
            level_settled = record { same = λ e. refl };
            headroom_settled = record { same = λ e. refl };
          };
      level_count = sym (held_below t 0 some);
      headroom_count = sym (held_below t 0 some);
      waiting = sym (omega (arith, held_below t 0 some));
    }

-- ---- an event
module _ (t : ℕ) (c : Chain) (two : 1 < t) (h : Ground t c) where
  step_ground : (e : Event) → Ground t (step_of c e).chain
  unfolding step_of stepped interrupted Level.updated Level.interrupted Headroom.analyzed Headroom.interrupted Gain.decided Gain.interrupted with_applier framed
  step_ground (frame f s) =
      record {
        level = h.level;
        headroom = h.headroom;
        gain = h.gain;
        level_settled = framed_settled c.estimator.threshold (speech f.probability) (Average.advanced f.rms.0 f.probability) (Level.run c.estimator) (rw h.level two) h.level_settled;
        headroom_settled = framed_settled c.protector.threshold (speech f.probability) (Peaks.advanced f.peak.0 (heard c f).level) (Headroom.run c.protector) (rw h.headroom two) h.headroom_settled;
      }
  step_ground gap =
      record {
        level = h.level;
        headroom = h.headroom;
        gain = h.gain;
        level_settled = framed_settled c.estimator.threshold false (λ x. x) (Level.run c.estimator) (rw h.level two) h.level_settled;
        headroom_settled = framed_settled c.protector.threshold false (λ x. x) (Headroom.run c.protector) (rw h.headroom two) h.headroom_settled;
      }

  level_counts : (e : Event) → (step_of c e).chain.estimator.count ≡ cond (is_speech e) (longer t c.estimator.count) 0
  unfolding step_of stepped interrupted Level.interrupted closed is_speech
  level_counts (frame f s) = updated_count c.estimator f.rms.0 f.probability ∙ ap (λ (z : ℕ). cond (speech f.probability) (longer z c.estimator.count) 0) h.level
  level_counts gap = refl

  headroom_counts : (e : Event) → (step_of c e).chain.protector.count ≡ cond (is_speech e) (longer t c.protector.count) 0
  unfolding step_of stepped interrupted Headroom.interrupted closed is_speech
  headroom_counts (frame f s) =
      analyzed_count c.protector f.probability f.peak.0 (heard c f).level
      ∙ ap (λ (z : ℕ). cond (speech f.probability) (longer z c.protector.count) 0) h.headroom
  headroom_counts gap = refl

  gain_waits : (e : Event) → (step_of c e).chain.controller.waiting ≡ waits (is_speech e) t c.controller.waiting
  unfolding step_of stepped interrupted is_speech Gain.decided Gain.interrupted with_applier informed waits
  gain_waits (frame f s) = ap (λ (z : ℕ). waits (speech f.probability) z c.controller.waiting) h.gain
  gain_waits gap = h.gain

-- the count of a run after an event
abbrev pub run_after_lem : Bool → ℕ → ℕ
run_after_lem speech k = cond speech (k + 1) 0

counts_on : (b : Bool) (t k : ℕ) → 0 < t → cond b (longer t (held t k)) 0 ≡ held t (run_after_lem b k)
counts_on true t k some = held_longer t k
counts_on false t k some = sym (held_below t 0 some)

waits_on : (b : Bool) (t k : ℕ) → 0 < t → waits b t (t - held t k) ≡ t - held t (run_after_lem b k)
unfolding waits
waits_on false t k some = sym (omega (arith, held_below t 0 some))
waits_on true t k some = go (ltb k t) refl
  where
    last : (b : Bool) → ltb (k + 1) t ≡ b → k < t → t - k - 1 ≡ t - held t (k + 1)
    last true e h = omega (arith, held_below t (k + 1) (ltb-true (k + 1) t e))
    last false e h = omega (arith, held_at t (k + 1) (ltb-false (k + 1) t e), ltb-false (k + 1) t e)

    go : (b : Bool) → ltb k t ≡ b → t - held t k - 1 ≡ t - held t (k + 1)
    go true e = let h = ltb-true k t e in rw (held_below t k h) (last (ltb (k + 1) t) refl h)
    go false e = let h = ltb-false k t e in omega (arith, held_at t k h, held_at t (k + 1) (omega (arith, h)))

-- An event leaves a chain so, behind one speech frame more, or behind none.
pub step_good : (t k : ℕ) (c : Chain) → 1 < t → Good t k c → (e : Event) → Good t (run_after_lem (is_speech e) k) (step_of c e).chain
step_good t k c two h e =
    let some : 0 < t = omega (arith, two) in
    let b = is_speech e in
    record {
      on_ground = step_ground t c two h.on_ground e;
      level_count = level_counts t c two h.on_ground e ∙ ap (λ (z : ℕ). cond b (longer t z) 0) h.level_count ∙ counts_on b t k some;
      headroom_count = headroom_counts t c two h.on_ground e ∙ ap (λ (z : ℕ). cond b (longer t z) 0) h.headroom_count ∙ counts_on b t k some;
      waiting = gain_waits t c two h.on_ground e ∙ ap (λ (z : ℕ). waits b t z) h.waiting ∙ waits_on b t k some;
    }

-- After an event that is not speech no run is open, whatever the counts were.
pub closed_good : (t : ℕ) (c : Chain) → 1 < t → Ground t c → (e : Event) → is_speech e ≡ false → Good t 0 (step_of c e).chain
closed_good t c two h e silent =
    let zero : 0 ≡ held t 0 = sym (held_below t 0 (omega (arith, two))) in
    record {
      on_ground = step_ground t c two h e;
      level_count = level_counts t c two h e ∙ rw silent zero;
      headroom_count = headroom_counts t c two h e ∙ rw silent zero;
      waiting = gain_waits t c two h e ∙ closed_waits_again (is_speech e) t c.controller.waiting silent ∙ omega (arith, zero);
    }

-- A chain behind a run below the threshold is beside itself.
pub good_beside : (t k : ℕ) (c : Chain) → k < t → Good t k c → Beside t k c c
good_beside t k c below h =
    let count : held t k ≡ k = held_below t k below in
    let level : c.estimator.count ≡ k = h.level_count ∙ count in
    let headroom : c.protector.count ≡ k = h.headroom_count ∙ count in
    record {
      level =
          record {
            first = h.on_ground.level;
            second = h.on_ground.level;
            settings = refl;
            initial = refl;
            near = near_itself Average.level t (shown_level c.estimator) h.on_ground.level_settled (omega (arith, level, below));
          };
      level_count = level;
      level_other = omega (arith, level);
      headroom =
          record {
            first = h.on_ground.headroom;
            second = h.on_ground.headroom;
            initial = refl;
            near = near_itself headroom_of t (shown_headroom c.protector) h.on_ground.headroom_settled (omega (arith, headroom, below));
          };
      headroom_count = headroom;
      headroom_other = omega (arith, headroom);
      gain =
          record {
            first = h.on_ground.gain;
            second = h.on_ground.gain;
            applier = refl;
            settings = refl;
            change = refl;
            gain = refl;
            waiting = omega (arith, h.waiting, count, below);
            other = omega (arith, h.waiting, count, below);
          };
      limiter = refl;
    }

-- The first of two chains beside each other is grounded.
pub beside_ground : (t k : ℕ) (a b : Chain) → Beside t k a b → Ground t a
beside_ground t k a b n =
    record {
      level = n.level.first;
      headroom = n.headroom.first;
      gain = n.gain.first;
      level_settled = n.level.near.apart.first_settled;
      headroom_settled = n.headroom.near.apart.first_settled;
    }
