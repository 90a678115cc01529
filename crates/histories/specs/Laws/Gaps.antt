-- A gap to a chain that passes: what is published stays, and to what comes later it is what an event is that is not speech. Laws.
-- Assumes nothing.
use Rattle.std.specs.Prelude.{◌≡◌, true, false, [], ◌∷◌, ℕ, ◌≤◌}
use Rattle.std.proofs.Math.Path.{refl, ap}
use Rattle.std.proofs.Common.{sym, ◌∙◌, leb-true}
use Rattle.lists.specs.Tests.{each_of}
use Rattle.runs.specs.Runs.{speech}
use Rattle.speech_level_estimator.specs.Laws.Again.{sound}
use Rattle.speech_level_estimator.specs.Laws.Gaps as LevelGaps
use Rattle.saturation_protector.proofs.Gaps as HeadroomGaps
use Rattle.adaptive_digital_gain_controller.specs.Controller as Gain
use Rattle.adaptive_digital_gain_controller.specs.Calls.{with_applier}
use Rattle.adaptive_digital_gain_controller.specs.Laws.Waiting.{closed_waits_again}
use Rattle.chain.specs.Chain.{published}
use Rattle.chain.specs.Calls.{informed, stepped, interrupted}
use Rattle.chain.specs.Laws.Gaps.{gap_taken, gap_level, gap_headroom, gap_gain}
use Rattle.chain.specs.Laws.Passing.{passed_all}
use Rattle.chain.specs.Laws.Steps.{heard}
use Rattle.chain.specs.declared.Chain.{Chain}
use Rattle.chain.specs.Calls.{Gapped}
use Rattle.histories.specs.Histories.{Event, frame, gap, is_speech, takes, next}
use Rattle.histories.specs.Held.{ReadyAt}
use Rattle.histories.specs.Laws.Steps.{step_of}
use Rattle.histories.specs.Laws.Calls.{next_is}
use Rattle.histories.specs.Laws.Confidence.{Sure, interrupted_confident}

-- two chains that have the same estimator, the same protector, and wait for as many frames
abbrev pub RunAlike : Chain → Chain → Type 0
RunAlike a b = (a.estimator ≡ b.estimator) × (a.protector ≡ b.protector) × (a.controller.waiting ≡ b.controller.waiting)

-- the step of a gap beside that of an event that is not speech
run_alike : (c : Chain) (e : Event) → is_speech e ≡ false → RunAlike (step_of c gap).chain (step_of c e).chain
unfolding step_of stepped interrupted is_speech informed with_applier Gain.decided Gain.interrupted
run_alike c (frame f s) silent = (
  LevelGaps.interrupted_is_quiet c.estimator f.rms.0 f.probability silent,
  HeadroomGaps.interrupted_is_quiet c.protector f.probability f.peak.0 (heard c f).level silent,
  sym (closed_waits_again (speech f.probability) c.controller.threshold c.controller.waiting silent),
)
run_alike c gap silent = (refl, refl, refl)

module _ (n : ℕ) (c : Chain) (r : ReadyAt n c) where
  -- A gap and any event that is taken and is not speech leave chains that are alike so.
  pub gap_alike : (e : Event) → takes n e ≡ true → is_speech e ≡ false → RunAlike (next c gap) (next c e)
  unfolding takes
  gap_alike e taken silent = rw (next_is n c r gap refl, next_is n c r e taken) (run_alike c e silent)

  -- the threshold of a chain that passes is not 0
  some_frames : 1 ≤ c.estimator.threshold
  some_frames = leb-true 1 c.estimator.threshold (each_of (_ ∷ _ ∷ []) (sound c.estimator (passed_all c r.ready.state).estimator).threshold 0)

  -- What is published stays, where the estimator is confident as its own state says.
  pub gap_publishes : Sure c.estimator → published (next c gap) ≡ published c
  unfolding next interrupted
  gap_publishes h =
      let level = gap_level c in
      let headroom = gap_headroom c in
      let gain = gap_gain c in
      let confident : (published (next c gap)).confident ≡ (published c).confident =
      ap (λ (g : Gapped). (published g.chain).confident) (gap_taken c r.ready.state) ∙ interrupted_confident c.estimator some_frames h in
      λ i. record { level = level i; headroom = headroom i; gain = gain i; confident = confident i }
