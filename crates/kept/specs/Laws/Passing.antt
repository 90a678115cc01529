-- What is made, and what a step that was done leaves, passes; what is refused as new fails, and no step takes it. Laws.
-- Assumes nothing.
use Rattle.std.specs.Prelude.{◌≡◌, refl, Bool, false, ◌&&◌, cond, List, [], ◌∷◌, ℕ, T, eqb, get_or, Float}
use Rattle.std.proofs.Math.Path.{sym, ap, subst}
use Rattle.std.proofs.Common.{ap₂, ◌∙◌, lit<}
use Rattle.std.proofs.Math.Bool.{true}
use Rattle.std.proofs.lemmas.Bool.{false≢true}
use Rattle.std.specs.Float.{binary32}
use Rattle.std.specs.Float.Ieee.{fits, of_bits, eq, le, lt}
use Rattle.lists.specs.Tests.{each_of, ◌and◌}
use Rattle.floats.specs.Kinds.{is_negative_zero}
use Rattle.units.specs.Figures.{accepted}
use Rattle.units.specs.Replies.{done, refusal}
use Rattle.units.specs.Settings as Settings
use Rattle.units.specs.declared.figures.Figures.{Figures}
use Rattle.units.specs.declared.settings.Settings.{Settings as Set}
use Rattle.frames.specs.Facts.{taken}
use Rattle.frames.specs.Refusal.{frame_refusal}
use Rattle.frames.specs.Samples.{largest_input, largest_level}
use Rattle.frames.specs.Shape.{is_samples}
use Rattle.gain_applier.specs.Range.{Held}
use Rattle.speech_level_estimator.specs.Estimator as Level
use Rattle.saturation_protector_buffer.specs.Ring.{is_capacity}
use Rattle.fixed_digital_level_estimator.specs.Estimator as Envelope
use Rattle.adaptive_digital_gain_controller.specs.Range.{HeldSettings}
use Rattle.limiter.specs.Limiter as Limiting
use Rattle.limiter.specs.Scale as Scale
use Rattle.limiter.specs.Laws.States as LimiterStates
use Rattle.limiter.specs.declared.Limiter.{Limiter}
use Rattle.chain.specs.Chain as Chains
use Rattle.chain.specs.Calls as Chaining
use Rattle.chain.specs.Held as ChainHeld
use Rattle.chain.specs.Laws.Start as ChainStart
use Rattle.chain.specs.Laws.Calls as ChainCalls
use Rattle.chain.specs.declared.Chain.{Chain}
use Rattle.kept.specs.States.{envelope_of, sound_limiter, limiter_of, kept_limiter, sound_chain, chain_of, kept_chain}
use Rattle.kept.specs.Calls.{limiter_passes, limiter_made, LimiterStepped, limiter_stepped, chain_passes, chain_made, ChainStepped, chain_stepped}
use Rattle.kept.specs.Laws.States.{SmallEnvelope, limiter_small_kept, limiter_kept, kept_limiter_sound, chain_small_kept, chain_kept, kept_chain_sound}
use Rattle.kept.specs.Laws.Calls.{kept_step, limiter_inside, kept_call, chain_inside}
use Rattle.kept.specs.declared.states.KeptLimiter.{KeptLimiter}
use Rattle.kept.specs.declared.states.KeptChain.{KeptChain}

-- What is kept passes where that which it is kept of does.
pub kept_limiter_passes : (l : Limiter) → Limiting.passes l ≡ true → limiter_passes (kept_limiter l) ≡ true
unfolding limiter_passes
kept_limiter_passes l h = kept_limiter_sound l and (ap Limiting.passes (limiter_kept l h) ∙ h)

pub kept_chain_passes : (c : Chain) → Chains.passes c ≡ true → chain_passes (kept_chain c) ≡ true
unfolding chain_passes
kept_chain_passes c h = kept_chain_sound c and (ap Chains.passes (chain_kept c h) ∙ h)

-- a new state is refused where the samples or the settings are
one_fails : (shape setting : Bool) → (refusal shape setting true true ≡ done → ⊥) → shape && setting ≡ false
unfolding refusal
one_fails true true n = absurd (n refl)
one_fails true false n = refl
one_fails false setting n = refl

-- ---- the limiter
-- A new limiter that is not refused passes, and the numbers of the limiter inside are f32.
module _ (samples : ℕ) (ok : (limiter_made samples).reply ≡ done) where
  pub limiter_made_ready : Scale.Ready (limiter_of (limiter_made samples).limiter)
  unfolding limiter_made
  limiter_made_ready =
      let made = LimiterStates.made_passes samples ok in
      subst Scale.Ready (sym (limiter_kept (Limiting.made samples).limiter made.state)) made

  pub limiter_made_passes : limiter_passes (limiter_made samples).limiter ≡ true
  unfolding limiter_made
  limiter_made_passes = kept_limiter_passes (Limiting.made samples).limiter (LimiterStates.made_passes samples ok).state

-- Where the numbers that come in are f32, so it does after each step that was done.
module _ (k : KeptLimiter) (frame : List Float) (channels samples : ℕ) (level : T (fits binary32 k.estimator.level)) (carried : T (fits binary32 k.carried)) (held : Held frame)
    (ok : (limiter_stepped k frame channels samples).next.reply ≡ done) where
  limiter_passed : limiter_passes k ≡ true
  unfolding limiter_stepped
  limiter_passed = (taken frame channels samples (eqb samples k.estimator.samples) (limiter_passes k) true largest_level ok).settings

  limiter_was_sound : sound_limiter k ≡ true
  unfolding limiter_passes
  limiter_was_sound = each_of (sound_limiter k ∷ Limiting.passes (limiter_of k) ∷ []) limiter_passed 0

  limiter_was_ready : Scale.Ready (limiter_of k)
  unfolding limiter_passes limiter_of
  limiter_was_ready = record { level = level; carried = carried; state = ap (λ (b : Bool). b && Limiting.passes (limiter_of k)) (sym limiter_was_sound) ∙ limiter_passed }

  limiter_done : (Limiting.processed (limiter_of k) frame channels samples).next.reply ≡ done
  unfolding limiter_stepped Limiting.processed limiter_of envelope_of
  limiter_done = sym (ap (λ (b : Bool). frame_refusal frame channels samples (eqb samples k.estimator.samples) b true largest_level) (limiter_passed ∙ sym limiter_was_ready.state)) ∙ ok

  limiter_is : limiter_stepped k frame channels samples ≡ kept_step (Limiting.processed (limiter_of k) frame channels samples)
  limiter_is = limiter_inside k frame channels samples limiter_was_sound limiter_done

  inside_ready : Scale.Ready (Limiting.processed (limiter_of k) frame channels samples).next.limiter
  inside_ready = LimiterStates.processed_ready (limiter_of k) frame channels samples held limiter_was_ready limiter_done

  pub limiter_stepped_ready : Scale.Ready (limiter_of (limiter_stepped k frame channels samples).next.limiter)
  unfolding kept_step
  limiter_stepped_ready =
      subst Scale.Ready
      (sym (ap (λ (z : LimiterStepped). limiter_of z.next.limiter) limiter_is ∙ limiter_kept (Limiting.processed (limiter_of k) frame channels samples).next.limiter inside_ready.state))
      inside_ready

  pub limiter_stepped_passes : limiter_passes (limiter_stepped k frame channels samples).next.limiter ≡ true
  unfolding kept_step
  limiter_stepped_passes =
      ap (λ (z : LimiterStepped). limiter_passes z.next.limiter) limiter_is ∙ kept_limiter_passes (Limiting.processed (limiter_of k) frame channels samples).next.limiter inside_ready.state

-- all 0 fails: no frame has 0 samples
none_fails : Limiting.passes Limiting.none ≡ false
unfolding Limiting.passes Limiting.none Envelope.passes Envelope.none is_samples of_bits eq le lt
none_fails = refl

none_small : SmallEnvelope (Limiting.none).estimator
unfolding Limiting.none Envelope.none
none_small = record { samples = lit< tt; part = lit< tt }

-- and what is kept of it
kept_none_fails : limiter_passes (kept_limiter Limiting.none) ≡ false
unfolding limiter_passes
kept_none_fails = ap₂ ◌&&◌ (kept_limiter_sound Limiting.none) (ap Limiting.passes (limiter_small_kept Limiting.none none_small) ∙ none_fails)

-- A new limiter that is refused fails.
pub limiter_not_made : (samples : ℕ) → ((limiter_made samples).reply ≡ done → ⊥) → limiter_passes (limiter_made samples).limiter ≡ false
unfolding limiter_made Limiting.made
limiter_not_made samples n =
    let no : is_samples samples ≡ false = and_true (is_samples samples) ∙ one_fails (is_samples samples) true n in
    ap (λ (b : Bool). limiter_passes (kept_limiter (cond b (Limiting.starting samples) Limiting.none))) no ∙ kept_none_fails
  where
    and_true : (b : Bool) → b ≡ b && true
    and_true true = refl
    and_true false = refl

-- A limiter that fails is taken by no step.
pub limiter_failing : (k : KeptLimiter) (frame : List Float) (channels samples : ℕ) → limiter_passes k ≡ false → (limiter_stepped k frame channels samples).next.reply ≡ done → ⊥
unfolding limiter_stepped
limiter_failing k frame channels samples h ok =
    false≢true (sym h ∙ (taken frame channels samples (eqb samples k.estimator.samples) (limiter_passes k) true largest_level ok).settings)

-- ---- the chain
-- A new chain that is not refused passes, and the numbers of the chain inside are f32.
module _ (s : Set) (t samples capacity : ℕ) (held : HeldSettings s) (ok : (chain_made s t samples capacity).reply ≡ done) where
  new_ready : ChainHeld.Ready (Chaining.made s t samples capacity).chain
  unfolding chain_made
  new_ready = ChainStart.made_ready s t samples capacity held ok

  pub chain_made_ready : ChainHeld.Ready (chain_of (chain_made s t samples capacity).chain)
  unfolding chain_made
  chain_made_ready = subst ChainHeld.Ready (sym (chain_kept (Chaining.made s t samples capacity).chain new_ready.state)) new_ready

  pub chain_made_passes : chain_passes (chain_made s t samples capacity).chain ≡ true
  unfolding chain_made
  chain_made_passes = kept_chain_passes (Chaining.made s t samples capacity).chain new_ready.state

-- Where the numbers that come in are f32, so it does after each step that was done.
module _ (k : KeptChain) (f : Figures) (frame : List Float) (channels samples : ℕ) (held : ChainHeld.HeldChain (chain_of k)) (figures : ChainHeld.HeldFigures f) (sound : Held frame)
    (ok : (chain_stepped k f frame channels samples).next.reply ≡ done) where
  chain_passed : chain_passes k ≡ true
  unfolding chain_stepped
  chain_passed = (taken frame channels samples (eqb samples (Chains.samples_of (chain_of k))) (chain_passes k) (accepted f) largest_input ok).settings

  -- its flags are flags, and the chain inside passes
  chain_was : (i : ℕ) → get_or (sound_chain k ∷ Chains.passes (chain_of k) ∷ []) i true ≡ true
  unfolding chain_passes
  chain_was = each_of (sound_chain k ∷ Chains.passes (chain_of k) ∷ []) chain_passed

  chain_done : (Chaining.called (chain_of k) f frame channels samples).told.reply ≡ done
  unfolding chain_stepped Chaining.called Chaining.refused
  chain_done = sym (ap (λ (b : Bool). frame_refusal frame channels samples (eqb samples (Chains.samples_of (chain_of k))) b (accepted f) largest_input) (chain_passed ∙ sym (chain_was 1))) ∙ ok

  chain_is : chain_stepped k f frame channels samples ≡ kept_call (Chaining.called (chain_of k) f frame channels samples)
  chain_is = chain_inside k f frame channels samples (chain_was 0) chain_done

  called_ready : ChainHeld.Ready (Chaining.called (chain_of k) f frame channels samples).told.chain
  called_ready = ChainCalls.called_ready (chain_of k) f frame channels samples held figures sound chain_done

  pub chain_stepped_ready : ChainHeld.Ready (chain_of (chain_stepped k f frame channels samples).next.chain)
  unfolding kept_call
  chain_stepped_ready =
      subst ChainHeld.Ready
      (sym (ap (λ (z : ChainStepped). chain_of z.next.chain) chain_is ∙ chain_kept (Chaining.called (chain_of k) f frame channels samples).told.chain called_ready.state))
      called_ready

  pub chain_stepped_passes : chain_passes (chain_stepped k f frame channels samples).next.chain ≡ true
  unfolding kept_call
  chain_stepped_passes =
      ap (λ (z : ChainStepped). chain_passes z.next.chain) chain_is ∙ kept_chain_passes (Chaining.called (chain_of k) f frame channels samples).told.chain called_ready.state

-- all 0 fails: the largest gain is above 0
unset_refused : Settings.accepted Settings.unset ≡ false
unfolding Settings.accepted Settings.unset is_negative_zero of_bits eq le lt
unset_refused = refl

nothing_fails : Chains.passes Chaining.nothing ≡ false
unfolding Chains.passes Chaining.nothing Level.passes Level.nothing
nothing_fails = rw unset_refused

nothing_small : SmallEnvelope (Chaining.nothing).limiter.estimator
unfolding Chaining.nothing Limiting.none Envelope.none
nothing_small = record { samples = lit< tt; part = lit< tt }

-- and what is kept of it
kept_nothing_fails : chain_passes (kept_chain Chaining.nothing) ≡ false
unfolding chain_passes
kept_nothing_fails = ap₂ ◌&&◌ (kept_chain_sound Chaining.nothing) (ap Chains.passes (chain_small_kept Chaining.nothing nothing_small) ∙ nothing_fails)

-- A new chain that is refused fails.
pub chain_not_made : (s : Set) (t samples capacity : ℕ) → ((chain_made s t samples capacity).reply ≡ done → ⊥) → chain_passes (chain_made s t samples capacity).chain ≡ false
unfolding chain_made Chaining.made
chain_not_made s t samples capacity n =
    ap (λ (b : Bool). chain_passes (kept_chain (cond b (Chaining.fresh s t samples capacity) Chaining.nothing)))
    (one_fails (is_samples samples) (Settings.accepted s && Settings.threshold t && is_capacity capacity) n)
    ∙ kept_nothing_fails

-- A chain that fails is taken by no step.
pub chain_failing : (k : KeptChain) (f : Figures) (frame : List Float) (channels samples : ℕ) → chain_passes k ≡ false → (chain_stepped k f frame channels samples).next.reply ≡ done → ⊥
unfolding chain_stepped
chain_failing k f frame channels samples h ok =
    false≢true (sym h ∙ (taken frame channels samples (eqb samples (Chains.samples_of (chain_of k))) (chain_passes k) (accepted f) largest_input ok).settings)
