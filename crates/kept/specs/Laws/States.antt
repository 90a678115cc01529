-- What is kept comes back, both ways, where it passes, and is sound. Laws.
-- Assumes nothing.
use Rattle.std.specs.Prelude.{◌≡◌, refl, Bool, true, false, cond, [], ◌∷◌, ℕ, ◌≤◌, ◌<◌, ◌/◌, ◌%◌, eqb, leb}
use Rattle.std.proofs.Common.{sym, mod-eq_of_lt, arith, leb-true, eqb-true}
use Rattle.std.proofs.lemmas.Bool.{eqb-false}
use Rattle.std.specs.Float.Ieee.{eq}
use Rattle.lists.specs.Tests.{each_of, ◌and◌}
use Rattle.units.specs.Figures.{curve_level}
use Rattle.frames.specs.Shape.{is_samples}
use Rattle.speech_level_estimator.specs.Estimator as Level
use Rattle.adaptive_digital_gain_controller.specs.Controller as Gain
use Rattle.saturation_protector.specs.Protector as Headroom
use Rattle.fixed_digital_level_estimator.specs.Estimator as Envelopes
use Rattle.fixed_digital_level_estimator.specs.declared.Estimator.{Estimator}
use Rattle.limiter.specs.Limiter as Limiting
use Rattle.limiter.specs.declared.Limiter.{Limiter}
use Rattle.chain.specs.Chain as Chains
use Rattle.chain.specs.declared.Chain.{Chain}
use Rattle.kept.specs.States.{is_flag, flag_of, number_of, narrow, envelope_of, kept_envelope, sound_limiter, limiter_of, kept_limiter, sound_chain, chain_of, kept_chain}
use Rattle.kept.specs.declared.states.KeptEnvelope.{KeptEnvelope}
use Rattle.kept.specs.declared.states.KeptLimiter.{KeptLimiter}
use Rattle.kept.specs.declared.states.KeptChain.{KeptChain}

-- ---- a flag
-- A flag that is kept comes back,
pub flag_back : (b : Bool) → flag_of (number_of b) ≡ b
unfolding flag_of number_of
flag_back true = refl
flag_back false = refl

-- and its number is a flag's.
pub number_sound : (b : Bool) → is_flag (number_of b) ≡ true
unfolding is_flag number_of
number_sound true = refl
number_sound false = refl

-- a number up to 1 is 1 or 0
zero_or_one : (n : ℕ) (b : Bool) → eqb n 1 ≡ b → n ≤ 1 → cond b 1 0 ≡ n
zero_or_one n true e h = sym (eqb-true n 1 e)
zero_or_one n false e h = let other : n ≡ 1 → ⊥ = eqb-false n 1 e in omega arith

-- The number of a flag comes back.
pub number_back : (n : ℕ) → is_flag n ≡ true → number_of (flag_of n) ≡ n
unfolding is_flag flag_of number_of
number_back n h = zero_or_one n (eqb n 1) refl (leb-true n 1 h)

-- ---- a number of 64 bits
-- It has no more than 32.
abbrev pub Small : ℕ → Type 0
Small n = n < 4294967296

-- Then what is kept of it is the number itself.
pub narrow_small : (n : ℕ) → Small n → narrow n ≡ n
unfolding narrow
narrow_small n h = mod-eq_of_lt h

-- ---- the limiter
pub record SmallEnvelope (e : Estimator) : Type 0 where
  pub samples : Small e.samples
  pub part : Small e.part

-- The numbers of an envelope that passes are small: a frame has at most 480 samples a channel, and a part a twentieth of them.
pub envelope_small : (e : Estimator) → Envelopes.passes e ≡ true → SmallEnvelope e
unfolding Envelopes.passes is_samples
envelope_small e h =
    let p = each_of (curve_level e.level ∷ is_samples e.samples ∷ eqb e.part (e.samples / 20) ∷ []) h in
    let samples : e.samples ≤ 480 = leb-true e.samples 480 (each_of (leb 40 e.samples ∷ leb e.samples 480 ∷ eqb (e.samples % 20) 0 ∷ []) (p 1) 1) in
    let part : e.part ≡ e.samples / 20 = eqb-true e.part (e.samples / 20) (p 2) in
    record { samples = omega arith; part = omega arith }

pub limiter_small : (l : Limiter) → Limiting.passes l ≡ true → SmallEnvelope l.estimator
unfolding Limiting.passes
limiter_small l h = envelope_small l.estimator (each_of (_ ∷ _ ∷ _ ∷ []) h 0)

envelope_kept : (e : Estimator) → SmallEnvelope e → envelope_of (kept_envelope e) ≡ e
unfolding envelope_of kept_envelope
envelope_kept e h = rw (narrow_small e.samples h.samples, narrow_small e.part h.part)

envelope_back : (k : KeptEnvelope) → SmallEnvelope (envelope_of k) → kept_envelope (envelope_of k) ≡ k
unfolding envelope_of kept_envelope
envelope_back k h = rw (narrow_small k.samples h.samples, narrow_small k.part h.part)

-- A limiter of small numbers that is kept comes back,
pub limiter_small_kept : (l : Limiter) → SmallEnvelope l.estimator → limiter_of (kept_limiter l) ≡ l
unfolding limiter_of kept_limiter
limiter_small_kept l h = rw (flag_back l.curve.available, envelope_kept l.estimator h)

-- as one that passes does,
pub limiter_kept : (l : Limiter) → Limiting.passes l ≡ true → limiter_of (kept_limiter l) ≡ l
limiter_kept l h = limiter_small_kept l (limiter_small l h)

-- and is sound.
pub kept_limiter_sound : (l : Limiter) → sound_limiter (kept_limiter l) ≡ true
unfolding sound_limiter kept_limiter
kept_limiter_sound l = number_sound l.curve.available

limiter_small_back : (k : KeptLimiter) → sound_limiter k ≡ true → SmallEnvelope (limiter_of k).estimator → kept_limiter (limiter_of k) ≡ k
unfolding sound_limiter limiter_of kept_limiter
limiter_small_back k h s = rw (number_back k.curve.available h, envelope_back k.estimator s)

-- What is kept of the limiter inside is what came in, where that is sound and the limiter inside passes.
pub limiter_back : (k : KeptLimiter) → sound_limiter k ≡ true → Limiting.passes (limiter_of k) ≡ true → kept_limiter (limiter_of k) ≡ k
limiter_back k h p = limiter_small_back k h (limiter_small (limiter_of k) p)

-- ---- the chain
pub chain_small : (c : Chain) → Chains.passes c ≡ true → SmallEnvelope c.limiter.estimator
unfolding Chains.passes
chain_small c h =
    let p =
    each_of
    (Level.passes c.estimator ∷ Headroom.passes c.protector ∷ Gain.passes c.controller ∷ Limiting.passes c.limiter ∷ eqb c.estimator.threshold c.protector.threshold
    ∷ eqb c.estimator.threshold c.controller.threshold ∷ Chains.alike c.estimator.settings c.controller.settings ∷ eq c.protector.initial Chains.initial ∷ [])
    h in
    limiter_small c.limiter (p 3)

-- A chain of small numbers that is kept comes back,
pub chain_small_kept : (c : Chain) → SmallEnvelope c.limiter.estimator → chain_of (kept_chain c) ≡ c
unfolding chain_of kept_chain
chain_small_kept c h = rw (flag_back c.estimator.confident, flag_back c.controller.applier.clip, limiter_small_kept c.limiter h)

-- as one that passes does,
pub chain_kept : (c : Chain) → Chains.passes c ≡ true → chain_of (kept_chain c) ≡ c
chain_kept c h = chain_small_kept c (chain_small c h)

-- and is sound.
pub kept_chain_sound : (c : Chain) → sound_chain (kept_chain c) ≡ true
unfolding sound_chain kept_chain
kept_chain_sound c = number_sound c.estimator.confident and number_sound c.controller.applier.clip and kept_limiter_sound c.limiter

-- the three flags of a sound chain
pub record Flags (k : KeptChain) : Type 0 where
  pub confident : is_flag k.estimator.confident ≡ true
  pub clip : is_flag k.controller.applier.clip ≡ true
  pub limiter : sound_limiter k.limiter ≡ true

pub flags : (k : KeptChain) → sound_chain k ≡ true → Flags k
unfolding sound_chain
flags k h =
    let p = each_of (_ ∷ _ ∷ _ ∷ []) h in
    record { confident = p 0; clip = p 1; limiter = p 2 }

small_back : (k : KeptChain) → Flags k → SmallEnvelope (chain_of k).limiter.estimator → kept_chain (chain_of k) ≡ k
unfolding chain_of kept_chain
small_back k f s =
    rw (number_back k.estimator.confident f.confident, number_back k.controller.applier.clip f.clip, limiter_small_back k.limiter f.limiter s)

-- What is kept of the chain inside is what came in, where that is sound and the chain inside passes.
pub chain_back : (k : KeptChain) → sound_chain k ≡ true → Chains.passes (chain_of k) ≡ true → kept_chain (chain_of k) ≡ k
chain_back k h p = small_back k (flags k h) (chain_small (chain_of k) p)
