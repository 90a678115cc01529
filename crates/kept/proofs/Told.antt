-- What the code's calls tell is what the definitions tell. Assumes nothing.
use Rattle.std.specs.Prelude.{◌≡◌, refl, Bool, true, false, ◌&&◌, cond, ℕ, Float, Result, Ok, Err}
use Rattle.std.proofs.Common.{sym, ap, ◌∙◌}
use Rattle.std.specs.Float.{binary32}
use Rattle.std.specs.Float.Ieee.{of_bits}
use Rattle.units.specs.Handed.{number_of, refusal_of, handed}
use Rattle.units.specs.Laws.Handed.{handed_ok, refused_not_done, check_number}
use Rattle.units.specs.Replies.{done, bad_setting, refusal}
use Rattle.units.specs.Settings as Settings
use Rattle.units.specs.declared.kinds.LinearS16.{LinearS16}
use Rattle.units.specs.declared.refusals.Refusal.{Refusal}
use Rattle.units.specs.declared.settings.Settings.{Settings as Set}
use Rattle.frames.specs.Shape.{is_samples}
use Rattle.saturation_protector_buffer.specs.Ring.{is_capacity}
use Rattle.speech_level_estimator.proofs.Tested.{passed_on}
use Rattle.limiter.specs.Limiter as Limiting
use Rattle.limiter.specs.declared.Limiter.{Limiter}
use Rattle.chain.specs.Chain as Chains
use Rattle.chain.specs.Calls as Chaining
use Rattle.chain.specs.Calls.{Reading as ChainReading}
use Rattle.chain.specs.declared.Chain.{Chain}
use Rattle.chain.specs.declared.Published.{Published as ChainPublished}
use Rattle.kept.specs.States.{sound_limiter, limiter_of, kept_limiter, none_limiter, sound_chain, chain_of, kept_chain, none_chain}
use Rattle.kept.specs.Calls.{NewLimiter, told_level, NewChain, told_chain, Reading, told_published, limiter_made, limiter_read, chain_passes, chain_made, chain_gapped, kept_published, chain_read}
use Rattle.kept.specs.Laws.Gaps.{chain_gap_taken, chain_gap_failing}
use Rattle.kept.specs.declared.states.KeptLimiter.{KeptLimiter}
use Rattle.kept.specs.declared.states.KeptChain.{KeptChain}

-- what is refused by a test alone has failed it, and is refused with 4
failed_test : {A : Type 0} (b : Bool) (made : A) (e : Refusal) → Err e ≡ handed (refusal true b true true) made → (b ≡ false) × (number_of e ≡ bad_setting)
unfolding refusal
failed_test true made e h = absurd (refused_not_done (refusal true true true true) made e h refl)
failed_test false made e h = (refl, check_number true false true true made e h)

-- ---- a new limiter
pub limiter_is_made : (samples : ℕ) (l : Limiter) → Ok l ≡ handed (Limiting.made samples).reply (Limiting.made samples).limiter
    → ◌≡◌ {A = NewLimiter} (record { reply = done; limiter = kept_limiter l }) (limiter_made samples)
unfolding limiter_made
limiter_is_made samples l h = let both = handed_ok _ _ _ (sym h) in rw (both.0, both.1)

limiter_by_shape : (b : Bool) (x y : Limiter) (e : Refusal) → Err e ≡ handed (refusal b true true true) (cond b x y)
    → ◌≡◌ {A = NewLimiter} (record { reply = number_of e; limiter = kept_limiter y }) (record { reply = refusal b true true true; limiter = kept_limiter (cond b x y) })
unfolding refusal
limiter_by_shape true x y e h = absurd (refused_not_done (refusal true true true true) x e h refl)
limiter_by_shape false x y e h = rw (check_number false true true true y e h)

pub limiter_is_refused : (samples : ℕ) (e : Refusal) → Err e ≡ handed (Limiting.made samples).reply (Limiting.made samples).limiter
    → ◌≡◌ {A = NewLimiter} (record { reply = number_of e; limiter = none_limiter }) (limiter_made samples)
unfolding limiter_made Limiting.made none_limiter
limiter_is_refused samples e h = limiter_by_shape (is_samples samples) (Limiting.starting samples) Limiting.none e h

-- ---- a limiter that is read
pub level_unsound : (k : KeptLimiter) (e : Refusal) → Err e ≡ handed (refusal true (sound_limiter k) true true) k → told_level (Err e) ≡ limiter_read k
unfolding limiter_read told_level
level_unsound k e h = let both = failed_test (sound_limiter k) k e h in rw (both.0, both.1)

level_by_test : (b : Bool) (x : Float)
    → told_level (handed (refusal true b true true) (record { 0 = cond b x (of_bits binary32 0x0000_0000) }))
    ≡ record { reply = refusal true b true true; level = record { 0 = cond b x (of_bits binary32 0x0000_0000) } }
unfolding told_level handed refusal refusal_of number_of
level_by_test true x = refl
level_by_test false x = refl

level_heard : (l : Limiter) → told_level (handed (Limiting.heard l).reply (Limiting.heard l).level) ≡ record { reply = (Limiting.heard l).reply; level = (Limiting.heard l).level }
unfolding Limiting.heard
level_heard l = level_by_test (Limiting.passes l) l.estimator.level

pub level_read : (k d : KeptLimiter) (r : Result LinearS16 Refusal) → Ok d ≡ handed (refusal true (sound_limiter k) true true) k
    → r ≡ handed (Limiting.heard (limiter_of d)).reply (Limiting.heard (limiter_of d)).level → told_level r ≡ limiter_read k
unfolding limiter_read
level_read k d r h told =
    let both = passed_on (sound_limiter k) k d h in
    rw (told, ← both.1, both.0) (level_heard (limiter_of k))

-- ---- a new chain
pub chain_is_made : (s : Set) (t samples capacity : ℕ) (c : Chain) → Ok c ≡ handed (Chaining.made s t samples capacity).reply (Chaining.made s t samples capacity).chain
    → ◌≡◌ {A = NewChain} (record { reply = done; chain = kept_chain c }) (chain_made s t samples capacity)
unfolding chain_made
chain_is_made s t samples capacity c h = let both = handed_ok _ _ _ (sym h) in rw (both.0, both.1)

chain_by_tests : (a b : Bool) (x y : Chain) (e : Refusal) → Err e ≡ handed (refusal a b true true) (cond (a && b) x y)
    → ◌≡◌ {A = NewChain} (record { reply = number_of e; chain = kept_chain y }) (record { reply = refusal a b true true; chain = kept_chain (cond (a && b) x y) })
unfolding refusal
chain_by_tests true true x y e h = absurd (refused_not_done (refusal true true true true) x e h refl)
chain_by_tests true false x y e h = rw (check_number true false true true y e h)
chain_by_tests false b x y e h = rw (check_number false b true true y e h)

pub chain_is_refused : (s : Set) (t samples capacity : ℕ) (e : Refusal) → Err e ≡ handed (Chaining.made s t samples capacity).reply (Chaining.made s t samples capacity).chain
    → ◌≡◌ {A = NewChain} (record { reply = number_of e; chain = none_chain }) (chain_made s t samples capacity)
unfolding chain_made Chaining.made none_chain
chain_is_refused s t samples capacity e h =
    chain_by_tests (is_samples samples) (Settings.accepted s && Settings.threshold t && is_capacity capacity) (Chaining.fresh s t samples capacity) Chaining.nothing e h

-- ---- a gap
passes_by : (k : KeptChain) (b c : Bool) → sound_chain k ≡ b → Chains.passes (chain_of k) ≡ c → chain_passes k ≡ b && c
unfolding chain_passes
passes_by k b c h p = rw (h, p)

pub gap_unsound : (k : KeptChain) (e : Refusal) → Err e ≡ handed (refusal true (sound_chain k) true true) k → told_chain k (Err e) ≡ chain_gapped k
unfolding told_chain
gap_unsound k e h =
    let both = failed_test (sound_chain k) k e h in
    rw both.1 (sym (chain_gap_failing k (passes_by k false (Chains.passes (chain_of k)) both.0 refl)))

pub gap_refused : (k d : KeptChain) (e : Refusal) → Ok d ≡ handed (refusal true (sound_chain k) true true) k
    → Err e ≡ handed (Chaining.gap (chain_of d)).reply (Chaining.gap (chain_of d)).chain → told_chain k (Err e) ≡ chain_gapped k
unfolding told_chain Chaining.gap
gap_refused k d e h g =
    let both = passed_on (sound_chain k) k d h in
    let failed = failed_test (Chains.passes (chain_of d)) (Chaining.gap (chain_of d)).chain e g in
    rw failed.1 (sym (chain_gap_failing k (passes_by k true false both.0 (ap (λ (z : KeptChain). Chains.passes (chain_of z)) both.1 ∙ failed.0))))

gap_passed : (c d : Chain) → Ok d ≡ handed (Chaining.gap c).reply (Chaining.gap c).chain → (Chains.passes c ≡ true) × ((Chaining.gap c).chain ≡ d)
unfolding Chaining.gap
gap_passed c d g = passed_on (Chains.passes c) (Chaining.gap c).chain d g

pub gap_taken : (k d : KeptChain) (after : Chain) → Ok d ≡ handed (refusal true (sound_chain k) true true) k
    → Ok after ≡ handed (Chaining.gap (chain_of d)).reply (Chaining.gap (chain_of d)).chain
    → ◌≡◌ {A = NewChain} (record { reply = done; chain = kept_chain after }) (chain_gapped k)
gap_taken k d after h g =
    let both = passed_on (sound_chain k) k d h in
    let gone = gap_passed (chain_of d) after g in
    rw (← gone.1, ← both.1) (sym (chain_gap_taken k (passes_by k true true both.0 (ap (λ (z : KeptChain). Chains.passes (chain_of z)) both.1 ∙ gone.0))))

-- ---- a chain that is read
pub read_unsound : (k : KeptChain) (e : Refusal) → Err e ≡ handed (refusal true (sound_chain k) true true) k → told_published (Err e) ≡ chain_read k
unfolding chain_read told_published
read_unsound k e h = let both = failed_test (sound_chain k) k e h in rw (both.0, both.1)

published_failed : (c : Chain) (e : Refusal) → Err e ≡ handed (Chaining.published_told c).reply (Chaining.published_told c).published
    → (Chains.passes c ≡ false) × (number_of e ≡ bad_setting)
unfolding Chaining.published_told
published_failed c e h = failed_test (Chains.passes c) (Chaining.published_told c).published e h

published_nothing : (c : Chain) → Chains.passes c ≡ false → Chaining.published_told c ≡ record { reply = bad_setting; published = Chaining.nothing_published }
unfolding Chaining.published_told refusal
published_nothing c h = rw h

pub read_refused : (k d : KeptChain) (e : Refusal) → Ok d ≡ handed (refusal true (sound_chain k) true true) k
    → Err e ≡ handed (Chaining.published_told (chain_of d)).reply (Chaining.published_told (chain_of d)).published → told_published (Err e) ≡ chain_read k
unfolding chain_read told_published
read_refused k d e h g =
    let both = passed_on (sound_chain k) k d h in
    let failed = published_failed (chain_of d) e g in
    let nothing = published_nothing (chain_of d) failed.0 in
    rw (both.0, both.1, ap (λ (z : ChainReading). z.reply) nothing, ap (λ (z : ChainReading). z.published) nothing, failed.1)

pub read_told : (k d : KeptChain) (p : ChainPublished) → Ok d ≡ handed (refusal true (sound_chain k) true true) k
    → Ok p ≡ handed (Chaining.published_told (chain_of d)).reply (Chaining.published_told (chain_of d)).published
    → ◌≡◌ {A = Reading} (record { reply = done; published = kept_published p }) (chain_read k)
unfolding chain_read
read_told k d p h g =
    let both = passed_on (sound_chain k) k d h in
    let told = handed_ok _ _ _ (sym g) in
    rw (both.0, both.1, told.0, told.1)
