-- A gap of what is kept is that of the chain inside, where what is kept passes, and then it passes again; elsewhere the gap is refused with 4. A refused one
-- changes nothing. Laws.
-- Assumes nothing.
use Rattle.std.specs.Prelude.{◌≡◌, refl, Bool, false, [], ◌∷◌}
use Rattle.std.proofs.Math.Path.{sym, ap, ap₂}
use Rattle.std.proofs.Common.{◌∙◌, subst}
use Rattle.std.proofs.Math.Bool.{true, ◌&&◌}
use Rattle.std.proofs.Math.Dec.{eqb}
use Rattle.lists.specs.Tests.{each_of}
use Rattle.units.specs.Replies.{done, bad_setting, refusal}
use Rattle.units.specs.Laws.Replies.{none_refused}
use Rattle.gain_applier.specs.declared.Applier.{Applier}
use Rattle.chain.specs.Chain as Chains
use Rattle.chain.specs.Calls as Chaining
use Rattle.chain.specs.Held as ChainHeld
use Rattle.chain.specs.Laws.Gaps as ChainGaps
use Rattle.chain.specs.Laws.Passing as ChainPassing
use Rattle.chain.specs.declared.Chain.{Chain}
use Rattle.chain.specs.Calls.{Gapped}
use Rattle.kept.specs.States.{kept_limiter, number_of, sound_chain, chain_of, kept_chain}
use Rattle.kept.specs.Calls.{NewChain, chain_passes, chain_gapped, kept_published, Reading, chain_read}
use Rattle.kept.specs.Laws.States.{number_back, limiter_back, chain_kept, flags}
use Rattle.kept.specs.Laws.Passing.{kept_chain_passes}
use Rattle.kept.specs.declared.states.KeptApplier.{KeptApplier}
use Rattle.kept.specs.declared.states.KeptChain.{KeptChain}
use Rattle.kept.specs.declared.calls.Published.{Published}

-- by a test that is one or the other
by_test : {P : Type 0} (b : Bool) → (b ≡ true → P) → (b ≡ false → P) → P
by_test true t f = t refl
by_test false t f = f refl

-- a chain takes a gap where it passes
gap_done : (c : Chain) → eqb (Chaining.gap c).reply done ≡ Chains.passes c
unfolding Chaining.gap refusal
gap_done c = by_reply (Chains.passes c)
  where
    by_reply : (b : Bool) → eqb (refusal true b true true) done ≡ b
    by_reply true = refl
    by_reply false = refl

module _ (k : KeptChain) where
  abbrev inside : Gapped
  inside = Chaining.gap (chain_of k)

  -- ---- what a gap comes to
  -- A chain that passes takes a gap, which is that of the chain inside;
  pub chain_gap_taken : chain_passes k ≡ true → chain_gapped k ≡ record { reply = done; chain = kept_chain inside.chain }
  unfolding chain_gapped refusal
  chain_gap_taken h = rw h

  -- one that fails is refused with 4, and stays as it was.
  pub chain_gap_failing : chain_passes k ≡ false → chain_gapped k ≡ record { reply = bad_setting; chain = k }
  unfolding chain_gapped refusal
  chain_gap_failing h = rw h

  -- So a chain that took a gap had passed,
  pub chain_gap_passed : (chain_gapped k).reply ≡ done → chain_passes k ≡ true
  unfolding chain_gapped
  chain_gap_passed h = (none_refused true (chain_passes k) true true h).1

  -- and a refused gap changes nothing.
  pub chain_gap_refused : ((chain_gapped k).reply ≡ done → ⊥) → (chain_gapped k).chain ≡ k
  chain_gap_refused n =
      by_test (chain_passes k) (λ (h : chain_passes k ≡ true). absurd (n (ap (λ (z : NewChain). z.reply) (chain_gap_taken h))))
      (λ (h : chain_passes k ≡ false). ap (λ (z : NewChain). z.chain) (chain_gap_failing h))

  -- ---- the code
  -- what the code tests: the flags, and what the chain inside replies
  module _ {c : Chain} {n : Gapped} {sound : Bool} (ec : c ≡ chain_of k) (en : n ≡ Chaining.gap c) (es : sound ≡ sound_chain k) where
    same : n ≡ inside
    same = en ∙ ap Chaining.gap ec

    tested : sound && eqb n.reply done ≡ chain_passes k
    unfolding chain_passes
    tested = ap₂ ◌&&◌ es (ap (λ (z : Gapped). eqb z.reply done) same ∙ gap_done (chain_of k))

    -- What the code's calls come to is the definition's: where the gap is taken,
    pub chain_gap_joined : {a : KeptChain} → sound && eqb n.reply done ≡ true → a ≡ kept_chain n.chain → ◌≡◌ {A = NewChain} (record { reply = done; chain = a }) (chain_gapped k)
    chain_gap_joined h ea = rw (ea, same, chain_gap_taken (sym tested ∙ h))

    -- and where it is refused.
    pub chain_gap_let_be : sound && eqb n.reply done ≡ false → ◌≡◌ {A = NewChain} (record { reply = bad_setting; chain = k }) (chain_gapped k)
    chain_gap_let_be h = sym (chain_gap_failing (sym tested ∙ h))

-- ---- what passes does so after a gap
-- its flags are flags, and the chain inside passes
record Parts (k : KeptChain) : Type 0 where
  pub sound : sound_chain k ≡ true
  pub inside : Chains.passes (chain_of k) ≡ true

passed : (k : KeptChain) → chain_passes k ≡ true → Parts k
unfolding chain_passes
passed k h =
    let p = each_of (sound_chain k ∷ Chains.passes (chain_of k) ∷ []) h in
    record { sound = p 0; inside = p 1 }

-- what is kept of an applier
abbrev kept_applier : Applier → KeptApplier
kept_applier a = record { clip = number_of a.clip; last = a.last; current = a.current; samples = a.samples; inverse = a.inverse }

-- what the chain inside tells, where what is kept passes
read_passing : (k : KeptChain) → chain_passes k ≡ true → chain_read k ≡ record { reply = done; published = kept_published (Chains.published (chain_of k)) }
unfolding chain_read Chaining.published_told refusal
read_passing k h = let p = passed k h in rw (p.sound, p.inside)

module _ (k : KeptChain) (held : ChainHeld.HeldChain (chain_of k)) (ok : (chain_gapped k).reply ≡ done) where
  was : Parts k
  was = passed k (chain_gap_passed k ok)

  inside_ready : ChainHeld.Ready (inside k).chain
  inside_ready = ChainGaps.gap_ready (chain_of k) (record { held = held; state = was.inside })

  taken : (chain_gapped k).chain ≡ kept_chain (inside k).chain
  taken = ap (λ (z : NewChain). z.chain) (chain_gap_taken k (chain_gap_passed k ok))

  -- Where the numbers that come in are f32, what is kept after a gap gives back the chain inside, as its gap left it,
  pub chain_gapped_inside : chain_of (chain_gapped k).chain ≡ (inside k).chain
  chain_gapped_inside = ap chain_of taken ∙ chain_kept (inside k).chain inside_ready.state

  -- whose numbers are f32,
  pub chain_gapped_ready : ChainHeld.Ready (chain_of (chain_gapped k).chain)
  chain_gapped_ready = subst ChainHeld.Ready (sym chain_gapped_inside) inside_ready

  -- and passes.
  pub chain_gapped_passes : chain_passes (chain_gapped k).chain ≡ true
  chain_gapped_passes = ap chain_passes taken ∙ kept_chain_passes (inside k).chain inside_ready.state

  -- ---- what stays
  read_after : (chain_read (chain_gapped k).chain).published ≡ kept_published (Chains.published (inside k).chain)
  read_after =
      ap (λ (z : Reading). z.published) (read_passing (chain_gapped k).chain chain_gapped_passes) ∙ ap (λ (c : Chain). kept_published (Chains.published c)) chain_gapped_inside

  read_before : (chain_read k).published ≡ kept_published (Chains.published (chain_of k))
  read_before = ap (λ (z : Reading). z.published) (read_passing k (chain_gap_passed k ok))

  -- The level that is read stays,
  pub chain_gapped_level : (chain_read (chain_gapped k).chain).published.level ≡ (chain_read k).published.level
  unfolding kept_published
  chain_gapped_level = ap (λ (p : Published). p.level) read_after ∙ ChainGaps.gap_level (chain_of k) ∙ sym (ap (λ (p : Published). p.level) read_before)

  -- the headroom
  pub chain_gapped_headroom : (chain_read (chain_gapped k).chain).published.headroom ≡ (chain_read k).published.headroom
  unfolding kept_published
  chain_gapped_headroom = ap (λ (p : Published). p.headroom) read_after ∙ ChainGaps.gap_headroom (chain_of k) ∙ sym (ap (λ (p : Published). p.headroom) read_before)

  -- and the gain,
  pub chain_gapped_gain : (chain_read (chain_gapped k).chain).published.gain ≡ (chain_read k).published.gain
  unfolding kept_published
  chain_gapped_gain = ap (λ (p : Published). p.gain) read_after ∙ ChainGaps.gap_gain (chain_of k) ∙ sym (ap (λ (p : Published). p.gain) read_before)

  -- and so do the limiter with its counts
  pub chain_gapped_limiter : (chain_gapped k).chain.limiter ≡ k.limiter
  unfolding kept_chain chain_of
  chain_gapped_limiter =
      ap (λ (z : KeptChain). z.limiter) taken ∙ ap kept_limiter (ChainGaps.gap_limiter (chain_of k))
      ∙ limiter_back k.limiter (flags k was.sound).limiter (ChainPassing.passed_all (chain_of k) was.inside).limiter

  -- and the gain's way from one frame to the next, number for number.
  pub chain_gapped_applier : (chain_gapped k).chain.controller.applier ≡ k.controller.applier
  unfolding kept_chain chain_of
  chain_gapped_applier =
      ap (λ (z : KeptChain). z.controller.applier) taken ∙ ap kept_applier (ChainGaps.gap_applier (chain_of k))
      ∙ rw (number_back k.controller.applier.clip (flags k was.sound).clip)
