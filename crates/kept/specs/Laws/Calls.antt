-- A step of what is kept is that of the limiter or the chain inside, where what is kept is sound; elsewhere it is refused; and a refused one changes nothing.
-- Laws. Assumes nothing.
use Rattle.std.proofs.Math.Path.{◌≡◌, refl, sym, ap}
use Rattle.std.proofs.Common.{◌∙◌}
use Rattle.std.specs.Prelude.{Bool, false, ◌&&◌, cond, List, ℕ, length, Float, Ok, Err}
use Rattle.std.proofs.Math.Bool.{true}
use borrow.Author.Tests.{eq-eqb, ne_eqb, eqb-false}
use Rattle.std.proofs.Math.Dec.{eqb}
use Rattle.units.specs.Figures.{accepted}
use Rattle.units.specs.Handed.{number_of, handed}
use Rattle.units.specs.Laws.Handed.{check_number, number_not_done}
use Rattle.units.specs.Replies.{done, refusal}
use Rattle.units.specs.declared.refusals.Refusal.{Refusal}
use Rattle.units.specs.declared.figures.Figures.{Figures}
use Rattle.frames.specs.Shape.{is_shape}
use Rattle.frames.specs.Samples.{largest_input, largest_level, all_within}
use Rattle.frames.specs.Refusal.{frame_refusal}
use Rattle.limiter.specs.Limiter as Limiting
use Rattle.limiter.specs.declared.Limiter.{Limiter}
use Rattle.limiter.specs.Limiter.{Next as LimiterNext}
use Rattle.chain.specs.Answer.{said, non_speech}
use Rattle.chain.specs.Chain as Chains
use Rattle.chain.specs.Calls as Chaining
use Rattle.chain.specs.Laws.Calls.{called_refused}
use Rattle.chain.specs.declared.Chain.{Chain}
use Rattle.chain.specs.declared.Next.{Next as ChainNext}
use Rattle.kept.specs.States.{envelope_of, sound_limiter, limiter_of, kept_limiter, sound_chain, chain_of, kept_chain}
use Rattle.kept.specs.Calls.{NewLimiter, limiter_passes, LimiterStepped, limiter_stepped, chain_passes, kept_answer, NextChain, ChainStepped, chain_stepped}
use Rattle.kept.specs.declared.states.KeptLimiter.{KeptLimiter}
use Rattle.kept.specs.declared.states.KeptChain.{KeptChain}
use Rattle.kept.specs.declared.calls.KeptAnswer.{KeptAnswer}

-- a state that fails is refused with 1 or 4, whatever the figures and the samples are
state_fails : (shape figure sample : Bool) → refusal shape false figure sample ≡ refusal shape false true true
unfolding refusal
state_fails true figure sample = refl
state_fails false figure sample = refl

not_done : (shape : Bool) → eqb (refusal shape false true true) done ≡ false
unfolding refusal
not_done true = refl
not_done false = refl

failing : (frame : List Float) (channels samples : ℕ) (set setting figure : Bool) (bound : Float) → setting ≡ false
    → frame_refusal frame channels samples set setting figure bound ≡ refusal (is_shape channels samples (length frame) && set) false true true
unfolding frame_refusal
failing frame channels samples set setting figure bound h =
    let shape = is_shape channels samples (length frame) && set in
    ap (λ (b : Bool). refusal shape b figure (all_within bound frame)) h ∙ state_fails shape figure (all_within bound frame)

-- ---- the limiter
-- the number of the limiter's refusal is its reply
pub limiter_number : (l : Limiter) (frame : List Float) (channels samples : ℕ) (made : Limiter) (e : Refusal)
    → Err e ≡ handed (Limiting.processed l frame channels samples).next.reply made → number_of e ≡ (Limiting.processed l frame channels samples).next.reply
unfolding Limiting.processed frame_refusal
limiter_number l frame channels samples made e h =
    check_number (is_shape channels samples (length frame) && eqb samples l.estimator.samples) (Limiting.passes l) true (all_within largest_level frame) made e h

limiter_passes_inside : (k : KeptLimiter) → sound_limiter k ≡ true → limiter_passes k ≡ Limiting.passes (limiter_of k)
unfolding limiter_passes
limiter_passes_inside k h = ap (λ (b : Bool). b && Limiting.passes (limiter_of k)) h

limiter_fails : (k : KeptLimiter) → sound_limiter k ≡ false → limiter_passes k ≡ false
unfolding limiter_passes
limiter_fails k h = ap (λ (b : Bool). b && Limiting.passes (limiter_of k)) h

-- what a limiter's step comes to, by its reply
unfoldable limiter_by : ℕ → KeptLimiter → Limiting.Processed → List Float → LimiterStepped
limiter_by reply k p frame =
    record {
      next = record { reply = reply; limiter = cond (eqb reply done) (kept_limiter p.next.limiter) k };
      frame = cond (eqb reply done) p.frame frame;
    }

-- a limiter's step, of what is kept
unfoldable pub kept_step : Limiting.Processed → LimiterStepped
kept_step p = record { next = record { reply = p.next.reply; limiter = kept_limiter p.next.limiter }; frame = p.frame }

limiter_stays : (l : Limiter) (frame : List Float) (channels samples : ℕ) → eqb (Limiting.processed l frame channels samples).next.reply done ≡ false
    → (Limiting.processed l frame channels samples).frame ≡ frame
unfolding Limiting.processed
limiter_stays l frame channels samples h = rw h

module _ (k : KeptLimiter) (frame : List Float) (channels samples : ℕ) where
  limiter_by_lem : limiter_stepped k frame channels samples
      ≡ limiter_by (frame_refusal frame channels samples (eqb samples k.estimator.samples) (limiter_passes k) true largest_level) k (Limiting.processed (limiter_of k) frame channels samples) frame
  unfolding limiter_stepped limiter_by
  limiter_by_lem = refl

  -- A refused step changes neither the limiter nor the frame.
  pub limiter_refused : ((limiter_stepped k frame channels samples).next.reply ≡ done → ⊥)
      → ((limiter_stepped k frame channels samples).next.limiter ≡ k) × ((limiter_stepped k frame channels samples).frame ≡ frame)
  unfolding limiter_stepped
  limiter_refused n = let e = ne_eqb (limiter_stepped k frame channels samples).next.reply done n in (rw e, rw e)

  -- Where what is kept is no limiter, the step is refused with 1 or 4.
  pub limiter_unsound : sound_limiter k ≡ false
      → limiter_stepped k frame channels samples
      ≡ record { next = record { reply = refusal (is_shape channels samples (length frame) && eqb samples k.estimator.samples) false true true; limiter = k }; frame = frame }
  unfolding limiter_by
  limiter_unsound h =
      let set = eqb samples k.estimator.samples in
      let shape = is_shape channels samples (length frame) && set in
      limiter_by_lem
      ∙ ap (λ (r : ℕ). limiter_by r k (Limiting.processed (limiter_of k) frame channels samples) frame) (failing frame channels samples set (limiter_passes k) true largest_level (limiter_fails k h))
      ∙ rw (not_done shape)

  abbrev limited : Limiting.Processed
  limited = Limiting.processed (limiter_of k) frame channels samples

  same_reply : sound_limiter k ≡ true
      → frame_refusal frame channels samples (eqb samples k.estimator.samples) (limiter_passes k) true largest_level ≡ limited.next.reply
  unfolding Limiting.processed limiter_of envelope_of
  same_reply h = ap (λ (b : Bool). frame_refusal frame channels samples (eqb samples k.estimator.samples) b true largest_level) (limiter_passes_inside k h)

  limiter_by_reply : sound_limiter k ≡ true → limiter_stepped k frame channels samples ≡ limiter_by limited.next.reply k limited frame
  limiter_by_reply h = limiter_by_lem ∙ ap (λ (r : ℕ). limiter_by r k limited frame) (same_reply h)

  -- Where it is one, and its step is done, the step is that of the limiter inside.
  pub limiter_inside : sound_limiter k ≡ true → limited.next.reply ≡ done → limiter_stepped k frame channels samples ≡ kept_step limited
  unfolding limiter_by kept_step
  limiter_inside h d = limiter_by_reply h ∙ rw (eq-eqb limited.next.reply done d)

  -- and where its step is refused, nothing changes
  limiter_not_inside : sound_limiter k ≡ true → (limited.next.reply ≡ done → ⊥)
      → limiter_stepped k frame channels samples ≡ record { next = record { reply = limited.next.reply; limiter = k }; frame = frame }
  unfolding limiter_by
  limiter_not_inside h n = limiter_by_reply h ∙ rw (ne_eqb limited.next.reply done n)

  -- What the code's calls come to is the definition's: where the limiter's step is done,
  pub limiter_joined : {l : Limiter} {n : LimiterNext} {a : KeptLimiter} {out : List Float} → sound_limiter k ≡ true → l ≡ limiter_of k
      → n ≡ (Limiting.processed l frame channels samples).next → out ≡ (Limiting.processed l frame channels samples).frame → n.reply ≡ done → a ≡ kept_limiter n.limiter
      → (◌≡◌ {A = NewLimiter} (record { reply = done; limiter = a }) (limiter_stepped k frame channels samples).next) × (out ≡ (limiter_stepped k frame channels samples).frame)
  unfolding kept_step
  limiter_joined h el en eo d ea =
      let d' : limited.next.reply ≡ done = sym (ap (λ (z : Limiter). (Limiting.processed z frame channels samples).next.reply) el) ∙ sym (ap (λ (z : LimiterNext). z.reply) en) ∙ d in
      rw (ea, en, eo, el, limiter_inside h d', d') (refl, refl)

  -- where it is refused,
  pub limiter_let_be : {l : Limiter} {n : LimiterNext} {out : List Float} → sound_limiter k ≡ true → l ≡ limiter_of k
      → n ≡ (Limiting.processed l frame channels samples).next → out ≡ (Limiting.processed l frame channels samples).frame → (n.reply ≡ done → ⊥)
      → (◌≡◌ {A = NewLimiter} (record { reply = n.reply; limiter = k }) (limiter_stepped k frame channels samples).next) × (out ≡ (limiter_stepped k frame channels samples).frame)
  limiter_let_be {l} {n} {out} h el en eo d =
      let r : n.reply ≡ limited.next.reply = ap (λ (z : LimiterNext). z.reply) en ∙ ap (λ (z : Limiter). (Limiting.processed z frame channels samples).next.reply) el in
      let d' : limited.next.reply ≡ done → ⊥ = λ (e : limited.next.reply ≡ done). d (r ∙ e) in
      let same : out ≡ frame = eo ∙ ap (λ (z : Limiter). (Limiting.processed z frame channels samples).frame) el ∙ limiter_stays (limiter_of k) frame channels samples (ne_eqb limited.next.reply done d') in
      rw (r, same, limiter_not_inside h d') (refl, refl)

  -- and where what is kept is no limiter.
  pub limiter_turned_away : {r : ℕ} → sound_limiter k ≡ false → r ≡ refusal (is_shape channels samples (length frame) && eqb samples k.estimator.samples) false true true
      → (◌≡◌ {A = NewLimiter} (record { reply = r; limiter = k }) (limiter_stepped k frame channels samples).next) × (frame ≡ (limiter_stepped k frame channels samples).frame) × (r ≡ done → ⊥)
  limiter_turned_away {r} h e =
      let u = limiter_unsound h in (
        ap (λ (n : ℕ). record { reply = n; limiter = k }) e ∙ sym (ap (λ (z : LimiterStepped). z.next) u),
        sym (ap (λ (z : LimiterStepped). z.frame) u),
        eqb-false r done (ap (λ (n : ℕ). eqb n done) e ∙ not_done (is_shape channels samples (length frame) && eqb samples k.estimator.samples)),
      )

-- ---- the chain
chain_passes_inside : (k : KeptChain) → sound_chain k ≡ true → chain_passes k ≡ Chains.passes (chain_of k)
unfolding chain_passes
chain_passes_inside k h = ap (λ (b : Bool). b && Chains.passes (chain_of k)) h

chain_fails : (k : KeptChain) → sound_chain k ≡ false → chain_passes k ≡ false
unfolding chain_passes
chain_fails k h = ap (λ (b : Bool). b && Chains.passes (chain_of k)) h

-- what a chain's step comes to, by its reply
unfoldable chain_by : ℕ → KeptChain → Chaining.Called → List Float → ChainStepped
chain_by reply k c frame =
    record {
      next =
          record {
            reply = reply;
            answer = kept_answer (cond (eqb reply done) c.told.answer non_speech);
            chain = cond (eqb reply done) (kept_chain c.told.chain) k;
          };
      frame = cond (eqb reply done) c.frame frame;
    }

-- a chain's step, of what is kept
unfoldable pub kept_call : Chaining.Called → ChainStepped
kept_call c = record { next = record { reply = c.told.reply; answer = kept_answer c.told.answer; chain = kept_chain c.told.chain }; frame = c.frame }

module _ (k : KeptChain) (f : Figures) (frame : List Float) (channels samples : ℕ) where
  abbrev inside : Chaining.Called
  inside = Chaining.called (chain_of k) f frame channels samples

  chain_by_lem : chain_stepped k f frame channels samples
      ≡ chain_by (frame_refusal frame channels samples (eqb samples (Chains.samples_of (chain_of k))) (chain_passes k) (accepted f) largest_input) k inside frame
  unfolding chain_stepped chain_by
  chain_by_lem = refl

  -- A refused step changes neither the chain nor the frame, and answers as no speech does.
  pub chain_refused : ((chain_stepped k f frame channels samples).next.reply ≡ done → ⊥)
      → ((chain_stepped k f frame channels samples).next.chain ≡ k) × ((chain_stepped k f frame channels samples).next.answer ≡ kept_answer non_speech) × ((chain_stepped k f frame channels samples).frame ≡ frame)
  unfolding chain_stepped
  chain_refused n = let e = ne_eqb (chain_stepped k f frame channels samples).next.reply done n in (rw e, rw e, rw e)

  -- Where what is kept is no chain, the step is refused with 1 or 4.
  pub chain_unsound : sound_chain k ≡ false
      → chain_stepped k f frame channels samples
      ≡ record {
        next = record { reply = refusal (is_shape channels samples (length frame) && eqb samples (Chains.samples_of (chain_of k))) false true true; answer = kept_answer non_speech; chain = k };
        frame = frame;
      }
  unfolding chain_by
  chain_unsound h =
      let set = eqb samples (Chains.samples_of (chain_of k)) in
      let shape = is_shape channels samples (length frame) && set in
      chain_by_lem
      ∙ ap (λ (r : ℕ). chain_by r k inside frame) (failing frame channels samples set (chain_passes k) (accepted f) largest_input (chain_fails k h))
      ∙ rw (not_done shape)

  called_reply : Chaining.refused (chain_of k) f frame channels samples ≡ inside.told.reply
  unfolding Chaining.called
  called_reply = refl

  inside_reply : sound_chain k ≡ true
      → frame_refusal frame channels samples (eqb samples (Chains.samples_of (chain_of k))) (chain_passes k) (accepted f) largest_input ≡ inside.told.reply
  unfolding Chaining.refused
  inside_reply h = ap (λ (b : Bool). frame_refusal frame channels samples (eqb samples (Chains.samples_of (chain_of k))) b (accepted f) largest_input) (chain_passes_inside k h) ∙ called_reply

  chain_by_reply : sound_chain k ≡ true → chain_stepped k f frame channels samples ≡ chain_by inside.told.reply k inside frame
  chain_by_reply h = chain_by_lem ∙ ap (λ (r : ℕ). chain_by r k inside frame) (inside_reply h)

  -- Where it is one, and its step is done, the step is that of the chain inside.
  pub chain_inside : sound_chain k ≡ true → inside.told.reply ≡ done → chain_stepped k f frame channels samples ≡ kept_call inside
  unfolding chain_by kept_call
  chain_inside h d = chain_by_reply h ∙ rw (eq-eqb inside.told.reply done d)

  -- and where its step is refused, nothing changes
  chain_not_inside : sound_chain k ≡ true → (inside.told.reply ≡ done → ⊥)
      → chain_stepped k f frame channels samples ≡ record { next = record { reply = inside.told.reply; answer = kept_answer non_speech; chain = k }; frame = frame }
  unfolding chain_by
  chain_not_inside h n = chain_by_reply h ∙ rw (ne_eqb inside.told.reply done n)

  -- What the code's calls come to is the definition's: where the chain's step is done,
  pub chain_joined : {c : Chain} (n : ChainNext) {t : KeptAnswer} {a : KeptChain} {out : List Float} → sound_chain k ≡ true → c ≡ chain_of k
      → Chaining.told c (Ok n) ≡ (Chaining.called c f frame channels samples).told → out ≡ (Chaining.called c f frame channels samples).frame → t ≡ kept_answer (said n.answer) → a ≡ kept_chain n.chain
      → (◌≡◌ {A = NextChain} (record { reply = done; answer = t; chain = a }) (chain_stepped k f frame channels samples).next) × (out ≡ (chain_stepped k f frame channels samples).frame)
  unfolding kept_call Chaining.told
  chain_joined n h ec en eo et ea =
      let same = en ∙ ap (λ (z : Chain). (Chaining.called z f frame channels samples).told) ec in
      let r = ap (λ (z : Chaining.Told). z.reply) same in
      let t' = et ∙ ap (λ (z : Chaining.Told). kept_answer z.answer) same in
      let a' = ea ∙ ap (λ (z : Chaining.Told). kept_chain z.chain) same in
      let next : ◌≡◌ {A = NextChain} (record { reply = done; answer = _; chain = _ }) (kept_call inside).next = λ i. record { reply = r i; answer = t' i; chain = a' i } in (
        next ∙ sym (ap (λ (z : ChainStepped). z.next) (chain_inside h (sym r))),
        eo ∙ ap (λ (z : Chain). (Chaining.called z f frame channels samples).frame) ec ∙ sym (ap (λ (z : ChainStepped). z.frame) (chain_inside h (sym r))),
      )

  -- where it is refused,
  pub chain_let_be : {c : Chain} (e : Refusal) {t : KeptAnswer} {out : List Float} → sound_chain k ≡ true → c ≡ chain_of k
      → Chaining.told c (Err e) ≡ (Chaining.called c f frame channels samples).told → out ≡ (Chaining.called c f frame channels samples).frame → t ≡ kept_answer non_speech
      → (◌≡◌ {A = NextChain} (record { reply = number_of e; answer = t; chain = k }) (chain_stepped k f frame channels samples).next) × (out ≡ (chain_stepped k f frame channels samples).frame)
  unfolding Chaining.told
  chain_let_be {c} e {t} {out} h ec en eo et =
      let r : number_of e ≡ inside.told.reply = ap (λ (z : Chaining.Told). z.reply) (en ∙ ap (λ (z : Chain). (Chaining.called z f frame channels samples).told) ec) in
      let d' : inside.told.reply ≡ done → ⊥ = λ (z : inside.told.reply ≡ done). number_not_done e (r ∙ z) in
      let same : out ≡ frame = eo ∙ ap (λ (z : Chain). (Chaining.called z f frame channels samples).frame) ec ∙ ap (λ (z : Chaining.Called). z.frame) (called_refused (chain_of k) f frame channels samples called_reply d') in
      rw (r, et, same, chain_not_inside h d') (refl, refl)

  -- and where what is kept is no chain.
  pub chain_turned_away : {r : ℕ} {t : KeptAnswer} → sound_chain k ≡ false → t ≡ kept_answer non_speech → r ≡ refusal (is_shape channels samples (length frame) && eqb samples (Chains.samples_of (chain_of k))) false true true
      → (◌≡◌ {A = NextChain} (record { reply = r; answer = t; chain = k }) (chain_stepped k f frame channels samples).next) × (frame ≡ (chain_stepped k f frame channels samples).frame) × (r ≡ done → ⊥)
  chain_turned_away {r} h a e =
      let u = chain_unsound h in (
        (λ i. record { reply = e i; answer = a i; chain = k }) ∙ sym (ap (λ (z : ChainStepped). z.next) u),
        sym (ap (λ (z : ChainStepped). z.frame) u),
        eqb-false r done (ap (λ (n : ℕ). eqb n done) e ∙ not_done (is_shape channels samples (length frame) && eqb samples (Chains.samples_of (chain_of k)))),
      )
