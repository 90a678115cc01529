-- What the promises of the calls are worth: what is told of an answer determines it, so each leaves one outcome. Laws.
-- Assumes nothing.
use Rattle.std.specs.Prelude.{◌≡◌, ℕ, List, Float, Result, Ok, Err}
use Rattle.std.proofs.Common.{sym, ap}
use Rattle.lists.specs.Promise.{one_outcome}
use Rattle.units.specs.declared.figures.Figures.{Figures}
use Rattle.units.specs.declared.kinds.LinearS16.{LinearS16}
use Rattle.units.specs.declared.refusals.Refusal.{Refusal}
use Rattle.units.specs.declared.settings.Settings.{Settings}
use Rattle.units.specs.Laws.Handed.{number_not_done, number_one}
use Rattle.kept.specs.States.{none_limiter, none_chain}
use Rattle.kept.specs.Calls.{NewLimiter, told_limiter, LevelRead, told_level, NewChain, told_chain, NextChain, told_step, Reading, told_published, limiter_made, limiter_stepped, limiter_read, chain_made, chain_stepped, chain_gapped, chain_read}
use Rattle.kept.specs.declared.states.KeptLimiter.{KeptLimiter}
use Rattle.kept.specs.declared.states.KeptChain.{KeptChain}
use Rattle.kept.specs.declared.calls.Published.{Published}
use Rattle.kept.specs.declared.calls.Stepped.{Stepped}

-- ---- what is told of an answer, beside what stands there where it is refused, determines it
pub told_limiter_one : (k : KeptLimiter) (p q : Result KeptLimiter Refusal) → told_limiter k p ≡ told_limiter k q → p ≡ q
unfolding told_limiter
told_limiter_one k (Ok x) (Ok y) h = ap (λ (n : NewLimiter). Ok n.limiter) h
told_limiter_one k (Ok x) (Err e) h = absurd (number_not_done e (sym (ap (λ (n : NewLimiter). n.reply) h)))
told_limiter_one k (Err d) (Ok y) h = absurd (number_not_done d (ap (λ (n : NewLimiter). n.reply) h))
told_limiter_one k (Err d) (Err e) h = ap Err (number_one d e (ap (λ (n : NewLimiter). n.reply) h))

pub told_level_one : (p q : Result LinearS16 Refusal) → told_level p ≡ told_level q → p ≡ q
unfolding told_level
told_level_one (Ok x) (Ok y) h = ap (λ (n : LevelRead). Ok n.level) h
told_level_one (Ok x) (Err e) h = absurd (number_not_done e (sym (ap (λ (n : LevelRead). n.reply) h)))
told_level_one (Err d) (Ok y) h = absurd (number_not_done d (ap (λ (n : LevelRead). n.reply) h))
told_level_one (Err d) (Err e) h = ap Err (number_one d e (ap (λ (n : LevelRead). n.reply) h))

pub told_chain_one : (k : KeptChain) (p q : Result KeptChain Refusal) → told_chain k p ≡ told_chain k q → p ≡ q
unfolding told_chain
told_chain_one k (Ok x) (Ok y) h = ap (λ (n : NewChain). Ok n.chain) h
told_chain_one k (Ok x) (Err e) h = absurd (number_not_done e (sym (ap (λ (n : NewChain). n.reply) h)))
told_chain_one k (Err d) (Ok y) h = absurd (number_not_done d (ap (λ (n : NewChain). n.reply) h))
told_chain_one k (Err d) (Err e) h = ap Err (number_one d e (ap (λ (n : NewChain). n.reply) h))

pub told_step_one : (k : KeptChain) (p q : Result Stepped Refusal) → told_step k p ≡ told_step k q → p ≡ q
unfolding told_step
told_step_one k (Ok x) (Ok y) h = ap (λ (n : NextChain). Ok (record { answer = n.answer; chain = n.chain })) h
told_step_one k (Ok x) (Err e) h = absurd (number_not_done e (sym (ap (λ (n : NextChain). n.reply) h)))
told_step_one k (Err d) (Ok y) h = absurd (number_not_done d (ap (λ (n : NextChain). n.reply) h))
told_step_one k (Err d) (Err e) h = ap Err (number_one d e (ap (λ (n : NextChain). n.reply) h))

pub told_published_one : (p q : Result Published Refusal) → told_published p ≡ told_published q → p ≡ q
unfolding told_published
told_published_one (Ok x) (Ok y) h = ap (λ (n : Reading). Ok n.published) h
told_published_one (Ok x) (Err e) h = absurd (number_not_done e (sym (ap (λ (n : Reading). n.reply) h)))
told_published_one (Err d) (Ok y) h = absurd (number_not_done d (ap (λ (n : Reading). n.reply) h))
told_published_one (Err d) (Err e) h = ap Err (number_one d e (ap (λ (n : Reading). n.reply) h))

-- ---- so the promise of each call leaves one outcome
pub make_limiter_one : (samples : ℕ) (p q : Result KeptLimiter Refusal)
    → told_limiter none_limiter p ≡ limiter_made samples → told_limiter none_limiter q ≡ limiter_made samples → p ≡ q
make_limiter_one samples p q h i = told_limiter_one none_limiter p q (one_outcome (told_limiter none_limiter p) (told_limiter none_limiter q) h i)

pub limit_frame_one : (k : KeptLimiter) (frame : List Float) (channels samples : ℕ) (p q : Result KeptLimiter Refusal)
    → told_limiter k p ≡ (limiter_stepped k frame channels samples).next → told_limiter k q ≡ (limiter_stepped k frame channels samples).next → p ≡ q
limit_frame_one k frame channels samples p q h i = told_limiter_one k p q (one_outcome (told_limiter k p) (told_limiter k q) h i)

pub read_limiter_one : (k : KeptLimiter) (p q : Result LinearS16 Refusal) → told_level p ≡ limiter_read k → told_level q ≡ limiter_read k → p ≡ q
read_limiter_one k p q h i = told_level_one p q (one_outcome (told_level p) (told_level q) h i)

pub make_chain_one : (s : Settings) (t samples capacity : ℕ) (p q : Result KeptChain Refusal)
    → told_chain none_chain p ≡ chain_made s t samples capacity → told_chain none_chain q ≡ chain_made s t samples capacity → p ≡ q
make_chain_one s t samples capacity p q h i = told_chain_one none_chain p q (one_outcome (told_chain none_chain p) (told_chain none_chain q) h i)

pub take_frame_one : (k : KeptChain) (f : Figures) (frame : List Float) (channels samples : ℕ) (p q : Result Stepped Refusal)
    → told_step k p ≡ (chain_stepped k f frame channels samples).next → told_step k q ≡ (chain_stepped k f frame channels samples).next → p ≡ q
take_frame_one k f frame channels samples p q h i = told_step_one k p q (one_outcome (told_step k p) (told_step k q) h i)

pub mark_gap_one : (k : KeptChain) (p q : Result KeptChain Refusal) → told_chain k p ≡ chain_gapped k → told_chain k q ≡ chain_gapped k → p ≡ q
mark_gap_one k p q h i = told_chain_one k p q (one_outcome (told_chain k p) (told_chain k q) h i)

pub read_chain_one : (k : KeptChain) (p q : Result Published Refusal) → told_published p ≡ chain_read k → told_published q ≡ chain_read k → p ≡ q
read_chain_one k p q h i = told_published_one p q (one_outcome (told_published p) (told_published q) h i)
