-- What the promise of `take` is worth: what is told of an answer determines it. Laws.
-- Assumes nothing.
use Rattle.std.specs.Prelude.{◌≡◌, ℕ, List, Result, Ok, Err}
use Rattle.std.proofs.Common.{sym, ap}
use Rattle.lists.specs.Promise.{one_outcome}
use Rattle.units.specs.declared.refusals.Refusal.{Refusal}
use Rattle.units.specs.Laws.Handed.{number_not_done, number_one}
use Rattle.strip_run.specs.Run.{Taken, taken_of, taken_told}
use Rattle.strip_run.specs.declared.Run.{Run}
use Rattle.strip_run.specs.declared.Taken.{Taken as TakenOn}

-- What is told of an answer, beside the run that came in, determines it.
pub taken_told_one : (r : Run) (p q : Result TakenOn Refusal) → taken_told r p ≡ taken_told r q → p ≡ q
unfolding taken_told
taken_told_one r (Ok t) (Ok u) h = ap (λ (s : Taken). Ok (record { run = s.run; length = s.length })) h
taken_told_one r (Ok t) (Err e) h = absurd (number_not_done e (sym (ap (λ (s : Taken). s.reply) h)))
taken_told_one r (Err d) (Ok u) h = absurd (number_not_done d (ap (λ (s : Taken). s.reply) h))
taken_told_one r (Err d) (Err e) h = ap Err (number_one d e (ap (λ (s : Taken). s.reply) h))

-- So the promise of `take` leaves one outcome.
pub take_one : (r : Run) (block : List ℕ) (space : ℕ) (p q : Result TakenOn Refusal)
    → taken_told r p ≡ taken_of r block space → taken_told r q ≡ taken_of r block space → p ≡ q
take_one r block space p q h k = taken_told_one r p q (one_outcome (taken_told r p) (taken_told r q) h k)
