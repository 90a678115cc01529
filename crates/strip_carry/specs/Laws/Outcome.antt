-- What the promises that speak through `Seen` are worth: each leaves one outcome. Laws.
-- Assumes nothing.
use Rattle.std.specs.Prelude.{◌≡◌, refl, ℕ, ◌≤◌, Bool, List, length, Option, None, Some, Result, Ok, Err}
use Rattle.std.proofs.Common.{sym, ◌∙◌, ap, arith}
use Rattle.lists.specs.Promise.{one_outcome}
use Rattle.units.specs.Replies.{done}
use Rattle.units.specs.declared.refusals.Refusal.{Refusal}
use Rattle.units.specs.Laws.Handed.{number_not_done, number_one}
use Rattle.strip_format.specs.declared.Version.{Version}
use Rattle.strip_format.specs.declared.Version.TheVariants.{One, Two}
use Rattle.strip_carry.specs.Carry.{Carried, carried, carried_bytes}
use Rattle.strip_carry.specs.Run as Running
use Rattle.strip_carry.specs.Run.{taken_of, told_of, end_of}
use Rattle.strip_carry.specs.Seen.{taken_seen, carried_seen, told_seen, end_seen}
use Rattle.strip_carry.specs.Laws.Sizes.{carried_length}
use Rattle.strip_carry.specs.Laws.Theorems.{length_put}
use Rattle.strip_carry.specs.declared.Refused.{Refused}
use Rattle.strip_carry.specs.declared.Run.{Run}
use Rattle.strip_carry.specs.declared.Taken.{Taken}
use Rattle.strip_carry.specs.declared.End.{End}
use Rattle.strip_carry.specs.declared.End.TheVariants as Ends

-- ---- a block
-- What is seen of an answer, beside the run that came in, determines it.
pub taken_seen_one : (r : Run) (p q : Result Taken Refusal) → taken_seen r p ≡ taken_seen r q → p ≡ q
taken_seen_one r (Ok t) (Ok u) h = ap (λ (s : Running.Taken). Ok (record { run = s.run; length = s.length })) h
taken_seen_one r (Ok t) (Err e) h = absurd (number_not_done e (sym (ap (λ (s : Running.Taken). s.reply) h)))
taken_seen_one r (Err d) (Ok u) h = absurd (number_not_done d (ap (λ (s : Running.Taken). s.reply) h))
taken_seen_one r (Err d) (Err e) h = ap Err (number_one d e (ap (λ (s : Running.Taken). s.reply) h))

-- So the promise of `take` leaves one outcome.
pub take_one : (r : Run) (block : List ℕ) (space : ℕ) (p q : Result Taken Refusal)
    → taken_seen r p ≡ taken_of r block space → taken_seen r q ≡ taken_of r block space → p ≡ q
take_one r block space p q h k = taken_seen_one r p q (one_outcome (taken_seen r p) (taken_seen r q) h k)

-- ---- a whole strip
-- A strip that is carried has bytes: those of a head, at least.
some_bytes : (v : Version) (strip : List ℕ) → 26 ≤ length (carried_bytes v strip)
some_bytes One strip = omega (arith, carried_length One strip)
some_bytes Two strip = omega (arith, carried_length Two strip)

-- So nothing that is seen as a refusal with 0 is promised of a strip.
no_refusal : (v : Version) (strip out : List ℕ) (r : Refused) → carried_seen (Err r) ≡ carried v strip out → r.reply ≡ done → ⊥
no_refusal v strip out r h d =
    let put = length_put v strip out (sym (ap (λ (c : Carried). c.reply) h) ∙ d) in
    omega (arith, ap (λ (c : Carried). c.length) h, put, some_bytes v strip)

-- The promise of `to_two` and of `to_one` leaves one outcome. What is seen would not by itself: an answer of no bytes and a refusal with 0 look alike, and
-- neither is promised of any strip.
pub carried_one : (v : Version) (strip out : List ℕ) (p q : Result ℕ Refused)
    → carried_seen p ≡ carried v strip out → carried_seen q ≡ carried v strip out → p ≡ q
carried_one v strip out (Ok m) (Ok n) h k = ap (λ (c : Carried). Ok c.length) (h ∙ sym k)
carried_one v strip out (Ok m) (Err s) h k = absurd (no_refusal v strip out s k (ap (λ (c : Carried). c.reply) (k ∙ sym h)))
carried_one v strip out (Err r) (Ok n) h k = absurd (no_refusal v strip out r h (ap (λ (c : Carried). c.reply) (h ∙ sym k)))
carried_one v strip out (Err r) (Err s) h k = ap (λ (c : Carried). Err (record { reply = c.reply; number = c.number })) (h ∙ sym k)

-- ---- what is told
-- What is seen of an answer determines it.
pub told_seen_one : (p q : Option (Result ℕ Refused)) → told_seen p ≡ told_seen q → p ≡ q
told_seen_one p q h = sym (told_back p) ∙ ap back h ∙ told_back q
  where
    back : Running.Told → Option (Result ℕ Refused)
    back Running.Told.Nothing = None
    back (Running.Size n) = Some (Ok n)
    back (Running.Refused reply number) = Some (Err (record { reply = reply; number = number }))

    told_back : (p : Option (Result ℕ Refused)) → back (told_seen p) ≡ p
    told_back None = refl
    told_back (Some (Ok n)) = refl
    told_back (Some (Err r)) = refl

pub end_seen_one : (p q : Option End) → end_seen p ≡ end_seen q → p ≡ q
end_seen_one p q h = sym (end_back p) ∙ ap back h ∙ end_back q
  where
    back : Running.End → Option End
    back Running.End.Nothing = None
    back Running.Changed = Some Ends.Changed
    back Running.Well = Some Ends.Well

    end_back : (p : Option End) → back (end_seen p) ≡ p
    end_back None = refl
    end_back (Some Ends.Changed) = refl
    end_back (Some Ends.Well) = refl

-- So the promises of `told_of` and `end_of` leave one outcome.
pub told_of_one : (r : Run) (read : Bool) (p q : Option (Result ℕ Refused)) → told_seen p ≡ told_of r read → told_seen q ≡ told_of r read → p ≡ q
told_of_one r read p q h k = told_seen_one p q (one_outcome (told_seen p) (told_seen q) h k)

pub end_of_one : (first second : Run) (read written closed : Bool) (p q : Option End)
    → end_seen p ≡ end_of first second read written closed → end_seen q ≡ end_of first second read written closed → p ≡ q
end_of_one first second read written closed p q h k = end_seen_one p q (one_outcome (end_seen p) (end_seen q) h k)
