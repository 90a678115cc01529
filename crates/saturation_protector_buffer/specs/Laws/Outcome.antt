-- What the promise of `front` is worth: what is told of an answer determines it. (The others are equations of the answer itself: `one_outcome` of `lists`.) Laws.
-- Assumes nothing.
use Rattle.std.specs.Prelude.{◌≡◌, refl, get_or, Float, Option, None, Some, Result, Ok, Err}
use Rattle.std.proofs.Common.{sym, ap, arith}
use Rattle.lists.specs.Promise.{one_outcome}
use Rattle.units.specs.declared.kinds.Dbfs.{Dbfs}
use Rattle.units.specs.declared.refusals.Refusal.{Refusal}
use Rattle.units.specs.Laws.Handed.{number_not_done, number_one}
use Rattle.saturation_protector_buffer.specs.Ring.{Said, said}
use Rattle.saturation_protector_buffer.specs.Calls.{Told, told, fronted}
use Rattle.saturation_protector_buffer.specs.declared.Ring.{Ring}

-- The paper's number and values of a case determine the case.
pub said_one : (f g : Option Dbfs) → said f ≡ said g → f ≡ g
unfolding said
said_one None None h = refl
said_one None (Some y) h = absurd (omega (arith, ap (λ (s : Said). s.number) h))
said_one (Some x) None h = absurd (omega (arith, ap (λ (s : Said). s.number) h))
said_one (Some x) (Some y) h =
    ap (λ (z : Float). Some (record { 0 = z })) (ap (λ (s : Said). get_or s.values 0 x.0) h)

-- What is told of an answer determines it.
pub told_one : (f g : Result (Option Dbfs) Refusal) → told f ≡ told g → f ≡ g
unfolding told
told_one (Ok f) (Ok g) h = ap Ok (said_one f g (ap (λ (t : Told). t.front) h))
told_one (Ok f) (Err e) h = absurd (number_not_done e (sym (ap (λ (t : Told). t.reply) h)))
told_one (Err d) (Ok g) h = absurd (number_not_done d (ap (λ (t : Told). t.reply) h))
told_one (Err d) (Err e) h = ap Err (number_one d e (ap (λ (t : Told). t.reply) h))

-- So the promise of `front` leaves one outcome.
pub front_one : (r : Ring) (f g : Result (Option Dbfs) Refusal) → told f ≡ fronted r → told g ≡ fronted r → f ≡ g
front_one r f g p q = told_one f g (one_outcome (told f) (told g) p q)
