-- What a ring tells of its front is the oldest item, or that there is none. Laws.
-- Assumes nothing.
use Rattle.std.specs.Prelude.{◌≡◌, refl, true, List, [], ◌∷◌, get_or, Float, Option, Result, Ok, Err, IsOk}
use Rattle.std.proofs.Common.{ap, ◌∙◌, arith}
use Rattle.units.specs.Replies.{refusal}
use Rattle.units.specs.Laws.Handed.{number_not_done}
use Rattle.units.specs.declared.kinds.Dbfs.{Dbfs}
use Rattle.units.specs.declared.refusals.Refusal.{Refusal}
use Rattle.saturation_protector_buffer.specs.Ring.{Said, passes, items, said}
use Rattle.saturation_protector_buffer.specs.Calls.{Told, told, oldest, fronted}
use Rattle.saturation_protector_buffer.specs.declared.Ring.{Ring}
use Rattle.saturation_protector.specs.Peaks.{oldest_or}

-- A ring that passes is not refused,
pub front_given : (r : Ring) (f : Result (Option Dbfs) Refusal) → passes r ≡ true → told f ≡ fronted r → IsOk f
unfolding told fronted refusal
front_given r (Ok f) h e = refl
front_given r (Err d) h e = absurd (number_not_done d (ap (λ (t : Told). t.reply) e ∙ rw h refl))

-- and its front is the first of its items.
pub front_told : (r : Ring) (f : Option Dbfs) → passes r ≡ true → told (Ok f) ≡ fronted r → said f ≡ oldest (items r)
unfolding told fronted
front_told r f h e = ap (λ (t : Told). t.front) e ∙ rw h refl

-- Where there is no oldest, the other value stands for it.
pub none_oldest : (xs : List Float) (other : Float) → oldest xs ≡ record { number = 0; values = [] } → oldest_or xs other ≡ other
unfolding oldest oldest_or
none_oldest [] other h = refl
none_oldest (x ∷ xs) other h = absurd (omega (arith, ap (λ (s : Said). s.number) h))

-- Where there is one, it is the oldest.
pub one_oldest : (xs : List Float) (other x : Float) → oldest xs ≡ record { number = 1; values = x ∷ [] } → oldest_or xs other ≡ x
unfolding oldest oldest_or
one_oldest [] other x h = absurd (omega (arith, ap (λ (s : Said). s.number) h))
one_oldest (y ∷ ys) other x h = ap (λ (s : Said). get_or s.values 0 x) h
