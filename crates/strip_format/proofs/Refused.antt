-- What a check that refuses says of its number. Assumes nothing.
use Rattle.std.proofs.Common.{◌≡◌, refl, Bool, true, false, cond, eqb, leb, List, length, ℕ, ◌+◌, Ok, Err}
use borrow.Author.Tests.{eqb-false}
use Rattle.units.specs.Replies.{done, refusal}
use Rattle.units.specs.Handed.{number_of, refusal_of, handed}
use Rattle.units.specs.Figures as Figure
use Rattle.units.specs.declared.figures.Figures.{Figures}
use Rattle.units.specs.declared.refusals.Refusal.{Refusal}
use Rattle.strip_format.specs.Fields.{size, number_at}
use Rattle.strip_format.specs.Format.{record_fields, record_length}
use Rattle.strip_format.specs.Calls.{record_refusal}
use Rattle.strip_format.specs.Steps.{record_place}

-- it is not that of done, and the refusal is the one of that number
pub refused_is : (n : ℕ) (e : Refusal) → Err e ≡ handed n (tt {0}) → (n ≡ done → ⊥) × (e ≡ refusal_of n)
unfolding handed
refused_is n e h = go (eqb n done) refl h
  where
    go : (b : Bool) → eqb n done ≡ b → Err e ≡ cond b (Ok (tt {0})) (Err (refusal_of n)) → (n ≡ done → ⊥) × (e ≡ refusal_of n)
    go true t k = absurd (cc k)
    go false t k = (eqb-false n done t, cc k)

-- The refusals of a record have the numbers that stand in the replies.
pub record_place_number : (strip : List ℕ) (at : ℕ) → (record_place strip at ≡ done → ⊥) → number_of (refusal_of (record_place strip at)) ≡ record_place strip at
unfolding record_place refusal_of number_of
record_place_number strip at = go (leb (at + 2) (length strip)) (eqb (number_at strip at 2) record_length) (leb (at + size record_fields) (length strip))
  where
    go : (a b c : Bool) → (let n : ℕ = cond a (cond b (cond c 0 5) 6) 5 in (n ≡ done → ⊥) → number_of (refusal_of n) ≡ n)
    go true true true n = absurd (n refl)
    go true true false n = refl
    go true false c n = refl
    go false b c n = refl

pub record_refusal_number : (f : Figures) → (record_refusal f ≡ done → ⊥) → number_of (refusal_of (record_refusal f)) ≡ record_refusal f
unfolding record_refusal refusal refusal_of number_of
record_refusal_number f = go (Figure.accepted f)
  where
    go : (a : Bool) → (refusal true true a true ≡ done → ⊥) → number_of (refusal_of (refusal true true a true)) ≡ refusal true true a true
    go true n = absurd (n refl)
    go false n = refl
