-- Two rings are equal exactly when their items are equal as floats. Laws; `Alike` says it of each index.
-- Assumes nothing.
use Rattle.std.specs.Prelude.{◌≡◌, refl, Bool, true, false, List, [], ◌∷◌, ◌↔◌, ℕ, zero, suc, ◌<◌, T, length, get_or, Float}
use Rattle.std.proofs.Common.{ap, not-suc-le-zero, le_of_suc-le-suc, arith}
use Rattle.std.specs.Float.{nan}
use Rattle.std.specs.Float.Ieee.{eq}
use Rattle.std.specs.Float.Ieee.Fits.{and_i}
use Rattle.lists.specs.Tests.{each_passed}
use Rattle.units.specs.Replies.{refusal, done}
use Rattle.saturation_protector_buffer.specs.Rings.{same_items}
use Rattle.saturation_protector_buffer.specs.Ring.{passes, items}
use Rattle.saturation_protector_buffer.specs.Calls.{compared}
use Rattle.saturation_protector_buffer.specs.declared.Ring.{Ring}

-- as many, and at each index equal as floats
pub record Alike (xs ys : List Float) : Type 0 where
  pub long : length xs ≡ length ys
  pub equal : (i : ℕ) → i < length xs → T (eq (get_or xs i nan) (get_or ys i nan))

longer : (x y : Float) (xs ys : List Float) → T (eq x y) → Alike xs ys → Alike (x ∷ xs) (y ∷ ys)
longer x y xs ys t a = record { long = ap suc a.long; equal = at }
  where
    at : (i : ℕ) → i < suc (length xs) → T (eq (get_or (x ∷ xs) i nan) (get_or (y ∷ ys) i nan))
    at zero h = t
    at (suc i) h = a.equal i (le_of_suc-le-suc h)

forth : (xs ys : List Float) → T (same_items xs ys) → Alike xs ys
unfolding same_items
forth [] [] t = record { long = refl; equal = λ i h. absurd (not-suc-le-zero h) }
forth [] (y ∷ ys) t = absurd t
forth (x ∷ xs) [] t = absurd t
forth (x ∷ xs) (y ∷ ys) t =
    let p = each_passed (eq x y ∷ same_items xs ys ∷ []) t in
    longer x y xs ys (p 0) (forth xs ys (p 1))

back : (xs ys : List Float) → Alike xs ys → T (same_items xs ys)
unfolding same_items
back [] [] a = tt
back [] (y ∷ ys) a = absurd (omega (arith, a.long))
back (x ∷ xs) [] a = absurd (omega (arith, a.long))
back (x ∷ xs) (y ∷ ys) a =
    and_i (eq x y) (same_items xs ys) (a.equal 0 (omega arith))
    (back xs ys (record { long = omega (arith, a.long); equal = λ i h. a.equal (suc i) (omega arith) }))

-- The items are the same exactly where there are as many and each equals the other's at its index.
pub same_items_lem : (xs ys : List Float) → T (same_items xs ys) ↔ Alike xs ys
same_items_lem xs ys = (forth xs ys, back xs ys)

no : (b : Bool) → (T b → ⊥) → b ≡ false
no true h = absurd (h tt)
no false h = refl

-- Where there are not as many, they are not the same.
pub not_as_many : (xs ys : List Float) → (length xs ≡ length ys → ⊥) → same_items xs ys ≡ false
not_as_many xs ys h = no (same_items xs ys) (λ t. h (forth xs ys t).long)

-- Of two rings that pass, each of its own capacity, the comparison is done, and says yes exactly where their items are alike.
pub compared_alike : (r s : Ring) → passes r ≡ true → passes s ≡ true
    → ((compared r s).reply ≡ done) × (T (compared r s).equal ↔ Alike (items r) (items s))
unfolding compared refusal
compared_alike r s p q = rw (p, q) (refl, same_items_lem (items r) (items s))
