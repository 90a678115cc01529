-- Levels of the linear kind: as many as numbers, and the same ones. Assumes nothing.
use Rattle.std.specs.Prelude.{◌≡◌, refl, List, [], ◌∷◌, ℕ, zero, suc, ◌<◌, Float, length, get_or}
use Rattle.std.proofs.Common.{ap, not-suc-le-zero, le_of_suc-le-suc}
use Rattle.std.proofs.lemmas.List.{length-map}
use Rattle.units.specs.declared.kinds.LinearS16.{LinearS16}
use Rattle.fixed_digital_level_estimator.specs.Envelope.{linear, plain}

-- As many levels as numbers.
pub linear_length : (xs : List Float) → length (linear xs) ≡ length xs
unfolding linear
linear_length xs = length-map xs _

-- The numbers of the levels that were made of numbers are these.
pub plain_linear : (xs : List Float) → plain (linear xs) ≡ xs
unfolding linear plain
plain_linear [] = refl
plain_linear (x ∷ xs) = ap (λ (r : List Float). x ∷ r) (plain_linear xs)

-- The number of the level at i, inside the list, is the number at i.
pub linear_at : (xs : List Float) (i : ℕ) (d : LinearS16) (f : Float) → i < length xs → (get_or (linear xs) i d).0 ≡ get_or xs i f
unfolding linear
linear_at [] i d f h = absurd (not-suc-le-zero h)
linear_at (x ∷ xs) zero d f h = refl
linear_at (x ∷ xs) (suc i) d f h = linear_at xs i d f (le_of_suc-le-suc h)
