-- What holds of each element of a list: its definition, and how it passes to parts, to a place, to joined lists and to what follows from it.
use mathlib.Core.List.{List, [], ◌∷◌, ◌++◌}
use Prim.Native.Nat.{ℕ, zero, suc, ◌<◌}
use Rattle.std.proofs.Common.{not-suc-le-zero, le_of_suc-le-suc}
use Rattle.std.specs.Prelude.{length, get_or, take, drop}

-- p holds of each element of a list
unfoldable pub Each : {A : Type 0} → (A → Type 0) → List A → Type 0
Each p [] = Unit {0}
Each p (x ∷ xs) = p x × Each p xs

module _ {A : Type 0} (p : A → Type 0) where
  -- What holds of each element holds of each of the first n.
  pub each_take : (n : ℕ) (xs : List A) → Each p xs → Each p (take n xs)
  unfolding Each
  each_take zero xs h = tt
  each_take (suc n) [] h = tt
  each_take (suc n) (x ∷ xs) h = (h.0, each_take n xs h.1)

  -- What holds of each element holds of each after the first n.
  pub each_drop : (n : ℕ) (xs : List A) → Each p xs → Each p (drop n xs)
  unfolding Each
  each_drop zero xs h = h
  each_drop (suc n) [] h = tt
  each_drop (suc n) (x ∷ xs) h = each_drop n xs h.1

  -- What holds of each element holds of that at i.
  pub each_at : (xs : List A) (d : A) (i : ℕ) → i < length xs → Each p xs → p (get_or xs i d)
  unfolding Each
  each_at [] d i l h = absurd (not-suc-le-zero l)
  each_at (x ∷ xs) d zero l h = h.0
  each_at (x ∷ xs) d (suc i) l h = each_at xs d i (le_of_suc-le-suc l) h.1

  -- What holds of each element of two lists holds of each of both.
  pub each_append : (xs ys : List A) → Each p xs → Each p ys → Each p (xs ++ ys)
  unfolding Each
  each_append [] ys h k = k
  each_append (x ∷ xs) ys h k = (h.0, each_append xs ys h.1 k)

-- What follows of an element follows of each.
pub each_so : {A : Type 0} (p q : A → Type 0) → ((x : A) → p x → q x) → (xs : List A) → Each p xs → Each q xs
unfolding Each
each_so p q f [] h = tt
each_so p q f (x ∷ xs) h = (f x h.0, each_so p q f xs h.1)
