-- The invariant of a loop that goes up a list whose definition is a structural recursion: what is done, then the definition on what is left.
-- F is what is to be done to the list from i on, G what is to be done from i + 1 on; where the loop carries a state they differ in it. Laws.
-- Assumes nothing.
use Rattle.std.specs.Prelude.{◌≡◌, List, [], ◌∷◌, ◌++◌, ℕ, ◌+◌, ◌<◌, ◌≤◌, length, get_or, set, take, drop}
use Rattle.std.proofs.Common.{sym, ap, append-nil, drop_of_length-le, take_all}
use Rattle.lists.specs.Stores.{next, stores, after_store}

module _ {ℓ} {A : Type ℓ} where
  -- A loop that stores: if F of a list that begins with the element at i is v and then G of the others, then after v is stored at i
  -- what is done, then G on what is left, is what it was with F. F's clause for `x ∷ xs` is the equation that is asked: `refl` where F unfolds.
  pub in_place : (F G : List A → List A) (xs : List A) (i : ℕ) (d v : A)
      → i < length xs → F (get_or xs i d ∷ drop (i + 1) xs) ≡ v ∷ G (drop (i + 1) xs)
      → take (i + 1) (set xs i v) ++ G (drop (i + 1) (set xs i v)) ≡ take i xs ++ F (drop i xs)
  in_place F G xs i d v h clause =
      rw (after_store, stores xs i v (G (drop (i + 1) xs)) h, next xs i d h) (ap (λ (r : List A). take i xs ++ r) (sym clause))

  -- It is over once i has reached the length: nothing is left.
  pub in_place_done : (F : List A → List A) (xs : List A) (i : ℕ) → length xs ≤ i → F [] ≡ [] → take i xs ++ F (drop i xs) ≡ xs
  in_place_done F xs i h empty = rw (take_all i xs h, drop_of_length-le xs h, empty, append-nil)

  -- A loop that reads: if F of a list that begins with the element at i is G of the others, then G on what is left after i is F on what was left.
  -- F carries what was found so far, as `λ ys. ok && every ys` or `λ ys. from largest ys`.
  pub scan {κ} : {B : Type κ} (F G : List A → B) (xs : List A) (i : ℕ) (d : A)
      → i < length xs → F (get_or xs i d ∷ drop (i + 1) xs) ≡ G (drop (i + 1) xs) → G (drop (i + 1) xs) ≡ F (drop i xs)
  scan F G xs i d h clause = rw (next xs i d h) (sym clause)

  -- It is over once i has reached the length: nothing is left.
  pub scan_done {κ} : {B : Type κ} (F : List A → B) (xs : List A) (i : ℕ) → length xs ≤ i → F (drop i xs) ≡ F []
  scan_done F xs i h = ap F (drop_of_length-le xs h)

-- A loop that reads one list and stores into another.
module _ {ℓ κ} {A : Type ℓ} {B : Type κ} where
  -- If F of a list that begins with the element at i is v and then G of the others, then after v is stored at i of the other list
  -- what is done, then G on what is left, is what it was with F.
  pub across : (F G : List A → List B) (xs : List A) (out : List B) (i : ℕ) (d : A) (v : B)
      → i < length xs → i < length out → F (get_or xs i d ∷ drop (i + 1) xs) ≡ v ∷ G (drop (i + 1) xs)
      → take (i + 1) (set out i v) ++ G (drop (i + 1) xs) ≡ take i out ++ F (drop i xs)
  across F G xs out i d v h k clause =
      rw (stores out i v (G (drop (i + 1) xs)) k, next xs i d h) (ap (λ (r : List B). take i out ++ r) (sym clause))

  -- It is over once i has reached both lengths: nothing is left.
  pub across_done : (F : List A → List B) (xs : List A) (out : List B) (i : ℕ)
      → length xs ≤ i → length out ≤ i → F [] ≡ [] → take i out ++ F (drop i xs) ≡ out
  across_done F xs out i h k empty = rw (take_all i out k, drop_of_length-le xs h, empty, append-nil)
