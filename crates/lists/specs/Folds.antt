-- What is gathered over the elements that were passed, one element more: for a scan whose invariant speaks of `take i xs`. Laws.
-- Assumes nothing.
use Rattle.std.specs.Prelude.{◌≡◌, List, [], ◌∷◌, ◌++◌, ℕ, ◌+◌, ◌<◌, length, get_or, take}
use Rattle.std.proofs.Common.{add-one, take-suc}

module _ {ℓ κ} {A : Type ℓ} {B : Type κ} where
  -- F gathers by an operation that may be grouped as one likes and starts at e, as all by `&&` from true, any by `||` from false, a sum by `+` from 0.
  module _
      (F : List A → B) (of : A → B) (op : B → B → B) (e : B) (empty : F [] ≡ e)
      (clause : (x : A) (xs : List A) → F (x ∷ xs) ≡ op (of x) (F xs)) (assoc : (a b c : B) → op (op a b) c ≡ op a (op b c))
      (left : (b : B) → op e b ≡ b) (right : (b : B) → op b e ≡ b)
    where
      -- what is gathered over one list and then another
      pub fold_append : (xs ys : List A) → F (xs ++ ys) ≡ op (F xs) (F ys)
      fold_append [] ys = rw (empty, left)
      fold_append (x ∷ xs) ys = rw (clause x (xs ++ ys), clause x xs, assoc, fold_append xs ys)

      -- What is gathered over the elements up to i, and then the one at i.
      pub fold_next : (xs : List A) (i : ℕ) (d : A) → i < length xs → F (take (i + 1) xs) ≡ op (F (take i xs)) (of (get_or xs i d))
      fold_next xs i d h = rw (add-one, take-suc xs i d, fold_append, clause, empty, right)

  -- F gathers from the left, with what was found so far in hand, as the largest.
  module _
      (F : B → List A → B) (step : B → A → B) (empty : (b : B) → F b [] ≡ b) (clause : (b : B) (x : A) (xs : List A) → F b (x ∷ xs) ≡ F (step b x) xs)
    where
      -- what is found in one list and then in another
      pub found_append : (b : B) (xs ys : List A) → F b (xs ++ ys) ≡ F (F b xs) ys
      found_append b [] ys = rw empty
      found_append b (x ∷ xs) ys = rw (clause b x (xs ++ ys), clause b x xs) (found_append (step b x) xs ys)

      -- What is found up to i, and then at i.
      pub found_next : (b : B) (xs : List A) (i : ℕ) (d : A) → i < length xs → F b (take (i + 1) xs) ≡ step (F b (take i xs)) (get_or xs i d)
      found_next b xs i d h = rw (add-one, take-suc xs i d, found_append, clause, empty)
