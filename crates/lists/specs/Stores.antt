-- What a loop that goes up does to a list at one place, i: it reads there, and it stores there. `i + 1` is the code's. Laws.
-- Assumes nothing.
use Rattle.std.specs.Prelude.{◌≡◌, List, ◌∷◌, ◌++◌, ℕ, suc, ◌+◌, ◌<◌, length, get_or, set, take, drop}
use Rattle.std.proofs.Common.{le_refl, add-one, drop-cons, take-suc, take-suc-set, drop-set-lt}
use Rattle.std.proofs.Math.Seq.{append_snoc}

module _ {ℓ} {A : Type ℓ} where
  -- What is left begins with the element at i.
  pub next : (xs : List A) (i : ℕ) (d : A) → i < length xs → drop i xs ≡ get_or xs i d ∷ drop (i + 1) xs
  next xs i d h = rw (add-one, drop-cons xs i d)

  -- What was passed ends with the element at i, once that is passed too.
  pub passed : (xs : List A) (i : ℕ) (d : A) (ys : List A) → i < length xs → take (i + 1) xs ++ ys ≡ take i xs ++ (get_or xs i d ∷ ys)
  passed xs i d ys h = rw (add-one, take-suc xs i d) (append_snoc (take i xs) (get_or xs i d) ys)

  -- A store at i moves one element from the right to the left.
  pub stores : (xs : List A) (i : ℕ) (v : A) (ys : List A) → i < length xs → take (i + 1) (set xs i v) ++ ys ≡ take i xs ++ (v ∷ ys)
  stores xs i v ys h = rw (add-one, take-suc-set xs i v) (append_snoc (take i xs) v ys)

  -- A store at i changes nothing after i.
  pub after_store : (xs : List A) (i : ℕ) (v : A) → drop (i + 1) (set xs i v) ≡ drop (i + 1) xs
  after_store xs i v = rw add-one (drop-set-lt (suc i) xs i v (le_refl (suc i)))
