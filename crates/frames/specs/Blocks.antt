-- A list that is changed block after block, `&mut xs[at..to]` with `to = at + n`, and then in all that is left, `&mut xs[at..]`: proved once over what is done to it.
-- F is done to elements by as many others that stand beside them; where it is the same to each, F is `alone f`, beside the empty list.
-- Laws; `Blocks` is the loop's invariant. Assumes nothing.
use Rattle.std.specs.Prelude.{◌≡◌, refl, List, [], ◌∷◌, ◌++◌, ℕ, zero, suc, ◌+◌, ◌-◌, ◌≤◌, length, take, drop}
use Rattle.std.proofs.Common.{sym, ap, ap₂, ◌∙◌, append_assoc, append-nil, arith, take-append-drop}
use Rattle.lists.specs.Folds.{fold_append}
use Rattle.frames.specs.Walk.{lent, given_back, block_length, beside_goes_on, beside_ends}

module _ {A B : Type 0} where
  -- done to some elements, and then to the rest, is done to all
  abbrev pub Splits : (List B → List A → List A) → Type 0
  Splits F = (n : ℕ) (ys : List B) (xs : List A) → F (take n ys) (take n xs) ++ F (drop n ys) (drop n xs) ≡ F ys xs

  -- What is done to each element by the one beside it, and not to those beside which none stands, splits. `one` is what is done to an element.
  pub beside_splits : (F : List B → List A → List A) (one : B → A → A)
      → ((ys : List B) → F ys [] ≡ []) → ((xs : List A) → F [] xs ≡ xs) → ((y : B) (ys : List B) (x : A) (xs : List A) → F (y ∷ ys) (x ∷ xs) ≡ one y x ∷ F ys xs)
      → Splits F
  beside_splits F one none bare clause zero ys xs = ap (λ (r : List A). r ++ F ys xs) (none [])
  beside_splits F one none bare clause (suc n) ys [] = ap₂ ◌++◌ (none (take (suc n) ys)) (none (drop (suc n) ys)) ∙ sym (none ys)
  beside_splits F one none bare clause (suc n) [] (x ∷ xs) =
      ap₂ ◌++◌ (bare (take (suc n) (x ∷ xs))) (bare (drop (suc n) (x ∷ xs))) ∙ take-append-drop (suc n) (x ∷ xs) ∙ sym (bare (x ∷ xs))
  beside_splits F one none bare clause (suc n) (y ∷ ys) (x ∷ xs) =
      ap (λ (r : List A). r ++ F (drop n ys) (drop n xs)) (clause y (take n ys) x (take n xs))
      ∙ ap (λ (r : List A). one y x ∷ r) (beside_splits F one none bare clause n ys xs)
      ∙ sym (clause y ys x xs)

  -- where the blocks stand: what is behind them is done, and what is left is as it was
  pub record Blocks (F : List B → List A → List A) (ys : List B) (before now : List A) (at : ℕ) : Type 0 where
    pub same : length now ≡ length before
    pub room : at ≤ length now
    pub done : take at now ++ F (drop at ys) (drop at now) ≡ F ys before

  module _ {F : List B → List A → List A} {ys : List B} where
    -- They begin at 0, with all left.
    pub blocks_begin : {xs : List A} → Blocks F ys xs xs 0
    blocks_begin = record { same = refl; room = omega arith; done = refl }

    module _ (split : Splits F) {before now part : List A} {at : ℕ} (b : Blocks F ys before now at) where
      -- One block of n more: F was done to it, and it kept its length.
      pub blocks_go_on : (n : ℕ) → at + n ≤ length now → part ≡ F (lent at (at + n) ys) (lent at (at + n) now) → length part ≡ length (lent at (at + n) now)
          → Blocks F ys before (given_back at (at + n) now part) (at + n)
      blocks_go_on n fits made kept =
          let long : length (given_back at (at + n) now part) ≡ length now = block_length now part at (at + n - at) (omega arith) kept in
          record { same = long ∙ b.same; room = omega arith; done = beside_goes_on F split ys now part at n fits made kept ∙ b.done }

      -- All that is left is the last block. Then the length is what it was, and F was done to all.
      pub blocks_end : part ≡ F (lent at (length ys) ys) (lent at (length now) now) → length part ≡ length (lent at (length now) now)
          → (length (given_back at (length now) now part) ≡ length before) × (given_back at (length now) now part ≡ F ys before)
      blocks_end made kept =
          (block_length now part at (length now - at) (omega arith) kept ∙ b.same, beside_ends F split ys now part at made ∙ b.done)

-- ---- where the same is done to each element
module _ {A : Type 0} where
  -- f, with nothing beside
  abbrev pub alone : (List A → List A) → List A → List A → List A
  alone f ys xs = f xs

  -- What is done to each element by itself, in order, splits. `one` is what is done to an element.
  pub each_splits : (f : List A → List A) (one : A → A) → f [] ≡ [] → ((x : A) (xs : List A) → f (x ∷ xs) ≡ one x ∷ f xs) → Splits (alone f)
  each_splits f one empty clause n ys xs =
      sym (fold_append f (λ (x : A). one x ∷ []) ◌++◌ [] empty clause append_assoc (λ (l : List A). refl) append-nil (take n xs) (drop n xs))
      ∙ ap f (take-append-drop n xs)
