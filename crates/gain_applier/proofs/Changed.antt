-- A list whose elements are changed one after another, and then block after block: each that is passed is what it was changed to, and what is left is as it was. Assumes nothing.
use Rattle.std.specs.Prelude.{◌≡◌, refl, List, [], ◌∷◌, ◌++◌, ℕ, ◌+◌, ◌-◌, ◌≤◌, ◌<◌, length, get_or, set, take, drop}
use Rattle.std.proofs.Common.{sym, ap, ◌∙◌, subst, append-nil, arith, length-set, take-append-drop, take_all, drop-drop}
use Rattle.std.proofs.Math.Seq.{take-add}
use Rattle.std.specs.List.{AllZip}
use Rattle.std.proofs.lemmas.Slice.Zip.{AllZip-long}
use Rattle.std.proofs.lemmas.List.Elements.{AllZip-push}
use Rattle.lists.specs.Stores.{next, passed, stores, after_store}
use Rattle.frames.specs.Walk.{lent, given_back, block_length, block_cut, block_last, block_ends}

module _ {A : Type 0} (R : A → A → Type 0) where
  -- where the change stands
  pub record Changed (before now : List A) (at : ℕ) : Type 0 where
    pub same : length now ≡ length before
    pub room : at ≤ length now
    pub done : AllZip R (take at before) (take at now)
    pub left : drop at now ≡ drop at before

  joined : (xs ys vs ws : List A) → AllZip R xs vs → AllZip R ys ws → AllZip R (xs ++ ys) (vs ++ ws)
  joined [] ys [] ws p q = q
  joined [] ys (v ∷ vs) ws p q = absurd p
  joined (x ∷ xs) ys [] ws p q = absurd p
  joined (x ∷ xs) ys (v ∷ vs) ws p q = (p.0, joined xs ys vs ws p.1 q)

  first : (x y : A) (xs ys : List A) → x ∷ xs ≡ y ∷ ys → x ≡ y
  first x y xs ys h = cc

  -- It begins with all left.
  pub changed_begins : (xs : List A) → Changed xs xs 0
  changed_begins xs = record { same = refl; room = omega arith; done = tt; left = refl }

  module _ (before now : List A) (at : ℕ) (c : Changed before now at) where
    -- one element more
    pub changed_one : (d v : A) → at < length now → R (get_or now at d) v → Changed before (set now at v) (at + 1)
    changed_one d v inside r =
        let within : at < length before = omega (arith, c.same) in
        let here : get_or before at d ≡ get_or now at d =
        first (get_or before at d) (get_or now at d) (drop (at + 1) before) (drop (at + 1) now) (sym (next before at d within) ∙ sym c.left ∙ next now at d inside) in
        let was : take (at + 1) before ≡ take at before ++ (get_or now at d ∷ []) =
        sym (append-nil _) ∙ passed before at d [] within ∙ ap (λ (x : A). take at before ++ (x ∷ [])) here in
        let is : take (at + 1) (set now at v) ≡ take at now ++ (v ∷ []) = sym (append-nil _) ∙ stores now at v [] inside in
        record {
          same = length-set now at v ∙ c.same;
          room = simp length-set (omega arith);
          done = rw (was, is) (AllZip-push R (take at before) (take at now) (get_or now at d) v c.done r);
          left = after_store now at v ∙ sym (drop-drop 1 at now) ∙ ap (drop 1) c.left ∙ drop-drop 1 at before;
        }

    -- one block of n more
    pub changed_block : (n : ℕ) (part : List A) → at + n ≤ length now → AllZip R (lent at (at + n) now) part → Changed before (given_back at (at + n) now part) (at + n)
    changed_block n part fits r =
        let size : at + n - at ≡ n = omega arith in
        let kept : length part ≡ length (lent at (at + n) now) = AllZip-long R (lent at (at + n) now) part r in
        let long : length (given_back at (at + n) now part) ≡ length now = block_length now part at (at + n - at) (omega arith) kept in
        let cut = block_cut now part at n fits kept in
        record {
          same = long ∙ c.same;
          room = omega arith;
          done = rw (take-add at n before, cut.0, ← c.left) (joined (take at before) (take n (drop at now)) (take at now) part c.done (rw size at r));
          left = cut.1 ∙ ap (drop n) c.left ∙ drop-drop n at before;
        }

    -- All that is left is the last block.
    pub changed_last : (part : List A) → AllZip R (lent at (length now) now) part
        → (length (given_back at (length now) now part) ≡ length before) × AllZip R before (given_back at (length now) now part)
    changed_last part r =
        let kept : length part ≡ length (lent at (length now) now) = AllZip-long R (lent at (length now) now) part r in (
          block_length now part at (length now - at) (omega (arith, c.room)) kept ∙ c.same,
          rw block_ends
              (subst (λ (xs : List A). AllZip R xs (take at now ++ part)) (ap (λ (xs : List A). take at before ++ xs) c.left ∙ take-append-drop at before)
              (joined (take at before) (drop at now) (take at now) part c.done (rw block_last at r))),
        )

    -- Nothing is left once at has reached the length.
    pub changed_ends : length now ≤ at → AllZip R before now
    changed_ends h =
        subst (λ (xs : List A). AllZip R xs now) (take_all at before (omega (arith, c.same)))
        (subst (λ (xs : List A). AllZip R (take at before) xs) (take_all at now h) c.done)
