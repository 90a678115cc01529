-- A push into a ring over any size n, in a storage of at least n slots: it keeps the last n items. Laws; `Sound` is what every ring from a new one on keeps.
-- Assumes nothing.
use Rattle.std.specs.Prelude.{◌≡◌, List, [], ◌∷◌, ◌++◌, ℕ, suc, ◌+◌, ◌-◌, ◌≤◌, ◌<◌, length, get_or, set, take, drop, Float}
use Rattle.std.proofs.Common.{sym, ap, ap₂, ◌∙◌, append-nil, append_assoc, ⊎_elim, eq-or-lt_of_le, add-one, arith, length-append, length-drop, length-set, drop_of_length-le, length-take-le, take_all, take-take, take-suc-set, drop-drop, lt-ltb, le-ltb, eq-eqb, ne_eqb}
use Rattle.std.proofs.Math.Seq.{take-set-lt}
use Rattle.std.proofs.lemmas.List.{drop-append-le}
use Rattle.std.specs.Float.{nan}
use Rattle.lists.specs.Stores.{next, after_store}
use Rattle.saturation_protector_buffer.specs.Rings.{slots, after, more, start, items, last_of}
use Rattle.saturation_protector_buffer.specs.Laws.Places.{start_full, start_early}

-- a storage of at least n, place and size in their ranges, and until the ring is full the next one goes after those that are there
pub record Sound (n : ℕ) (stored : List Float) (place size : ℕ) : Type 0 where
  pub long : n ≤ length stored
  pub inside : place < n
  pub most : size ≤ n
  pub early : size < n → place ≡ size

-- ---- the last n of a list
-- All of a list that is not longer.
pub last_short : (n : ℕ) (xs : List Float) → length xs ≤ n → last_of n xs ≡ xs
unfolding last_of
last_short n xs h =
    let none : length xs - n ≡ 0 = omega arith in
    rw none

-- All but the first of a list that is longer by one.
pub last_next : (n : ℕ) (x : Float) (xs : List Float) → length xs ≡ n → last_of n (x ∷ xs) ≡ xs
unfolding last_of
last_next n x xs h =
    let one : suc (length xs) - n ≡ 1 = omega arith in
    ap (λ (k : ℕ). drop k (x ∷ xs)) one

-- What is dropped on the way is dropped at the end too.
pub last_last : (n : ℕ) (xs ys : List Float) → last_of n (last_of n xs ++ ys) ≡ last_of n (xs ++ ys)
unfolding last_of
last_last n xs ys =
    let k = length xs - n in
    let m = length (drop k (xs ++ ys)) - n in
    let all : k + m ≡ length (xs ++ ys) - n = omega (arith, length-drop k (xs ++ ys), length-append xs ys) in
    ap (λ (zs : List Float). drop (length zs - n) zs) (sym (drop-append-le k xs ys (omega arith)))
    ∙ drop-drop m k (xs ++ ys)
    ∙ ap (λ (j : ℕ). drop j (xs ++ ys)) all

-- ---- the place and the size of the next ring
-- The place after the last one is 0.
pub after_last : (n place : ℕ) → place + 1 ≡ n → after n place ≡ 0
unfolding after
after_last n place h = rw (eq-eqb (place + 1) n h)

-- The place after any other is the next.
pub after_other : (n place : ℕ) → place + 1 < n → after n place ≡ place + 1
unfolding after
after_other n place h = rw (ne_eqb (place + 1) n (λ e. omega arith))

-- A full ring stays full.
pub more_full : (n size : ℕ) → size ≡ n → more n size ≡ n
unfolding more
more_full n size e = rw (le-ltb size n (omega arith)) e

-- Any other has one more.
pub more_early : (n size : ℕ) → size < n → more n size ≡ size + 1
unfolding more
more_early n size h = rw (lt-ltb size n h)

-- The place after lies inside the ring.
pub after_inside : (n place : ℕ) → place < n → after n place < n
after_inside n place h =
    let room : place + 1 ≤ n = omega arith in
    ⊎_elim (λ e. rw (after_last n place e) (omega arith)) (λ less. rw (after_other n place less) less) (eq-or-lt_of_le room)

-- There are never more than n.
pub more_most : (n size : ℕ) → size ≤ n → more n size ≤ n
more_most n size h =
    ⊎_elim (λ e. rw (more_full n size e) (omega arith)) (λ less. rw (more_early n size less) (omega arith)) (eq-or-lt_of_le h)

-- ---- the items
-- the items of a ring that starts at 0
items_from_0 : (n : ℕ) (stored : List Float) (place size : ℕ) → start n place size ≡ 0 → size ≤ n → items n stored place size ≡ take size stored
unfolding items
items_from_0 n stored place size e h = rw (e, append-nil) (take-take size n stored h)

-- the items of a full ring: all of its slots, from the place on
items_full : (n : ℕ) (stored : List Float) (place size : ℕ) → size ≡ n → n ≤ length stored → place ≤ n
    → items n stored place size ≡ drop place (slots n stored) ++ take place (slots n stored)
unfolding items
items_full n stored place size e long h =
    let whole = length-take-le n stored long in
    rw (start_full n place size e)
    (take_all size (drop place (slots n stored) ++ take place (slots n stored))
    (omega
    (arith, length-append (drop place (slots n stored)) (take place (slots n stored)), length-drop place (slots n stored), length-take-le place (slots n stored) (omega arith))))

module _ (n : ℕ) (stored : List Float) (place size : ℕ) (v : Float) (s : Sound n stored place size) where
  -- where the next ring starts while this one is not full
  starts : size < n → start n (after n place) (more n size) ≡ 0
  starts h =
      let here : place ≡ size = s.early h in
      let room : size + 1 ≤ n = omega arith in
      rw (more_early n size h)
      (⊎_elim
      (λ e. rw (after_last n place (omega arith)) (start_full n 0 (size + 1) e))
      (λ less. start_early n (after n place) (size + 1) less)
      (eq-or-lt_of_le room))

  early_push : size < n → items n (set stored place v) (after n place) (more n size) ≡ last_of n (items n stored place size ++ (v ∷ []))
  early_push h =
      let here : place ≡ size = s.early h in
      let before : items n stored place size ≡ take size stored = items_from_0 n stored place size (start_early n place size h) s.most in
      let size-now = length-append (take size stored) (v ∷ []) in
      items_from_0 n (set stored place v) (after n place) (more n size) (starts h) (more_most n size s.most)
      ∙ ap₂ (λ (j k : ℕ). take j (set stored k v)) (more_early n size h ∙ add-one size) here
      ∙ take-suc-set stored size v (omega (arith, s.long))
      ∙ sym (last_short n (take size stored ++ (v ∷ [])) (omega (arith, size-now, length-take-le size stored (omega (arith, s.long)))))
      ∙ ap (λ (xs : List Float). last_of n (xs ++ (v ∷ []))) (sym before)

  -- the slots are those before, with the new one at the place
  stored_there : slots n (set stored place v) ≡ set (slots n stored) place v
  stored_there = take-set-lt n stored place v s.inside

  -- there are n of them
  whole : length (slots n stored) ≡ n
  whole = length-take-le n stored s.long

  -- once round: to start after the last slot is to start at the first
  round_again : drop (after n place) (set (slots n stored) place v) ++ take (after n place) (set (slots n stored) place v)
      ≡ drop (place + 1) (set (slots n stored) place v) ++ take (place + 1) (set (slots n stored) place v)
  round_again =
      let now = set (slots n stored) place v in
      let long : length now ≡ n = length-set (slots n stored) place v ∙ whole in
      let room : place + 1 ≤ n = omega (arith, s.inside) in
      ⊎_elim
      (λ e. rw (after_last n place e, append-nil, drop_of_length-le now {i = place + 1} (omega arith), take_all (place + 1) now (omega arith)))
      (λ less. rw (after_other n place less))
      (eq-or-lt_of_le room)

  full_push : size ≡ n → items n (set stored place v) (after n place) (more n size) ≡ last_of n (items n stored place size ++ (v ∷ []))
  full_push e =
      let old = slots n stored in
      let now = set old place v in
      let ahead = drop (place + 1) old in
      let behind = take place old in
      let room : place < length old = omega (arith, s.inside, whole) in
      let before : items n stored place size ≡ get_or old place nan ∷ (ahead ++ behind) =
      items_full n stored place size e s.long (omega (arith, s.inside))
      ∙ ap (λ (xs : List Float). xs ++ behind) (next old place nan room) in
      let long : length (ahead ++ behind ++ (v ∷ [])) ≡ n =
      omega (arith, length-append (ahead ++ behind) (v ∷ []), length-append ahead behind, length-drop (place + 1) old, length-take-le place old (omega arith), whole) in
      items_full n (set stored place v) (after n place) (more n size) (more_full n size e) (omega (arith, length-set stored place v, s.long))
      (omega (arith, after_inside n place s.inside))
      ∙ ap (λ (xs : List Float). drop (after n place) xs ++ take (after n place) xs) stored_there
      ∙ round_again
      ∙ ap₂ (λ (xs ys : List Float). xs ++ ys) (after_store old place v) (ap (λ (k : ℕ). take k now) (add-one place) ∙ take-suc-set old place v room)
      ∙ sym (append_assoc ahead behind (v ∷ []))
      ∙ sym (last_next n (get_or old place nan) (ahead ++ behind ++ (v ∷ [])) long)
      ∙ ap (λ (xs : List Float). last_of n (xs ++ (v ∷ []))) (sym before)

  -- A push: the items are the last n of those before and the new one.
  pub push_items : items n (set stored place v) (after n place) (more n size) ≡ last_of n (items n stored place size ++ (v ∷ []))
  push_items = ⊎_elim full_push early_push (eq-or-lt_of_le s.most)

  -- And the ring is sound again.
  pub push_sound : Sound n (set stored place v) (after n place) (more n size)
  push_sound =
      record {
        long = omega (arith, length-set stored place v, s.long);
        inside = after_inside n place s.inside;
        most = more_most n size s.most;
        early = λ h. ⊎_elim (full_case h) (early_case h) (eq-or-lt_of_le s.most);
      }
    where
      full_case : more n size < n → size ≡ n → after n place ≡ more n size
      full_case h e =
          let full : more n size ≡ n = more_full n size e in
          absurd (omega arith)

      early_case : more n size < n → size < n → after n place ≡ more n size
      early_case h less =
          let one : more n size ≡ size + 1 = more_early n size less in
          let here : place ≡ size = s.early less in
          after_other n place (omega arith) ∙ ap (λ (k : ℕ). k + 1) here ∙ sym one
