-- The walk over a frame that lends each channel's part, `&mut frame[start..end]` with `end = start + samples`, to be changed where it stands:
-- proved once over what is done to a part. `left` counts the parts that are still to come. Laws; `Walking` is the loop's invariant.
-- Assumes nothing.
use Rattle.std.specs.Prelude.{◌≡◌}
use Rattle.std.proofs.Math.Path.{refl, sym, ap, ap₂}
use Rattle.std.proofs.Common.{◌∙◌, le_of_eq, arith, take-append-drop, drop_of_length-le, take_all, take_at, drop-drop}
use mathlib.Core.List.{List, ◌++◌, append_assoc, append-nil}
use Prim.Native.Nat.{ℕ, zero, suc, ◌+◌, ◌*◌, ◌-◌, ◌≤◌, ◌<◌}
use Rattle.std.proofs.Math.Nat.{suc-mul}
use Rattle.std.proofs.Math.ListN.{length, take, drop, length-append, length-drop}
use Rattle.std.proofs.Math.Seq.{length-take-le, drop_at}
use Rattle.frames.specs.Parts.{each_part}

module _ {A : Type 0} where
  -- the part that is lent, from start up to end
  abbrev pub lent : ℕ → ℕ → List A → List A
  lent start end xs = take (end - start) (drop start xs)

  -- the frame once the part is back, with what the part has become
  abbrev pub given_back : ℕ → ℕ → List A → List A → List A
  given_back start end xs part = take start xs ++ (part ++ drop (end - start) (drop start xs))

  -- where the walk stands: what is behind it is done, and the parts that are left are as they were
  pub record Walking (f : List A → List A) (channels samples : ℕ) (before now : List A) (start left : ℕ) : Type 0 where
    pub same : length now ≡ length before
    pub rest : start + left * samples ≡ length now
    pub done : take start now ++ each_part f left samples (drop start now) ≡ each_part f channels samples before

  -- the frame that is given back, with the part's size for `end - start`
  sized : (samples start : ℕ) (now part : List A)
      → given_back start (start + samples) now part ≡ take start now ++ part ++ drop samples (drop start now)
  sized samples start now part =
      let size : start + samples - start ≡ samples = omega arith in
      rw size (sym (append_assoc (take start now) part (drop samples (drop start now))))

  -- The walk begins at 0 with every part left.
  pub walk_begins : {f : List A → List A} {channels samples : ℕ} {xs : List A}
      → length xs ≡ channels * samples → Walking f channels samples xs xs 0 channels
  walk_begins h = record { same = refl; rest = omega arith; done = refl }

  module _ {f : List A → List A} {channels samples : ℕ} {before now : List A} {start : ℕ} where
    -- While a part is left, there is room for it.
    pub walk_room : {left : ℕ} → Walking f channels samples before now start left → 0 < left → start + samples ≤ length now
    walk_room {left = zero} w h = omega arith
    walk_room {left = suc left} w h = omega (arith, suc-mul left samples)

    -- one part more, over a part's size
    one_more : {left : ℕ} (part : List A) → Walking f channels samples before now start (suc left)
        → part ≡ f (take samples (drop start now)) → length part ≡ length (take samples (drop start now))
        → Walking f channels samples before (take start now ++ part ++ drop samples (drop start now)) (start + samples) left
    unfolding each_part
    one_more {left} part w made kept =
        let room : start + samples ≤ length now = walk_room w (omega arith) in
        let front = take start now ++ part in
        let behind = drop samples (drop start now) in
        let size : length part ≡ samples = kept ∙ length-take-le samples (drop start now) (rw length-drop (omega arith)) in
        let long : length front ≡ start + samples =
        omega (arith, length-append (take start now) part, length-take-le start now (omega arith)) in
        let whole : length (front ++ behind) ≡ length now =
        omega (arith, length-append front behind, length-drop samples (drop start now), length-drop start now) in
        record {
          same = whole ∙ w.same;
          rest = omega (arith, w.rest, suc-mul left samples);
          done =
              rw (take_at front behind (start + samples) long, drop_at front behind (start + samples) long)
              (append_assoc (take start now) part (each_part f left samples behind)
              ∙ ap (λ (r : List A). take start now ++ (r ++ each_part f left samples behind)) made
              ∙ w.done);
        }

    -- One part more: it became what f makes of it, and kept its length.
    pub walk_goes_on : {left : ℕ} {part : List A} → Walking f channels samples before now start left → 0 < left
        → part ≡ f (lent start (start + samples) now) → length part ≡ length (lent start (start + samples) now)
        → Walking f channels samples before (given_back start (start + samples) now part) (start + samples) (left - 1)
    walk_goes_on {left = zero} w h made kept = absurd (omega arith)
    walk_goes_on {left = suc left} {part} w h made kept =
        let size : start + samples - start ≡ samples = omega arith in
        let one : suc left - 1 ≡ left = omega arith in
        rw (one, sized samples start now part) (one_more part w (rw size at made) (rw size at kept))

    -- Once no part is left, f was done to each.
    pub walk_ends : {left : ℕ} → Walking f channels samples before now start left → left ≤ 0 → now ≡ each_part f channels samples before
    unfolding each_part
    walk_ends {left = zero} w h = sym (take-append-drop start now) ∙ w.done
    walk_ends {left = suc left} w h = absurd (omega arith)

  -- What keeps the length of each part keeps the frame's.
  pub each_part_length : (f : List A → List A) → ((part : List A) → length (f part) ≡ length part)
      → (k n : ℕ) (xs : List A) → length (each_part f k n xs) ≡ length xs
  unfolding each_part
  each_part_length f keeps zero n xs = refl
  each_part_length f keeps (suc k) n xs =
      length-append (f (take n xs)) (each_part f k n (drop n xs))
      ∙ ap₂ ◌+◌ (keeps (take n xs)) (each_part_length f keeps k n (drop n xs))
      ∙ sym (length-append (take n xs) (drop n xs))
      ∙ ap length (take-append-drop n xs)

  -- Two things that are the same on a part of n elements are the same on a frame of such parts.
  pub each_part_same : (f g : List A → List A) (n : ℕ) → ((part : List A) → length part ≡ n → f part ≡ g part)
      → (k : ℕ) (xs : List A) → k * n ≤ length xs → each_part f k n xs ≡ each_part g k n xs
  unfolding each_part
  each_part_same f g n agree zero xs h = refl
  each_part_same f g n agree (suc k) xs h =
      let room : n + k * n ≤ length xs = omega (arith, suc-mul k n) in
      ap₂ ◌++◌ (agree (take n xs) (length-take-le n xs (omega arith)))
      (each_part_same f g n agree k (drop n xs) (rw length-drop (omega arith)))

-- ---- a walk in blocks of any size
module _ {A : Type 0} where
  -- A block that keeps its length keeps the whole's.
  pub block_length : (now part : List A) (at m : ℕ) → at + m ≤ length now → length part ≡ length (take m (drop at now))
      → length (take at now ++ (part ++ drop m (drop at now))) ≡ length now
  block_length now part at m room kept =
      let behind = drop m (drop at now) in
      let count : length part ≡ m = kept ∙ length-take-le m (drop at now) (rw length-drop (omega arith)) in
      omega
      (arith, length-append (take at now) (part ++ behind), length-append part behind, length-take-le at now (omega arith), length-drop m (drop at now), length-drop at now)

  -- After a block of n, what is done is what was and the block, and what is left begins after it.
  pub block_cut : (now part : List A) (at n : ℕ) → at + n ≤ length now → length part ≡ length (lent at (at + n) now)
      → (take (at + n) (given_back at (at + n) now part) ≡ take at now ++ part) × (drop (at + n) (given_back at (at + n) now part) ≡ drop n (drop at now))
  block_cut now part at n room kept =
      let size : at + n - at ≡ n = omega arith in
      let front = take at now ++ part in
      let behind = drop n (drop at now) in
      let count : length part ≡ n = (rw size at kept) ∙ length-take-le n (drop at now) (rw length-drop (omega arith)) in
      let long : length front ≡ at + n = omega (arith, length-append (take at now) part, length-take-le at now (omega arith)) in
      (rw (sized n at now part) (take_at front behind (at + n) long), rw (sized n at now part) (drop_at front behind (at + n) long))

  -- The last block: all that is left, and nothing behind it.
  pub block_last : (now : List A) (at : ℕ) → take (length now - at) (drop at now) ≡ drop at now
  block_last now at = take_all (length now - at) (drop at now) (le_of_eq (length-drop at now))

  pub block_ends : (now part : List A) (at : ℕ) → take at now ++ (part ++ drop (length now - at) (drop at now)) ≡ take at now ++ part
  block_ends now part at = rw (drop_of_length-le (drop at now) (le_of_eq (length-drop at now)), append-nil) refl

-- where each element x has its own y beside it: F is done to some xs by as many ys, and `split` says that it can be cut
module _ {A B : Type 0} (F : List B → List A → List A)
    (split : (n : ℕ) (ys : List B) (xs : List A) → F (take n ys) (take n xs) ++ F (drop n ys) (drop n xs) ≡ F ys xs) where
  -- One block more: what is done, then F on what is left, is what it was.
  pub beside_goes_on : (ys : List B) (now part : List A) (at n : ℕ) → at + n ≤ length now
      → part ≡ F (take (at + n - at) (drop at ys)) (lent at (at + n) now) → length part ≡ length (lent at (at + n) now)
      → take (at + n) (given_back at (at + n) now part) ++ F (drop (at + n) ys) (drop (at + n) (given_back at (at + n) now part)) ≡ take at now ++ F (drop at ys) (drop at now)
  beside_goes_on ys now part at n room made kept =
      let size : at + n - at ≡ n = omega arith in
      let behind = drop n (drop at now) in
      let cut = block_cut now part at n room kept in
      ap₂ (λ (p q : List A). p ++ F (drop (at + n) ys) q) cut.0 cut.1
      ∙ append_assoc (take at now) part (F (drop (at + n) ys) behind)
      ∙ ap (λ (r : List A). take at now ++ r)
      (ap₂ (λ (p : List A) (zs : List B). p ++ F zs behind) (rw size at made) (sym (drop-drop n at ys)) ∙ split n (drop at ys) (drop at now))

  -- Once all is done, F was done to the whole.
  pub beside_ends : (ys : List B) (now part : List A) (at : ℕ) → part ≡ F (take (length ys - at) (drop at ys)) (take (length now - at) (drop at now))
      → take at now ++ (part ++ drop (length now - at) (drop at now)) ≡ take at now ++ F (drop at ys) (drop at now)
  beside_ends ys now part at made =
      block_ends now part at ∙ ap (λ (r : List A). take at now ++ r) (made ∙ ap₂ F (block_last ys at) (block_last now at))
