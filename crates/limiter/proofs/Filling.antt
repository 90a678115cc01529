-- The factors of a channel, filled one sub-frame after the other: the invariant, and that it begins, goes on and ends. Assumes nothing.
use mathlib.Core.Path.{◌≡◌, sym, ap, ◌∙◌, subst}
use mathlib.Core.List.{List, ◌++◌, append_assoc, append-nil}
use Prim.Native.Nat.{ℕ, suc, ◌+◌, ◌-◌, ◌*◌, ◌≤◌, ◌<◌, min}
use native.Mathlib.Nat.{mul-le-mul_right}
use native.Mathlib.Omega.{arith}
use lib.ListN.{length, take, drop, get_or, length-append, length-take, length-drop, drop_of_length-le}
use lib.Seq.{take_at, take_all}
use lib.Ieee.{Float, nan}
use borrow.Rule.Slice.PartMut.{put_mid}
use Rattle.lists.specs.Stores.{next}
use Rattle.limiter.specs.Factors.{first_part, straight, later_parts, factors}

-- what is filled, then the later sub-frames from the gain before
pub record Filling (p : ℕ) (carried : Float) (gains : List Float) (by : List Float) (from k : ℕ) : Type 0 where
  pub long : length by ≡ 20 * p
  pub some : 1 ≤ k
  pub most : k ≤ 20
  pub at : from ≡ k * p
  pub same : take from by ++ later_parts p (get_or gains (k - 1) nan) (drop k gains) ≡ factors p carried gains

module _ (p : ℕ) (carried : Float) (gains : List Float) (twenty : length gains ≡ 20) where
  -- the first sub-frame
  pub filling_begins : (by ys : List Float) → length by ≡ 20 * p → length ys ≡ p → ys ≡ first_part p carried (get_or gains 0 nan)
      → Filling p carried gains (ys ++ drop p by) p 1
  unfolding factors
  filling_begins by ys long l e =
      let d = length-drop p by in
      record {
        long = length-append ys (drop p by) ∙ sums (length ys) (length (drop p by)) (length by) p l d long;
        some = omega arith;
        most = omega arith;
        at = omega arith;
        same =
            ap (λ (z : List Float). z ++ later_parts p (get_or gains 0 nan) (drop 1 gains)) (take_at ys (drop p by) p l ∙ e)
            ∙ ap (factors p carried) (sym (next gains 0 nan (omega arith)));
      }
    where
      sums : (a b n p : ℕ) → a ≡ p → b ≡ n - p → n ≡ 20 * p → a + b ≡ 20 * p
      sums a b n p i j k = omega arith

  -- the place where the next one begins
  pub filling_at : {by : List Float} {from k : ℕ} → Filling p carried gains by from k → Filling p carried gains by (k * p) k
  filling_at {by} {from} {k} f = subst (λ (z : ℕ). Filling p carried gains by z k) f.at f

  -- each later one has room, and is filled from the gain before to its own
  pub filling_room : {by : List Float} {from k : ℕ} → Filling p carried gains by from k → k < 20 → from + p ≤ length by
  filling_room {by} {from} {k} f h = room from p k (length by) f.at f.long h
    where
      room : (from p k n : ℕ) → from ≡ k * p → n ≡ 20 * p → k < 20 → from + p ≤ n
      room from p k n a l h = let m : suc k * p ≤ 20 * p = mul-le-mul_right p h in omega arith

  pub filling_goes_on : {by ys : List Float} {from k m : ℕ} → Filling p carried gains by from k → k < 20 → m ≡ p → length ys ≡ p
      → ys ≡ straight p (get_or gains (k - 1) nan) (get_or gains k nan) → Filling p carried gains (put_mid from m by ys) (from + p) (k + 1)
  unfolding later_parts
  filling_goes_on {by} {ys} {from} {k} {m} f h is l e =
      let r = filling_room f h in
      let t = length-take from by in
      let d = length-drop m (drop from by) in
      let d' = length-drop from by in
      let whole : length (take from by ++ ys) ≡ from + p = length-append (take from by) ys ∙ front (length (take from by)) (length ys) from p (length by) t l r in
      record {
        long =
            length-append (take from by) (ys ++ drop m (drop from by))
            ∙ ap (λ (z : ℕ). length (take from by) + z) (length-append ys (drop m (drop from by)))
            ∙ sums (length (take from by)) (length ys) (length (drop m (drop from by))) (length (drop from by)) (length by) from p m t l d d' is r f.long;
        some = omega arith;
        most = omega arith;
        at = more from k p f.at;
        same =
            ap (λ (z : List Float). take (from + p) z ++ rest (k + 1 - 1)) (sym (append_assoc (take from by) ys (drop m (drop from by))))
            ∙ ap (λ (z : List Float). z ++ rest (k + 1 - 1)) (take_at (take from by ++ ys) (drop m (drop from by)) (from + p) whole)
            ∙ ap (λ (z : ℕ). (take from by ++ ys) ++ rest z) (back k)
            ∙ append_assoc (take from by) ys (rest k)
            ∙ ap (λ (z : List Float). take from by ++ (z ++ rest k)) e
            ∙ ap (λ (z : List Float). take from by ++ later_parts p (get_or gains (k - 1) nan) z) (sym (next gains k nan (omega arith)))
            ∙ f.same;
      }
    where
      rest : ℕ → List Float
      rest z = later_parts p (get_or gains z nan) (drop (k + 1) gains)

      back : (k : ℕ) → k + 1 - 1 ≡ k
      back k = omega arith

      more : (from k p : ℕ) → from ≡ k * p → from + p ≡ (k + 1) * p
      more from k p e = omega arith

      front : (a b from p n : ℕ) → a ≡ min from n → b ≡ p → from + p ≤ n → a + b ≡ from + p
      front a b from p n i j k = omega arith

      sums : (a b c d n from p m : ℕ) → a ≡ min from n → b ≡ p → c ≡ d - m → d ≡ n - from → m ≡ p → from + p ≤ n → n ≡ 20 * p → a + (b + c) ≡ 20 * p
      sums a b c d n from p m i j k l o q r = omega arith

  -- it is over after twenty
  pub filling_ends : {by : List Float} {from k : ℕ} → Filling p carried gains by from k → 20 ≤ k → by ≡ factors p carried gains
  unfolding later_parts
  filling_ends {by} {from} {k} f h =
      sym
      (ap (λ (z : List Float). take from by ++ later_parts p (get_or gains (k - 1) nan) z) (drop_of_length-le gains {i = k} (omega arith))
      ∙ append-nil (take from by)
      ∙ take_all from by (all from k p (length by) f.at f.long h))
      ∙ f.same
    where
      all : (from k p n : ℕ) → from ≡ k * p → n ≡ 20 * p → 20 ≤ k → n ≤ from
      all from k p n a l h = let m : 20 * p ≤ k * p = mul-le-mul_right p h in omega arith
