-- The knots rise strictly, and a level's piece is the largest i whose knot is strictly below it.
use Rattle.std.specs.Prelude.{◌≡◌, ℕ, zero, suc, ◌+◌, ◌<◌, Bool, true, false, cond, ◌||◌, T, List, [], ◌∷◌, length, get_or, nat_le, slice_index_or, refl, Float}
use Rattle.std.proofs.Common.{sym, ◌∙◌, subst, suc-le-suc, add-zero, add-suc, suc-add, le_of_suc-le-suc, not-suc-le-zero, arith, leb→le, lit<}
use Rattle.std.specs.Float.{nan}
use Rattle.std.specs.Float.Ieee.{lt, of_bits}
use Rattle.lists.specs.Entries.{every}
use Rattle.lists.specs.Table.{at}
use Rattle.interpolated_gain_curve.specs.Gain.{knot_bits, knots, first_knot, last_below, piece_of}

-- ---- the knots rise
-- each entry from the place after i on is above x
above : ℕ → Float → ℕ → Float → Bool
above i x j y = nat_le j i || lt x y

-- one test over all pairs of knots
rising : ℕ → Float → Bool
rising i x = every (above i x) 0 knots

second : (a b : Bool) → (T a → ⊥) → T (a || b) → T b
second true b never t = absurd (never tt)
second false b never t = t

-- The knots rise strictly: of any two the later one is above the other.
pub knots_rise : (i j : ℕ) → i < j → j < 32 → T (lt (slice_index_or knots i nan) (slice_index_or knots j nan))
unfolding rising above knots knot_bits lt of_bits
knots_rise i j h k =
    let x = get_or knots i nan in
    let y = get_or knots j nan in
    let row = at rising nan knots tt i (omega arith) in
    second (nat_le j i) (lt x y) (λ t. let l = leb→le j i t in omega arith) (at (above i x) nan knots row j k)

-- ---- what the search finds
-- Nothing in the list is below the level, and r is `best`; or the entry k is, and none after it, and r is the place of k counted from i.
data Found (level : Float) (xs : List Float) (i best r : ℕ) : Type 0 where
  nothing : r ≡ best → ((j : ℕ) → j < length xs → T (lt (slice_index_or xs j nan) level) → ⊥) → Found level xs i best r
  last : (k : ℕ) → k < length xs → r ≡ i + k → T (lt (slice_index_or xs k nan) level) → ((j : ℕ) → k < j → j < length xs → T (lt (slice_index_or xs j nan) level) → ⊥)
      → Found level xs i best r

-- one entry more in front
longer : (level x : Float) (xs : List Float) (i best r : ℕ) (b : Bool) → lt x level ≡ b → Found level xs (suc i) (cond b i best) r → Found level (x ∷ xs) i best r
longer level x xs i best r b e (last k h q t none) = last (suc k) (suc-le-suc h) (q ∙ suc-add i k ∙ sym (add-suc i k)) t after
  where
    after : (j : ℕ) → suc k < j → j < suc (length xs) → T (lt (slice_index_or (x ∷ xs) j nan) level) → ⊥
    after zero l m = absurd (not-suc-le-zero l)
    after (suc j) l m = none j (le_of_suc-le-suc l) (le_of_suc-le-suc m)
longer level x xs i best r true e (nothing q none) = last 0 (omega arith) (q ∙ sym (add-zero i)) (subst (λ (b : Bool). T b) (sym e) tt) after
  where
    after : (j : ℕ) → 0 < j → j < suc (length xs) → T (lt (slice_index_or (x ∷ xs) j nan) level) → ⊥
    after zero l m = absurd (not-suc-le-zero l)
    after (suc j) l m = none j (le_of_suc-le-suc m)
longer level x xs i best r false e (nothing q none) = nothing q after
  where
    after : (j : ℕ) → j < suc (length xs) → T (lt (slice_index_or (x ∷ xs) j nan) level) → ⊥
    after zero m t = subst (λ (b : Bool). T b) e t
    after (suc j) m t = none j (le_of_suc-le-suc m) t

found : (level : Float) (xs : List Float) (i best : ℕ) → Found level xs i best (last_below level i best xs)
unfolding last_below
found level [] i best = nothing refl (λ (j : ℕ) h t. not-suc-le-zero h)
found level (x ∷ xs) i best = longer level x xs i best _ (lt x level) refl (found level xs (suc i) (cond (lt x level) i best))

-- There is a piece of that number, whatever the level.
pub piece_inside : (level : Float) → piece_of level < 32
unfolding piece_of knots knot_bits
piece_inside level = go (found level knots 0 0)
  where
    go : Found level knots 0 0 (piece_of level) → piece_of level < 32
    go (nothing q none) = omega arith
    go (last k h q t none) = omega arith

-- p is the largest number of a knot that is strictly below the level
pub record Largest (level : Float) (p : ℕ) : Type 0 where
  pub inside : p < 32
  pub below : T (lt (slice_index_or knots p nan) level)
  pub after : (j : ℕ) → p < j → j < 32 → T (lt (slice_index_or knots j nan) level) → ⊥

-- Of every level above the first knot the piece is the largest i whose knot is strictly below the level.
pub piece_is_largest : (level : Float) → T (lt first_knot level) → Largest level (piece_of level)
unfolding piece_of knots knot_bits
piece_is_largest level h = go (found level knots 0 0)
  where
    go : Found level knots 0 0 (piece_of level) → Largest level (piece_of level)
    go (nothing q none) = absurd (none 0 (lit< tt) h)
    go (last k l q t none) =
        let e : k ≡ piece_of level = omega arith in
        subst (λ (p : ℕ). Largest level p) e (record { inside = l; below = t; after = none })
