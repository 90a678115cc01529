-- The peaks of a frame, one sub-frame after the other: each over all channels, and not each channel by itself. And what holds of each sample of all
-- sub-frames holds of each sample of the frame.
-- Assumes nothing.
use Rattle.std.specs.Prelude.{◌≡◌, refl, List, [], ◌∷◌, ◌++◌, Float, take, drop}
use Rattle.std.proofs.Common.{sym, ap, ap₂, ◌∙◌, suc-ne-zero, take-take, drop-drop}
use Prim.Native.Nat.{ℕ, zero, suc, ◌+◌, ◌-◌, ◌*◌, ◌≤◌}
use Rattle.std.proofs.Math.Nat.{add_comm, suc-mul, zero-mul}
use native.Mathlib.Omega.{arith}
use Rattle.std.proofs.Math.ListN.{length, length-drop, take-append-drop}
use Rattle.std.proofs.Math.Seq.{take-nil, take-add}
use Rattle.lists.specs.Each.{Each, each_take, each_drop, each_append}
use Rattle.floats.specs.Choice.{larger}
use Rattle.floats.specs.Kinds.{magnitude}
use Rattle.fixed_digital_level_estimator.specs.Envelope.{peak_from, peaks_in, peaks_over}
use Rattle.fixed_digital_level_estimator.specs.Lanes.{column}
use Rattle.fixed_digital_level_estimator.specs.Laws.Lanes.{halves}

-- the peaks over all channels, where no channel is cut off before its sub-frames are found
unfoldable pub peaks_down : ℕ → ℕ → ℕ → List Float → List Float → List Float
unfolding peaks_in
peaks_down zero n s found xs = found
peaks_down (suc c) n s found xs = peaks_down c n s (peaks_in s found xs) (drop n xs)

drop_take : (s n : ℕ) (xs : List Float) → drop s (take n xs) ≡ take (n - s) (drop s xs)
drop_take zero n xs = ap (λ (k : ℕ). take k xs) {x = n} {y = n - 0} (omega arith)
drop_take (suc s) zero xs = let e : 0 - suc s ≡ 0 = omega arith in rw e refl
drop_take (suc s) (suc n) [] = sym (take-nil (suc n - suc s))
drop_take (suc s) (suc n) (x ∷ xs) = drop_take s n xs ∙ ap (λ (k : ℕ). take k (drop s xs)) {x = n - s} {y = suc n - suc s} (omega arith)

-- a channel's sub-frames lie in the channel
uncut : (s n : ℕ) (found xs : List Float) → length found * s ≤ n → peaks_in s found (take n xs) ≡ peaks_in s found xs
unfolding peaks_in
uncut s n [] xs h = refl
uncut s n (f ∷ more) xs h =
    let one : suc (length more) * s ≡ length more * s + s = suc-mul (length more) s in
    let r : length more * s ≤ n - s = omega arith in
    ap₂ (λ (p : Float) (ps : List Float). p ∷ ps) (ap (peak_from f) (take-take s n xs (omega arith)))
    (ap (peaks_in s more) (drop_take s n xs) ∙ uncut s (n - s) more (drop s xs) r)

as_many : (s : ℕ) (found xs : List Float) → length (peaks_in s found xs) ≡ length found
unfolding peaks_in
as_many s [] xs = refl
as_many s (f ∷ more) xs = ap suc (as_many s more (drop s xs))

pub over_down : (c n s : ℕ) (found xs : List Float) → length found * s ≤ n → peaks_over c n s found xs ≡ peaks_down c n s found xs
unfolding peaks_over peaks_down
over_down zero n s found xs h = refl
over_down (suc c) n s found xs h =
    over_down c n s (peaks_in s found (take n xs)) (drop n xs) (rw as_many h) ∙ ap (λ (f : List Float). peaks_down c n s f (drop n xs)) (uncut s n found xs h)

pub no_column : (c n s : ℕ) (xs : List Float) → peaks_down c n s [] xs ≡ []
unfolding peaks_down
no_column zero n s xs = refl
no_column (suc c) n s xs = no_column c n s (drop n xs)

swapped : (n s : ℕ) (xs : List Float) → drop s (drop n xs) ≡ drop n (drop s xs)
swapped n s xs = drop-drop s n xs ∙ ap (λ (k : ℕ). drop k xs) (add_comm n s) ∙ sym (drop-drop n s xs)

peak_append : (f : Float) (xs ys : List Float) → peak_from f (xs ++ ys) ≡ peak_from (peak_from f xs) ys
unfolding peak_from
peak_append f [] ys = refl
peak_append f (x ∷ xs) ys = peak_append (larger f (magnitude x)) xs ys

-- the first sub-frame's column, and then the others
pub one_column : (c n s : ℕ) (f : Float) (more xs : List Float)
    → peaks_down c n s (f ∷ more) xs ≡ peak_from f (column c n s xs) ∷ peaks_down c n s more (drop s xs)
unfolding peaks_down column peak_from
one_column zero n s f more xs = refl
one_column (suc c) n s f more xs =
    one_column c n s (peak_from f (take s xs)) (peaks_in s more (drop s xs)) (drop n xs)
    ∙ ap₂ (λ (p : Float) (ys : List Float). p ∷ peaks_down c n s (peaks_in s more (drop s xs)) ys) (sym (peak_append f (take s xs) (column c n s (drop n xs)))) (swapped n s xs)

module _ (p : Float → Type 0) where
  -- What holds of each sample of a frame holds of each of a column.
  pub each_column : (c n s : ℕ) (xs : List Float) → Each p xs → Each p (column c n s xs)
  unfolding column Each
  each_column zero n s xs h = tt
  each_column (suc c) n s xs h = each_append p (take s xs) (column c n s (drop n xs)) (each_take p s xs h) (each_column c n s (drop n xs) (each_drop p n xs h))

  -- p holds of each sample of the first j sub-frames, each over all channels
  unfoldable pub EachColumn : ℕ → ℕ → ℕ → ℕ → List Float → Type 0
  unfolding column Each
  EachColumn zero c n s xs = Unit {0}
  EachColumn (suc j) c n s xs = Each p (column c n s xs) × EachColumn j c n s (drop s xs)

  first_channel : (j c n s : ℕ) (xs : List Float) → EachColumn j (suc c) n s xs → Each p (take (j * s) xs) × EachColumn j c n s (drop n xs)
  unfolding EachColumn column
  first_channel zero c n s xs h = (rw (zero-mul s) (unfold Each in tt), tt)
  first_channel (suc j) c n s xs h =
      let two = halves p (take s xs) (column c n s (drop n xs)) h.0 in
      let rest = first_channel j c n s (drop s xs) h.1 in
      let size : suc j * s ≡ s + j * s = suc-mul j s ∙ add_comm (j * s) s in (
        rw (size, take-add s (j * s) xs) (each_append p (take s xs) (take (j * s) (drop s xs)) two.0 rest.0),
        (two.1, rw (swapped n s xs) rest.1),
      )

  -- What holds of each sample of all sub-frames holds of each sample of the frame.
  pub covered : (c j n s : ℕ) (xs : List Float) → n ≡ j * s → length xs ≡ c * n → EachColumn j c n s xs → Each p xs
  covered zero j n s [] e l h = unfold Each in tt
  covered zero j n s (x ∷ xs) e l h = absurd (suc-ne-zero (length xs) (l ∙ zero-mul n))
  covered (suc c) j n s xs e l h =
      let first = first_channel j c n s xs h in
      let size = suc-mul c n in
      let rest : length (drop n xs) ≡ c * n = length-drop n xs ∙ omega arith in
      rw (← take-append-drop n xs) (each_append p (take n xs) (drop n xs) (rw e first.0) (covered c j n s (drop n xs) e rest first.1))
