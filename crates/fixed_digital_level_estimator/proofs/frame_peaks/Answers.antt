-- `fixed_digital_level_estimator::frame_peaks` meets its contract. The invariant: what is done, then the peaks of the sub-frames that are left, are all of
-- them, where the sums are numbers; and what the highest peak and the sums tell of the samples. Assumes nothing.
use Rattle.std.specs.Prelude.{Some, None}
use mathlib.Core.Bool.{Bool, true, false, cond, ◌&&◌}
use mathlib.Core.List.{List, ◌∷◌, ◌++◌, append-nil}
use mathlib.Core.Path.{◌≡◌, refl, sym, ap, ap₂, ◌∙◌}
use Prim.Native.Nat.{ℕ, suc, ◌+◌, ◌*◌, ◌≤◌, ◌<◌, ◌-◌}
use native.Mathlib.Nat.{mul-le-mul_right, le_of_eq, suc-mul}
use native.Mathlib.Numerals.{add-one}
use Rattle.std.proofs.Math.Nat.{zero-mul}
use native.Mathlib.Omega.{arith}
use lib.Ieee.{Float, nan, le}
use lib.Ieee.Scale.{finite}
use lib.ListN.{length, get_or, set, take, drop, replicate, length-set}
use lib.Seq.{drop-drop, take_all}
use Rattle.lists.specs.Each.{each_drop}
use Rattle.lists.specs.Stores.{stores}
use Rattle.rounding.specs.Loops.{Within}
use Rattle.floats.specs.Choice.{larger}
use Rattle.floats.specs.Laws.Kinds.{nought, passed}
use Rattle.frames.specs.Samples.{largest_level, all_within}
use Rattle.fixed_digital_level_estimator.specs.Range.{Held}
use Rattle.fixed_digital_level_estimator.specs.Envelope.{silence, peak_from}
use Rattle.fixed_digital_level_estimator.specs.Lanes.{Lanes, lanes_of, starting, Real, Raised, bound, column, peak}
use Rattle.fixed_digital_level_estimator.specs.Laws.Lanes.{started, same_peak}
use Rattle.fixed_digital_level_estimator.specs.Laws.Columns.{peaks_down, over_down, one_column, no_column}
use Rattle.fixed_digital_level_estimator.specs.Laws.Tested.{Tested, tested_start, tested_next, test_real, tested}
use Rattle.fixed_digital_level_estimator.proofs.frame_peaks.Goals as goal

-- while a sub-frame is left, there is room for it
room : (at k part samples : ℕ) → k < 20 → at ≡ k * part → samples ≡ 20 * part → at + part ≤ samples
room at k part samples h e f = let z : (k + 1) * part ≤ 20 * part = mul-le-mul_right part (omega arith) in omega arith

-- one sub-frame: its column, and then the others'
one-part : (c n s at k : ℕ) (frame peaks : List Float) (v : Float) → k < 20 → length peaks ≡ 20 → v ≡ peak_from nought (column c n s (drop at frame))
    → take (k + 1) (set peaks k v) ++ peaks_down c n s (replicate (20 - (k + 1)) nought) (drop (at + s) frame)
    ≡ take k peaks ++ peaks_down c n s (replicate (20 - k) nought) (drop at frame)
one-part c n s at k frame peaks v h l e =
    let left = replicate (20 - (k + 1)) nought in
    let count : 20 - k ≡ suc (20 - (k + 1)) = omega arith in
    stores peaks k v (peaks_down c n s left (drop (at + s) frame)) (omega arith)
    ∙ ap (λ (ys : List Float). take k peaks ++ ys)
    (sym (ap (λ (j : ℕ). peaks_down c n s (replicate j nought) (drop at frame)) count
    ∙ one_column c n s nought left (drop at frame)
    ∙ ap₂ (λ (p : Float) (ys : List Float). p ∷ peaks_down c n s left ys) (sym e) (drop-drop s at frame)))

-- none is left
no_part : (c n s k : ℕ) (xs peaks : List Float) → 20 ≤ k → length peaks ≡ 20 → peaks ≡ take k peaks ++ peaks_down c n s (replicate (20 - k) nought) xs
no_part c n s k xs peaks h l =
    let none : 20 - k ≡ 0 = omega arith in
    rw (none, no_column, append-nil) (sym (take_all k peaks (omega arith)))

-- and what is then known of the samples
one-tested : (frame : List Float) (c n s at k : ℕ) (highest x y z w p next : Float) (r : Lanes) → k < 20 → p ≡ peak r → next ≡ larger p highest
    → Raised (started x y z w) (column c n s (drop at frame)) r → Tested frame c n s (20 - k) (drop at frame) highest (started x y z w)
    → Tested frame c n s (20 - (k + 1)) (drop (at + s) frame) next (started r.s r.t r.u r.v)
one-tested frame c n s at k highest x y z w p next r h ep en raised known =
    let count : 20 - k ≡ suc (20 - (k + 1)) = omega arith in
    rw (en, ep, ← drop-drop s at frame) (tested_next frame c n s (20 - (k + 1)) (drop at frame) highest x y z w r (rw count at known) (each_drop (Within bound) at frame) raised)

-- the answer
answers : (frame : List Float) (c n s : ℕ) (rest peaks want : List Float) (highest x y z w : Float) (p q o m : Bool) → p ≡ finite x → q ≡ finite y → o ≡ finite z → m ≡ finite w
    → Tested frame c n s 0 rest highest (started x y z w) → Held frame → (Real (started x y z w) → peaks ≡ want)
    → (le highest largest_level && p && q && o && m ≡ all_within largest_level frame) × (le highest largest_level && p && q && o && m ≡ true → peaks ≡ want)
answers frame c n s rest peaks want highest x y z w p q o m ep eq eo em known held found =
    rw (ep, eq, eo, em) (
      tested frame c n s rest highest x y z w known held,
      λ (h : le highest largest_level && finite x && finite y && finite z && finite w ≡ true). found (test_real frame c n s rest highest x y z w known (passed h)),
    )

-- the place of the next sub-frame
next_at : (k part : ℕ) → (k + 1) * part ≡ k * part + part
next_at k part = rw add-one (suc-mul k part)

pub loop-k-init : goal.loop-k-init
loop-k-init c =
    let args = c.args in
    rw (zero-mul args.part) (refl, λ (h : _). refl, tested_start args.frame.now args.channels args.samples args.part 20 c.requires.1 c.requires.0)

pub overflow_mul-k : goal.overflow_mul-k
overflow_mul-k c =
    let at = c.loop-k.k * c.args.part in
    record { fits = omega (arith, room at c.loop-k.k c.args.part c.args.samples (omega arith) refl c.requires.1) }

pub raise_by_column-next-requires : goal.raise_by_column-next-requires
raise_by_column-next-requires c = (c.requires.0, room (c.loop-k.k * c.args.part) c.loop-k.k c.args.part c.args.samples (omega arith) refl c.requires.1, c.requires.2)

pub loop-k-preserved : goal.loop-k-preserved
loop-k-preserved c =
    let loop = c.loop-k in
    let args = c.args in
    let sum = loop.sum in
    let at = loop.k * args.part in
    let found = c.largest-peak.result in
    let lanes = lanes_of c.raise_by_column-next.result in
    let raised = rw c.at.ensures at c.raise_by_column-next.ensures in
    let real : Real (starting c.raise_by_column-next.result.sum) → Real lanes =
    λ (h : Real (starting c.raise_by_column-next.result.sum)). record { s = h.s; t = h.t; u = h.u; v = h.v }
    in
    rw (next_at loop.k args.part) (
      simp length-set loop.invariant.0,
      λ (h : Real (starting c.raise_by_column-next.result.sum)).
          one-part args.channels args.samples args.part at loop.k args.frame.now loop.peaks found (omega arith) loop.invariant.0
          (c.largest-peak.ensures
          ∙ same_peak (get_or sum 0 nan) (get_or sum 1 nan) (get_or sum 2 nan) (get_or sum 3 nan) (column args.channels args.samples args.part (drop at args.frame.now)) lanes raised (real h))
          ∙ loop.invariant.1 (raised.before (real h)),
      one-tested args.frame.now args.channels args.samples args.part at loop.k loop.highest (get_or sum 0 nan) (get_or sum 1 nan) (get_or sum 2 nan) (get_or sum 3 nan) found
          c.larger-highest.result lanes (omega arith) c.largest-peak.ensures c.larger-highest.ensures raised loop.invariant.2,
    )

-- what is handed out
given : (within test : Bool) (peaks want : List Float) → (test ≡ within) × (test ≡ true → peaks ≡ want) → test ≡ true → Some peaks ≡ cond within (Some want) None
given within test peaks want a h = rw (← a.0, h, a.1 h)

kept : (within test : Bool) (peaks want : List Float) → (test ≡ within) × (test ≡ true → peaks ≡ want) → test ≡ false → None ≡ cond within (Some want) None
kept within test peaks want a h = rw (← a.0, h)

pub returns-then-tame : goal.returns-then-tame
returns-then-tame c =
    let loop = c.loop-k in
    let args = c.args in
    let frame = args.frame.now in
    let sum = loop.sum in
    let rest = drop (loop.k * args.part) frame in
    let none : 20 - loop.k ≡ 0 = omega arith in
    given _ _ loop.peaks _
    (answers frame args.channels args.samples args.part rest loop.peaks _ loop.highest (get_or sum 0 nan) (get_or sum 1 nan) (get_or sum 2 nan) (get_or sum 3 nan) _ _ _ _
    c.is_finite.ensures c.is_finite-2.ensures c.is_finite-3.ensures c.is_finite-4.ensures
    (rw none at loop.invariant.2) c.type_inv.frame
    (λ (h : Real (starting sum)).
    no_part args.channels args.samples args.part loop.k rest loop.peaks (omega arith) loop.invariant.0
    ∙ loop.invariant.1 h
    ∙ sym (over_down args.channels args.samples args.part silence frame (le_of_eq (sym c.requires.1)))))
    c.if-tame.true

pub returns-else-tame : goal.returns-else-tame
returns-else-tame c =
    let loop = c.loop-k in
    let args = c.args in
    let frame = args.frame.now in
    let sum = loop.sum in
    let rest = drop (loop.k * args.part) frame in
    let none : 20 - loop.k ≡ 0 = omega arith in
    kept _ _ loop.peaks _
    (answers frame args.channels args.samples args.part rest loop.peaks _ loop.highest (get_or sum 0 nan) (get_or sum 1 nan) (get_or sum 2 nan) (get_or sum 3 nan) _ _ _ _
    c.is_finite.ensures c.is_finite-2.ensures c.is_finite-3.ensures c.is_finite-4.ensures
    (rw none at loop.invariant.2) c.type_inv.frame
    (λ (h : Real (starting sum)).
    no_part args.channels args.samples args.part loop.k rest loop.peaks (omega arith) loop.invariant.0
    ∙ loop.invariant.1 h
    ∙ sym (over_down args.channels args.samples args.part silence frame (le_of_eq (sym c.requires.1)))))
    c.if-tame.false
