-- `gain_applier::fill_gains` meets its contract. The invariant: what is filled, then the gains that are left, from the next one. Assumes nothing.
use Rattle.std.proofs.Common.{◌≡◌, ℕ, ◌+◌, ◌-◌, ◌≤◌, List, ◌++◌, length, take, drop, refl, ap, ◌∙◌, ap₂, append_assoc, arith, length-drop, length-take-le}
use native.Mathlib.Nat.{sub-zero}
use lib.Ieee.{Float}
use Rattle.frames.specs.Walk.{lent, given_back, block_length, block_cut, block_last, block_ends}
use Rattle.gain_applier.specs.Gains.{gains_from, gain_after, gains_split}
use Rattle.gain_applier.proofs.fill_gains.Goals as goal

-- one block more
block_more : (now part : List Float) (at n : ℕ) (next step after : Float) → at + n ≤ length now → after ≡ gain_after (length (lent at (at + n) now)) next step
    → part ≡ gains_from (length (lent at (at + n) now)) next step → length part ≡ length (lent at (at + n) now)
    → take (at + n) (given_back at (at + n) now part) ++ gains_from (length (given_back at (at + n) now part) - (at + n)) after step ≡ take at now ++ gains_from (length now - at) next step
block_more now part at n next step after room to made kept =
    let size : at + n - at ≡ n = omega arith in
    let count : length (lent at (at + n) now) ≡ n = rw size (length-take-le n (drop at now) (rw length-drop (omega arith))) in
    let same : length (given_back at (at + n) now part) ≡ length now = block_length now part at (at + n - at) (omega arith) kept in
    let left : n + (length now - (at + n)) ≡ length now - at = omega arith in
    ap₂ (λ (p : List Float) (k : ℕ). p ++ gains_from (k - (at + n)) after step) (block_cut now part at n room kept).0 same
    ∙ append_assoc (take at now) part (gains_from (length now - (at + n)) after step)
    ∙ ap (λ (r : List Float). take at now ++ r)
    (ap₂ (λ (p : List Float) (g : Float). p ++ gains_from (length now - (at + n)) g step) (made ∙ ap (λ (k : ℕ). gains_from k next step) count)
    (to ∙ ap (λ (k : ℕ). gain_after k next step) count)
    ∙ gains_split n (length now - (at + n)) next step
    ∙ ap (λ (k : ℕ). gains_from k next step) left)

pub loop-gains-init : goal.loop-gains-init
loop-gains-init c =
    let args = c.args in
    (refl, omega arith, ap (λ (n : ℕ). gains_from n args.from args.step) (sub-zero (length args.gains.now)))

pub loop-gains-smaller : goal.loop-gains-smaller
loop-gains-smaller c =
    let loop = c.loop-gains in
    let made = c.fill_some-next in
    let same = block_length loop.gains made.new.gains loop.at (loop.at + 48 - loop.at) (omega arith) made.auto.gains in
    omega (arith, same)

pub loop-gains-preserved : goal.loop-gains-preserved
loop-gains-preserved c =
    let loop = c.loop-gains in
    let made = c.fill_some-next in
    let same = block_length loop.gains made.new.gains loop.at (loop.at + 48 - loop.at) (omega arith) made.auto.gains in (
      same ∙ loop.invariant.0,
      omega (arith, same),
      block_more loop.gains made.new.gains loop.at 48 loop.next c.args.step made.result (omega arith) made.ensures.value made.ensures.gains_after made.auto.gains
          ∙ loop.invariant.2,
    )

pub shape_of-gains : goal.shape_of-gains
shape_of-gains c =
    let loop = c.loop-gains in
    let made = c.fill_some-next-2 in
    block_length loop.gains made.new.gains loop.at (length loop.gains - loop.at) (omega arith) made.auto.gains ∙ loop.invariant.0

pub returns : goal.returns
returns c =
    let loop = c.loop-gains in
    let made = c.fill_some-next-2 in
    block_ends loop.gains made.new.gains loop.at
    ∙ ap (λ (r : List Float). take loop.at loop.gains ++ r)
    (made.ensures.gains_after
    ∙ ap (λ (n : ℕ). gains_from n loop.next c.args.step) (ap length (block_last loop.gains loop.at) ∙ length-drop loop.at loop.gains))
    ∙ loop.invariant.2
