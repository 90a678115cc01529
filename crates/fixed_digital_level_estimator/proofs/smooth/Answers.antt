-- `fixed_digital_level_estimator::smooth` meets its contract. The invariant: what is done, then the smoothing of what is left from the last value
-- on, is the smoothing of the whole. Assumes nothing.
use mathlib.Core.List.{List, ◌∷◌}
use mathlib.Core.Path.{◌≡◌, refl, sym, ap, ◌∙◌}
use Prim.Native.Nat.{◌+◌}
use native.Mathlib.Omega.{arith}
use lib.Ieee.{Float, nan}
use lib.ListN.{length, drop, length-set}
use borrow.Author.Rules.{rules}
use Rattle.lists.specs.Loops.{across, across_done}
use Rattle.fixed_digital_level_estimator.specs.Envelope.{smoothed, linear}
use Rattle.fixed_digital_level_estimator.proofs.smooth.Goals as goal

pub loop-k-preserved : goal.loop-k-preserved
unfolding smoothed linear
loop-k-preserved c =
    let loop = c.loop-k in
    let found = c.args.found in
    let twenty : length found ≡ 20 = search rules in
    let out = loop.out in
    let k = loop.k in
    let value = c.follow-last.result in (
      simp length-set loop.invariant.0,
      across (λ (ys : List Float). linear (smoothed loop.last ys)) (λ (ys : List Float). linear (smoothed value ys)) found out k nan (record { 0 = value }) (omega arith) (omega arith)
          (ap (λ (v : Float). linear (v ∷ smoothed v (drop (k + 1) found))) (sym c.follow-last.ensures))
          ∙ loop.invariant.1,
    )

pub returns : goal.returns
unfolding smoothed linear
returns c =
    let loop = c.loop-k in
    let found = c.args.found in
    let twenty : length found ≡ 20 = search rules in
    sym (across_done (λ (ys : List Float). linear (smoothed loop.last ys)) found loop.out loop.k (omega arith) (omega arith) refl) ∙ loop.invariant.1
