-- `fixed_digital_level_estimator::raise` meets its contract. The invariant: what is done, then the raising of what is left, is the raising of the
-- whole. The right neighbour that is read is not raised yet, since the loop goes up. Assumes nothing.
use mathlib.Core.List.{List, [], ◌∷◌, ◌++◌}
use mathlib.Core.Path.{◌≡◌, sym, ap, ◌∙◌}
use Prim.Native.Nat.{ℕ, ◌+◌, ◌≤◌, ◌<◌}
use native.Mathlib.Omega.{arith}
use lib.Ieee.{Float, nan}
use lib.ListN.{length, get_or, take, drop, length-set, take-append-drop, drop_of_length-le}
use Rattle.lists.specs.Loops.{in_place}
use Rattle.lists.specs.Stores.{next}
use Rattle.floats.specs.Choice.{larger}
use Rattle.fixed_digital_level_estimator.specs.Envelope.{raised}
use Rattle.fixed_digital_level_estimator.proofs.raise.Goals as goal

-- where a right neighbour is left
with-neighbour : (xs : List Float) (k : ℕ) → k + 1 < length xs
    → raised (get_or xs k nan ∷ drop (k + 1) xs) ≡ larger (get_or xs k nan) (get_or xs (k + 1) nan) ∷ raised (drop (k + 1) xs)
unfolding raised
with-neighbour xs k h = rw (next xs (k + 1) nan h)

-- the last one stays
last-stays : (xs : List Float) (k : ℕ) → k < length xs → length xs ≤ k + 1 → take k xs ++ raised (drop k xs) ≡ xs
unfolding raised
last-stays xs k h g =
    let alone : drop k xs ≡ get_or xs k nan ∷ [] = next xs k nan h ∙ ap (λ (r : List Float). get_or xs k nan ∷ r) (drop_of_length-le xs g) in
    ap (λ (r : List Float). take k xs ++ raised r) alone ∙ ap (λ (r : List Float). take k xs ++ r) (sym alone) ∙ take-append-drop k xs

pub loop-k-preserved : goal.loop-k-preserved
loop-k-preserved c =
    let loop = c.loop-k in
    let out = loop.out in
    let k = loop.k in (
      simp length-set loop.invariant.0,
      in_place raised raised out k nan c.larger-higher.result (omega arith) (with-neighbour out k (omega arith) ∙ ap (λ (v : Float). v ∷ raised (drop (k + 1) out)) (sym c.larger-higher.ensures))
          ∙ loop.invariant.1,
    )

pub returns : goal.returns
returns c =
    let loop = c.loop-k in
    sym (last-stays loop.out loop.k (omega arith) (omega arith)) ∙ loop.invariant.1
