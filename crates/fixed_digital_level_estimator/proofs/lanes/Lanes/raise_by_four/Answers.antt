-- `lanes::Lanes::raise_by_four` meets its contract: each vector's operation is that of its four lanes. Assumes nothing.
use Rattle.std.proofs.Common.{◌≡◌, ℕ, ◌-◌, ◌^◌, ◌<◌, Bool, false, List, map, cond, sym, ap, subst, ◌∙◌, arith, lit<, le_of_eq, length, get_or}
use lib.Ieee.{Float, nan, binary32, add, lt}
use lib.Seq.{take_all}
use lib.Lanes.{zip2, sel_l, top}
use mir.Syntax.{w32}
use Rattle.std.proofs.lemmas.Simd.{tops_compared, get_or-sel_l, get_or-zip2, length-zip2, length-sel_l}
use Rattle.floats.specs.Choice.{larger, smaller}
use Rattle.fixed_digital_level_estimator.specs.Lanes.{Lanes, lanes_of, Raised}
use Rattle.fixed_digital_level_estimator.specs.Laws.Lanes.{by_block, raised_four}
use Rattle.fixed_digital_level_estimator.specs.declared.lanes.Lanes.{Lanes as Vectors}
use Rattle.fixed_digital_level_estimator.proofs.lanes.Lanes.raise_by_four.Goals as goal

-- the lanes of a choice by comparison
abbrev chosen : List Float → List Float → List Float → List Float → List Float
chosen xs ys ps qs = sel_l (map (top 31) (zip2 (λ a b. cond (lt a b) (2 ^ 32 - 1) 0) xs ys)) ps qs

lane : (xs ys ps qs : List Float) (i : ℕ) → length xs ≡ 4 → length ys ≡ 4 → length ps ≡ 4 → length qs ≡ 4 → i < 4
    → get_or (chosen xs ys ps qs) i nan ≡ cond (lt (get_or xs i nan) (get_or ys i nan)) (get_or ps i nan) (get_or qs i nan)
lane xs ys ps qs i a b c d h =
    let n : length (zip2 lt xs ys) ≡ 4 = length-zip2 lt xs ys (a ∙ sym b) ∙ a in
    ap (λ (ms : List Bool). get_or (sel_l ms ps qs) i nan) (tops_compared w32 lt xs ys)
    ∙ get_or-sel_l (zip2 lt xs ys) ps qs i nan (omega arith) (omega arith) (omega arith)
    ∙ ap (λ (m : Bool). cond m (get_or ps i nan) (get_or qs i nan)) (get_or-zip2 lt xs ys i nan nan false (omega arith) (omega arith))

long : (xs ys ps qs : List Float) → length xs ≡ 4 → length ys ≡ 4 → length ps ≡ 4 → length qs ≡ 4 → length (chosen xs ys ps qs) ≡ 4
long xs ys ps qs a b c d =
    let n : length (zip2 lt xs ys) ≡ 4 = length-zip2 lt xs ys (a ∙ sym b) ∙ a in
    ap (λ (ms : List Bool). length (sel_l ms ps qs)) (tops_compared w32 lt xs ys) ∙ length-sel_l (zip2 lt xs ys) ps qs (n ∙ sym c) (n ∙ sym d) ∙ n

-- what the vectors hold is what a block makes of their lanes
joined : (l : Vectors) (xs : List Float) → length xs ≡ 4
    → ◌≡◌ {A = Lanes}
    (record {
      a = get_or (chosen xs l.high l.high xs) 0 nan;
      b = get_or (chosen xs l.high l.high xs) 1 nan;
      c = get_or (chosen xs l.high l.high xs) 2 nan;
      d = get_or (chosen xs l.high l.high xs) 3 nan;
      e = get_or (chosen l.low xs l.low xs) 0 nan;
      f = get_or (chosen l.low xs l.low xs) 1 nan;
      g = get_or (chosen l.low xs l.low xs) 2 nan;
      h = get_or (chosen l.low xs l.low xs) 3 nan;
      s = get_or (zip2 (add binary32) l.sum xs) 0 nan;
      t = get_or (zip2 (add binary32) l.sum xs) 1 nan;
      u = get_or (zip2 (add binary32) l.sum xs) 2 nan;
      v = get_or (zip2 (add binary32) l.sum xs) 3 nan;
    })
    (by_block (lanes_of l) xs)
unfolding larger smaller
joined l xs n =
    let w = l.whole in
    let up : (i : ℕ) → i < 4 → get_or (chosen xs l.high l.high xs) i nan ≡ larger (get_or xs i nan) (get_or l.high i nan) = λ (i : ℕ) (h : i < 4). lane xs l.high l.high xs i n w.0 w.0 n h in
    let down : (i : ℕ) → i < 4 → get_or (chosen l.low xs l.low xs) i nan ≡ smaller (get_or xs i nan) (get_or l.low i nan) = λ (i : ℕ) (h : i < 4). lane l.low xs l.low xs i w.1 n w.1 n h in
    let more : (i : ℕ) → i < 4 → get_or (zip2 (add binary32) l.sum xs) i nan ≡ add binary32 (get_or l.sum i nan) (get_or xs i nan) =
    λ (i : ℕ) (h : i < 4). get_or-zip2 (add binary32) l.sum xs i nan nan nan (omega arith) (omega arith) in
    rw (
      up 0 (lit< tt),
      up 1 (lit< tt),
      up 2 (lit< tt),
      up 3 (lit< tt),
      down 0 (lit< tt),
      down 1 (lit< tt),
      down 2 (lit< tt),
      down 3 (lit< tt),
      more 0 (lit< tt),
      more 1 (lit< tt),
      more 2 (lit< tt),
      more 3 (lit< tt),
    )

pub invariant_of-result : goal.invariant_of-result
invariant_of-result c =
    let w = c.args.self.whole in
    let block = c.args.block.now in
    let n = c.requires in
    rw (take_all 4 block (le_of_eq n)) (record { whole = (long block c.args.self.high c.args.self.high block n w.0 w.0 n, long c.args.self.low block c.args.self.low block w.1 n w.1 n, length-zip2 (add binary32) c.args.self.sum block (w.2 ∙ sym n) ∙ w.2) })

pub returns : goal.returns
returns c =
    let block = c.args.block.now in
    let n = c.requires in
    rw (take_all 4 block (le_of_eq n))
    (subst (λ (r : Lanes). Raised (lanes_of c.args.self) block r) (sym (joined c.args.self block n)) (raised_four (lanes_of c.args.self) block n c.type_inv.block))
