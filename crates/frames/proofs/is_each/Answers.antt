-- `frames::is_each` meets its contract. The invariant: what was found so far, and the test of what is left, is the test of the whole. Assumes nothing.
use mathlib.Core.Bool.{◌&&◌, and_assoc, and-true}
use mathlib.Core.List.{List}
use lib.ListN.{get_or}
use mathlib.Core.Path.{◌≡◌, sym, refl, ◌∙◌}
use native.Mathlib.Omega.{arith}
use lib.Ieee.{Float, nan}
use Rattle.frames.specs.Samples.{within, all_within}
use Rattle.lists.specs.Loops.{scan, scan_done}
use Rattle.frames.proofs.is_each.Goals as goal

pub loop-x-init : goal.loop-x-init
loop-x-init g c = λ bound is. refl

pub loop-x-preserved : goal.loop-x-preserved
unfolding all_within
loop-x-preserved g c =
    λ bound is.
    let frame = c.args.frame.now in
    let loop = c.loop-x in
    let ok = loop.ok in
    let r = c.test-ok.result in
    let same : r ≡ within bound (get_or frame loop.x-index nan) = is _ r (c.type_inv.frame loop.x-index) c.test-ok.ensures in
    scan (λ (ys : List Float). ok && all_within bound ys) (λ (ys : List Float). ok && r && all_within bound ys) frame loop.x-index nan (omega arith)
    (rw same (sym (and_assoc ok _ _)))
    ∙ loop.invariant bound is

pub returns : goal.returns
unfolding all_within
returns g c =
    λ bound is.
    let loop = c.loop-x in
    sym (and-true loop.ok) ∙ sym (scan_done (λ (ys : List Float). loop.ok && all_within bound ys) c.args.frame.now loop.x-index (omega arith)) ∙ loop.invariant bound is
