-- `interpolated_gain_curve::piece_of` meets its contract. The invariant: the search on what is left, with what was found so far, finds the piece. Assumes nothing.
use Rattle.std.proofs.Common.{◌+◌, List, sym, ◌∙◌, add-one, arith, rules}
use lib.Ieee.{Float, nan}
use Rattle.lists.specs.Loops.{scan, scan_done}
use Rattle.interpolated_gain_curve.specs.Gain.{last_below, knots, knot_bits, piece_of}
use Rattle.interpolated_gain_curve.proofs.piece_of.Goals as goal

pub loop-i-init : goal.loop-i-init
unfolding piece_of
loop-i-init c = search rules

pub loop-i-preserved : goal.loop-i-preserved
unfolding last_below knots knot_bits
loop-i-preserved c =
    let level = c.args.level in
    let loop = c.loop-i in
    let i = loop.i in
    scan (λ (ys : List Float). last_below level i loop.piece ys) (λ (ys : List Float). last_below level (i + 1) c.pick-piece.result ys) knots i nan (omega arith)
    (rw (add-one i, c.pick-piece.ensures))
    ∙ loop.invariant

pub returns : goal.returns
unfolding last_below knots knot_bits
returns c =
    let loop = c.loop-i in
    sym (scan_done (λ (ys : List Float). last_below c.args.level loop.i loop.piece ys) knots loop.i c.loop-i-test.false) ∙ loop.invariant
