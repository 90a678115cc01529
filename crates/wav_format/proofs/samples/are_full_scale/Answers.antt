-- `wav_format::samples::are_full_scale` meets its contract. The invariant: what was found so far, and the test of what is left, is the test of the whole.
-- Assumes nothing.
use Rattle.std.proofs.Common.{◌&&◌, List, sym, ◌∙◌, arith}
use mathlib.Core.Bool.{and_assoc, and-true}
use lib.Ieee.{Float, nan}
use Rattle.wav_format.specs.Samples.{all_full_scale}
use Rattle.lists.specs.Loops.{scan, scan_done}
use Rattle.wav_format.proofs.samples.are_full_scale.Goals as goal

pub loop-x-preserved : goal.loop-x-preserved
unfolding all_full_scale
loop-x-preserved c =
    let frame = c.args.frame.now in
    let loop = c.loop-x in
    let ok = loop.ok in
    let r = c.is_full_scale-ok.result in (
      omega arith,
      scan (λ (ys : List Float). ok && all_full_scale ys) (λ (ys : List Float). ok && r && all_full_scale ys) frame loop.x-index nan (omega arith)
          (rw c.is_full_scale-ok.ensures (sym (and_assoc ok _ _)))
          ∙ loop.invariant.1,
    )

pub returns : goal.returns
unfolding all_full_scale
returns c =
    let frame = c.args.frame.now in
    let loop = c.loop-x in
    sym (and-true loop.ok) ∙ sym (scan_done (λ (ys : List Float). loop.ok && all_full_scale ys) frame loop.x-index (omega arith)) ∙ loop.invariant.1
