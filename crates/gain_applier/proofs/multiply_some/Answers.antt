-- `gain_applier::multiply_some` meets its contract. The invariant: what is done, then the definition on what is left, by the gains that are left. Assumes nothing.
use Rattle.std.proofs.Common.{◌<◌, ◌+◌, length, drop, sym, refl, ◌∙◌, arith}
use lib.Ieee.{nan}
use Rattle.lists.specs.Loops.{in_place, in_place_done}
use Rattle.lists.specs.Stores.{next}
use Rattle.gain_applier.specs.Gains.{multiplied}
use Rattle.gain_applier.proofs.multiply_some.Goals as goal

pub loop-i-init : goal.loop-i-init
loop-i-init c = refl

pub loop-i-preserved : goal.loop-i-preserved
unfolding multiplied
loop-i-preserved c =
    let loop = c.loop-i in
    let gains = c.args.gains.now in
    let inside : loop.i < length gains = omega arith in
    in_place (multiplied (drop loop.i gains)) (multiplied (drop (loop.i + 1) gains)) loop.part loop.i nan _ (omega arith) (rw (next gains loop.i nan inside)) ∙ loop.invariant

pub returns : goal.returns
unfolding multiplied
returns c =
    let loop = c.loop-i in
    let gains = c.args.gains.now in
    sym (in_place_done (multiplied (drop loop.i gains)) loop.part loop.i (omega arith) refl) ∙ loop.invariant
