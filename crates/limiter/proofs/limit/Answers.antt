-- `limiter::limit` meets its contract. The invariant: what is done, then the definition on what is left, by the factors that are left. Assumes nothing.
use Rattle.std.proofs.Common.{◌<◌, ◌+◌, length, drop, sym, refl, ◌∙◌, arith}
use lib.Ieee.{nan}
use Rattle.lists.specs.Loops.{in_place, in_place_done}
use Rattle.lists.specs.Stores.{next}
use Rattle.limiter.specs.Factors.{limited}
use Rattle.limiter.proofs.limit.Goals as goal

pub loop-i-init : goal.loop-i-init
loop-i-init c = refl

pub loop-i-preserved : goal.loop-i-preserved
unfolding limited
loop-i-preserved c =
    let loop = c.loop-i in
    let by = c.args.by.now in
    let inside : loop.i < length by = omega arith in
    in_place (limited (drop loop.i by)) (limited (drop (loop.i + 1) by)) loop.part loop.i nan _ (omega arith) (rw (c.clamp.ensures, next by loop.i nan inside)) ∙ loop.invariant

pub returns : goal.returns
unfolding limited
returns c =
    let loop = c.loop-i in
    let by = c.args.by.now in
    sym (in_place_done (limited (drop loop.i by)) loop.part loop.i (omega arith) refl) ∙ loop.invariant
