-- `limiter::fill_curved` meets its contract. The invariant: what is done, then the curve on what is left. Assumes nothing.
use mathlib.Core.Path.{refl, sym, ◌∙◌}
use mathlib.Core.List.{List}
use Prim.Native.Nat.{◌+◌}
use native.Mathlib.Omega.{arith}
use lib.ListN.{length}
use lib.Ieee.{Float, nan}
use Rattle.lists.specs.Loops.{in_place, in_place_done}
use Rattle.limiter.specs.Factors.{curved}
use Rattle.limiter.specs.Factors.{curved}
use Rattle.limiter.proofs.fill_curved.Goals as goal

pub overflow_cast-n : goal.overflow_cast-n
overflow_cast-n c = record { fits = omega arith }

pub loop-j-init : goal.loop-j-init
loop-j-init c = refl

pub overflow_cast-t : goal.overflow_cast-t
overflow_cast-t c = record { fits = omega arith }

pub loop-j-preserved : goal.loop-j-preserved
unfolding curved
loop-j-preserved c =
    let loop = c.loop-j in
    let args = c.args in
    let s = length args.part.now in
    in_place (λ (xs : List Float). curved s args.start args.end loop.j (length xs)) (λ (xs : List Float). curved s args.start args.end (loop.j + 1) (length xs)) loop.part loop.j nan _ (omega arith) (rw c.eighth_power.ensures) ∙ loop.invariant

pub returns : goal.returns
unfolding curved
returns c =
    let args = c.args in
    let loop = c.loop-j in
    sym (in_place_done (λ (xs : List Float). curved (length args.part.now) args.start args.end loop.j (length xs)) loop.part loop.j (omega arith) refl) ∙ loop.invariant
