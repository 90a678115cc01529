-- `limiter::fill_line` meets its contract. The invariant: what is done, then the line on what is left. Assumes nothing.
use mathlib.Core.Path.{refl, sym, ◌∙◌}
use mathlib.Core.List.{List}
use Prim.Native.Nat.{◌+◌}
use native.Mathlib.Omega.{arith}
use lib.ListN.{length}
use lib.Ieee.{Float, nan}
use Rattle.lists.specs.Loops.{in_place, in_place_done}
use Rattle.limiter.specs.Factors.{line}
use Rattle.limiter.proofs.fill_line.Goals as goal

pub loop-j-init : goal.loop-j-init
loop-j-init c = refl

pub overflow_cast-factor : goal.overflow_cast-factor
overflow_cast-factor c = record { fits = omega arith }

pub loop-j-preserved : goal.loop-j-preserved
unfolding line
loop-j-preserved c =
    let loop = c.loop-j in
    let args = c.args in
    in_place (λ (xs : List Float). line args.start args.step loop.j (length xs)) (λ (xs : List Float). line args.start args.step (loop.j + 1) (length xs)) loop.part loop.j nan _ (omega arith) refl ∙ loop.invariant

pub returns : goal.returns
unfolding line
returns c =
    let args = c.args in
    let loop = c.loop-j in
    sym (in_place_done (λ (xs : List Float). line args.start args.step loop.j (length xs)) loop.part loop.j (omega arith) refl) ∙ loop.invariant
