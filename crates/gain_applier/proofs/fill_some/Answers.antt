-- `gain_applier::fill_some` meets its contract. The invariant: what is filled, then the gains that are left, from the gain as it is now. Assumes nothing.
use Rattle.std.proofs.Common.{List, length, sym, refl, ap, ◌∙◌, arith}
use lib.Ieee.{Float, nan, binary32, add}
use Rattle.lists.specs.Stores.{next, after_store}
use Rattle.lists.specs.Loops.{in_place, in_place_done, scan_done}
use Rattle.gain_applier.specs.Gains.{gains_from, gain_after}
use Rattle.gain_applier.proofs.fill_some.Goals as goal

pub loop-x-init : goal.loop-x-init
loop-x-init c = (refl, refl)

pub loop-x-preserved : goal.loop-x-preserved
unfolding gains_from gain_after
loop-x-preserved c =
    let loop = c.loop-x in
    let step = c.args.step in (
      in_place (λ (xs : List Float). gains_from (length xs) loop.gain step) (λ (xs : List Float). gains_from (length xs) (add binary32 loop.gain step) step) loop.gains loop.x-index nan _ (omega arith) refl ∙ loop.invariant.0,
      rw (after_store loop.gains loop.x-index loop.gain) (sym (ap (λ (xs : List Float). gain_after (length xs) loop.gain step) (next loop.gains loop.x-index nan (omega arith))) ∙ loop.invariant.1),
    )

pub returns : goal.returns
unfolding gains_from gain_after
returns c =
    let loop = c.loop-x in
    let step = c.args.step in record {
      value = sym (scan_done (λ (xs : List Float). gain_after (length xs) loop.gain step) loop.gains loop.x-index (omega arith)) ∙ loop.invariant.1;
      gains_after = sym (in_place_done (λ (xs : List Float). gains_from (length xs) loop.gain step) loop.gains loop.x-index (omega arith) refl) ∙ loop.invariant.0;
    }
