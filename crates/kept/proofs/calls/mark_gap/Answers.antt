-- `kept::calls::mark_gap` meets its contract. Assumes nothing.
use Rattle.std.proofs.Common.{ap, ◌∙◌, Err}
use Rattle.std.proofs.lemmas.Result.{err_from_is_err_and}
use Rattle.kept.specs.Calls.{told_chain}
use Rattle.kept.proofs.Told.{gap_unsound, gap_refused, gap_taken}
use Rattle.kept.proofs.calls.mark_gap.Goals as goal

pub returns-in_err-sound : goal.returns-in_err-sound
returns-in_err-sound c =
    let out = err_from_is_err_and c.from_residual.result c.from_residual.ensures.1 in
    rw (out.1 ∙ ap Err out.2) (gap_unsound c.args.kept c.in_err-sound.field-0.0 c.in_err-sound.ensures)

pub returns-in_err-after : goal.returns-in_err-after
returns-in_err-after c =
    let out = err_from_is_err_and c.from_residual-in_err-after.result c.from_residual-in_err-after.ensures.1 in
    rw (out.1 ∙ ap Err out.2) (gap_refused c.args.kept c.in_ok-sound.sound c.in_err-after.field-0.0 c.in_ok-sound.ensures (rw c.chain-chain.ensures at c.in_err-after.ensures))

pub returns : goal.returns
unfolding told_chain
returns c = rw c.from.ensures (gap_taken c.args.kept c.in_ok-sound.sound c.in_ok-after.after c.in_ok-sound.ensures (rw c.chain-chain.ensures at c.in_ok-after.ensures))
