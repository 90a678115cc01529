-- `kept::calls::read_chain` meets its contract. Assumes nothing.
use Rattle.std.proofs.Common.{ap, ◌∙◌, Err}
use Rattle.std.proofs.lemmas.Result.{err_from_is_err_and}
use Rattle.kept.specs.Calls.{told_published}
use Rattle.kept.proofs.Told.{read_unsound, read_refused, read_told}
use Rattle.kept.proofs.calls.read_chain.Goals as goal

pub returns-in_err-sound : goal.returns-in_err-sound
returns-in_err-sound c =
    let out = err_from_is_err_and c.from_residual.result c.from_residual.ensures.1 in
    rw (out.1 ∙ ap Err out.2) (read_unsound c.args.kept c.in_err-sound.field-0.0 c.in_err-sound.ensures)

pub returns-in_err-published : goal.returns-in_err-published
returns-in_err-published c =
    let out = err_from_is_err_and c.from_residual-in_err-published.result c.from_residual-in_err-published.ensures.1 in
    rw (out.1 ∙ ap Err out.2) (read_refused c.args.kept c.in_ok-sound.sound c.in_err-published.field-0.0 c.in_ok-sound.ensures (rw c.chain-chain.ensures at c.in_err-published.ensures))

pub returns : goal.returns
unfolding told_published
returns c =
    rw c.from.ensures
    (read_told c.args.kept c.in_ok-sound.sound c.in_ok-published.published c.in_ok-sound.ensures (rw c.chain-chain.ensures at c.in_ok-published.ensures))
