-- `kept::calls::make_chain` meets its contract. Assumes nothing.
use Rattle.std.proofs.Common.{ap, ◌∙◌, Err}
use Rattle.std.proofs.lemmas.Result.{err_from_is_err_and}
use Rattle.kept.specs.Calls.{told_chain}
use Rattle.kept.proofs.Told.{chain_is_made, chain_is_refused}
use Rattle.kept.proofs.calls.make_chain.Goals as goal

pub returns-in_err-chain : goal.returns-in_err-chain
unfolding told_chain
returns-in_err-chain c =
    let a = c.args in
    let out = err_from_is_err_and c.from_residual.result c.from_residual.ensures.1 in
    rw (out.1 ∙ ap Err out.2) (chain_is_refused a.settings a.threshold a.samples a.capacity c.in_err-chain.field-0.0 c.in_err-chain.ensures)

pub returns : goal.returns
unfolding told_chain
returns c =
    let a = c.args in
    rw c.from.ensures (chain_is_made a.settings a.threshold a.samples a.capacity _ c.in_ok-chain.ensures)
