-- `kept::calls::make_limiter` meets its contract. Assumes nothing.
use Rattle.std.proofs.Common.{ap, ◌∙◌, Err}
use Rattle.std.proofs.lemmas.Result.{err_from_is_err_and}
use Rattle.kept.specs.Calls.{told_limiter}
use Rattle.kept.proofs.Told.{limiter_is_made, limiter_is_refused}
use Rattle.kept.proofs.calls.make_limiter.Goals as goal

pub returns-in_err-limiter : goal.returns-in_err-limiter
unfolding told_limiter
returns-in_err-limiter c =
    let out = err_from_is_err_and c.from_residual.result c.from_residual.ensures.1 in
    rw (out.1 ∙ ap Err out.2) (limiter_is_refused c.args.samples c.in_err-limiter.field-0.0 c.in_err-limiter.ensures)

pub returns : goal.returns
unfolding told_limiter
returns c = rw c.from.ensures (limiter_is_made c.args.samples _ c.in_ok-limiter.ensures)
