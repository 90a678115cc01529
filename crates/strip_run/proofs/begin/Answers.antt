-- `strip_run::begin` meets its contract. Assumes nothing.
use Rattle.std.proofs.Common.{refl}
use Rattle.strip_run.proofs.Printed.{stopped_by, begun_refused, begun_done}
use Rattle.strip_run.proofs.begin.Goals as goal

pub returns-in_err-chain : goal.returns-in_err-chain
returns-in_err-chain c out =
    let a = c.args in
    stopped_by _ a.desk c.from_residual.result c.in_err-chain.field-0.0 out out c.from_residual.ensures.1
    (begun_refused a.desk a.head c.in_err-chain.field-0.0 c.in_err-chain.ensures) refl

pub returns : goal.returns
returns c out = begun_done c.args.desk c.args.head c.in_ok-chain.chain c.after-desk.result out c.in_ok-chain.ensures c.after-desk.ensures
