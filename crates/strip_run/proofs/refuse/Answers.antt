-- `strip_run::refuse` meets its contract. Assumes nothing.
use Rattle.strip_run.proofs.Printed.{refuse_is}
use Rattle.strip_run.proofs.refuse.Goals as goal

pub returns : goal.returns
returns c =
    let line = c.refusal_line in
    let n = c.unwrap_or-length in
    let a = c.args in
    let both = refuse_is a.desk a.reply a.out.now _ line.result n.result c.requires line.ensures.value n.ensures line.ensures.out_after in
    record { value = both.0; out_after = both.1 }
