-- `strip_run::verdict_of` meets its contract. Assumes nothing.
use Rattle.std.proofs.Common.{◌≡◌, Bool, true, false, not, ◌&&◌}
use Rattle.strip_run.specs.Run.{verdict_of}
use Rattle.strip_run.specs.declared.Run.{Run}
use Rattle.std.specs.Prelude.{Some, None}
use Rattle.strip_run.proofs.verdict_of.Goals as goal

module _ (r : Run) (read written closed : Bool) where
  told : read && written && closed && not r.desk.more ≡ true → Some r.desk.reply ≡ verdict_of r read written closed
  unfolding verdict_of
  told e = rw e

  untold : read && written && closed && not r.desk.more ≡ false → None ≡ verdict_of r read written closed
  unfolding verdict_of
  untold e = rw e

pub returns-then-over : goal.returns-then-over
returns-then-over c =
    let a = c.args in
    told a.run a.read a.written a.closed c.if-over.true

pub returns-else-over : goal.returns-else-over
returns-else-over c =
    let a = c.args in
    untold a.run a.read a.written a.closed c.if-over.false
