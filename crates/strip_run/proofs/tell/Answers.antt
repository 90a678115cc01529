-- `strip_run::tell` meets its contract. Assumes nothing.
use Rattle.std.proofs.Common.{◌≡◌, true, false, refl}
use Rattle.strip_reader.specs.Reader.{Handed, handed}
use Rattle.strip_reader.specs.Telling.{unchanged}
use Rattle.strip_run.specs.Lines.{shown, told}
use Rattle.strip_run.specs.declared.Desk.{Desk}
use Rattle.strip_run.proofs.Printed.{moved}
use Rattle.strip_run.proofs.tell.Goals as goal

going : (d : Desk) (h : Handed) → d.more ≡ true → shown d h ≡ told d h
unfolding told
going d h e = rw e

over : (d : Desk) (h : Handed) → d.more ≡ false → unchanged d ≡ told d h
unfolding told
over d h e = rw e

pub returns-then-desk : goal.returns-then-desk
returns-then-desk c =
    let a = c.args in
    let both = moved _ _ a.out.now _ _ (going a.desk (handed a.got) c.if-desk.true) (c.show.ensures.value, c.show.ensures.out_after) in
    record { value = both.0; out_after = both.1 }

pub returns-else-desk : goal.returns-else-desk
returns-else-desk c =
    let a = c.args in
    let both = moved _ _ a.out.now _ _ (over a.desk (handed a.got) c.if-desk.false) (refl, refl) in
    record { value = both.0; out_after = both.1 }
