-- `strip_carry::carry_figures` meets its contract. Assumes nothing.
use Rattle.strip_carry.proofs.Lines.{figures_put, figures_passed}
use Rattle.strip_carry.proofs.carry_figures.Goals as goal

pub returns : goal.returns
returns c =
    let write = c.write_record-written in
    let a = c.args in
    let both = figures_put a.tally a.figures a.out.now write.result _ _ c.if-tally-ne-DONE.false c.requires write.ensures.value write.ensures.out_after (c.count.ensures.said, c.count.ensures.not_said) in
    record { value = both.0; out_after = both.1 }

pub returns-then-tally-ne-DONE : goal.returns-then-tally-ne-DONE
returns-then-tally-ne-DONE c =
    let a = c.args in
    let both = figures_passed a.tally a.figures a.out.now _ c.if-tally-ne-DONE.true c.pass_by.ensures in
    record { value = both.0; out_after = both.1 }
