-- `strip_carry::carry_gap` meets its contract. Assumes nothing.
use Rattle.strip_carry.proofs.Lines.{gap_put, gap_passed}
use Rattle.strip_carry.proofs.carry_gap.Goals as goal

pub returns : goal.returns
returns c =
    let write = c.write_gap-written in
    let a = c.args in
    let both = gap_put a.tally a.out.now write.result _ _ c.if-tally-ne-DONE.false c.requires write.ensures.value write.ensures.out_after (c.count.ensures.said, c.count.ensures.not_said) in
    record { value = both.0; out_after = both.1 }

pub returns-then-tally-ne-DONE : goal.returns-then-tally-ne-DONE
returns-then-tally-ne-DONE c =
    let a = c.args in
    let both = gap_passed a.tally a.out.now _ c.if-tally-ne-DONE.true c.pass_by.ensures in
    record { value = both.0; out_after = both.1 }
