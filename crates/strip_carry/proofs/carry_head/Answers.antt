-- `strip_carry::carry_head` meets its contract. Assumes nothing.
use Rattle.strip_format.specs.Format.{in_version}
use Rattle.strip_carry.specs.Run.{with_threshold}
use Rattle.strip_carry.proofs.Lines.{head_put, head_passed}
use Rattle.strip_carry.proofs.carry_head.Goals as goal

pub returns : goal.returns
unfolding in_version with_threshold
returns c =
    let write = c.write_head-written in
    let a = c.args in
    let both = head_put a.tally a.head a.out.now write.result _ _ c.if-tally-ne-DONE.false c.requires write.ensures.value write.ensures.out_after (c.count.ensures.said, c.count.ensures.not_said) in
    record { value = both.0; out_after = both.1 }

pub returns-then-tally-ne-DONE : goal.returns-then-tally-ne-DONE
unfolding with_threshold
returns-then-tally-ne-DONE c =
    let a = c.args in
    let both = head_passed a.tally a.head a.out.now _ c.if-tally-ne-DONE.true c.pass_by.ensures in
    record { value = both.0; out_after = both.1 }
