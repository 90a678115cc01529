-- `gain_applier::put_gain` meets its contract: each branch is a case of the definition. Assumes nothing.
use Rattle.std.proofs.Common.{rules}
use Rattle.gain_applier.specs.Sound.{scaled, gained}
use Rattle.gain_applier.proofs.put_gain.Goals as goal

pub returns-then-is_close_to_one : goal.returns-then-is_close_to_one
unfolding gained
returns-then-is_close_to_one c = rw (c.if-last-current.true, ← c.is_close_to_one.ensures, c.if-is_close_to_one.true)

pub returns-else-is_close_to_one : goal.returns-else-is_close_to_one
unfolding gained
returns-else-is_close_to_one c =
    let close = c in
    rw (close.if-last-current.true, ← close.is_close_to_one.ensures, close.if-is_close_to_one.false)
    (c.each_channel.ensures (scaled close.args.current) (λ part after long r. search rules))

pub returns-else-last-current : goal.returns-else-last-current
unfolding gained
returns-else-last-current c = rw c.if-last-current.false c.ramp.ensures
