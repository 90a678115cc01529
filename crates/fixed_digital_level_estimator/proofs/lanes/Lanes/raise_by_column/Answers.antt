-- `lanes::Lanes::raise_by_column` meets its contract. The invariant: what the channels that are left make of the lanes, all channels make of those that
-- came in. Assumes nothing.
use Rattle.std.proofs.Common.{◌∙◌, arith}
use Rattle.fixed_digital_level_estimator.proofs.Blocks.{none_crossed, one_crossed, all_crossed}
use Rattle.fixed_digital_level_estimator.proofs.lanes.Lanes.raise_by_column.Goals as goal

pub loop-channel-init : goal.loop-channel-init
loop-channel-init c =
    let channels = c.chunks_exact-channel-items.ensures in
    rw c.into_iter-channel-iterator.ensures.into_iter_gives (channels.size, rw channels.rest (none_crossed _ _ _ _ _ _ c.requires.0))

pub loop-channel-preserved : goal.loop-channel-preserved
loop-channel-preserved c =
    let known = c.loop-channel.invariant in
    let steps = c.in-Some.ensures.steps in
    (steps.0 ∙ known.0, one_crossed _ _ _ _ _ _ _ _ _ _ _ c.requires.1 c.requires.2 known.1 steps.1.0 (steps.1.1 ∙ known.0) c.raise_by_part-found.ensures)

pub returns : goal.returns
returns c =
    let known = c.loop-channel.invariant in
    all_crossed _ _ _ _ _ _ _ _ known.1 (omega (arith, c.in-None.ensures.steps.1.0, known.0))
