-- `lanes::Lanes::raise_by_column` meets its contract. The invariant: what the channels that are left make of the lanes, all channels make of those that
-- came in. Assumes nothing.
use Rattle.std.proofs.Common.{◌≡◌}
use Rattle.std.specs.Slice.Iter.{chunks_exact_rest, chunks_exact_size}
use Rattle.fixed_digital_level_estimator.specs.Lanes.{lanes_of}
use Rattle.fixed_digital_level_estimator.proofs.Blocks.{Crossed}
use Rattle.fixed_digital_level_estimator.proofs.lanes.Lanes.raise_by_column.Given as goal

abbrev pub invariant-loop-channel : goal.invariant-loop-channel
invariant-loop-channel l = (chunks_exact_size l.channel-iterator ≡ l.samples) × Crossed (lanes_of l.fn.self) l.at l.channels l.samples l.part l.frame (chunks_exact_rest l.channel-iterator) (lanes_of l.found)
