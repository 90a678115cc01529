-- `lanes::Lanes::raise_by_part` meets its contract. The invariant: the lanes are raised by the blocks that were passed. Assumes nothing.
use Rattle.std.proofs.Common.{◌≡◌}
use Rattle.std.specs.Slice.Iter.{chunks_exact_rest, chunks_exact_size}
use Rattle.fixed_digital_level_estimator.specs.Lanes.{lanes_of}
use Rattle.fixed_digital_level_estimator.proofs.Blocks.{Passed}
use Rattle.fixed_digital_level_estimator.proofs.lanes.Lanes.raise_by_part.Given as goal

abbrev pub invariant-loop-block : goal.invariant-loop-block
invariant-loop-block l = (chunks_exact_size l.block-iterator ≡ 4) × Passed (lanes_of l.fn.self) l.part (chunks_exact_rest l.block-iterator) (lanes_of l.found)
