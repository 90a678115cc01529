-- `gain_applier::multiply` meets its contract, by the laws of what is done in blocks. Assumes nothing.
use Rattle.std.proofs.Common.{◌-◌, length}
use Rattle.frames.specs.Blocks.{Blocks}
use Rattle.gain_applier.specs.Gains.{multiplied}
use Rattle.gain_applier.proofs.multiply.Given as goal

abbrev pub invariant-loop-part : goal.invariant-loop-part
invariant-loop-part l = Blocks multiplied l.gains l.initial.part l.part l.at

abbrev pub decreases-loop-part : goal.decreases-loop-part
decreases-loop-part l = length l.part - l.at
