-- `limiter::limit_channels` meets its contract, by the laws of the walk over what is done to a part. Assumes nothing.
use Rattle.std.proofs.Common.{◌-◌}
use Rattle.frames.specs.Walk.{Walking}
use Rattle.limiter.specs.Factors.{limited}
use Rattle.limiter.proofs.limit_channels.Given as goal

abbrev pub invariant-loop : goal.invariant-loop
invariant-loop l = Walking (limited l.by) l.channels l.samples l.initial.frame l.frame l.start (l.channels - l.counter)
