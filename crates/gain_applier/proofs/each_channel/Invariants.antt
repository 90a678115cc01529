-- `gain_applier::each_channel` meets its contract, by the laws of the walk over what is done to a part. Assumes nothing.
use Rattle.std.proofs.Common.{◌≡◌, ◌*◌, List, length, Float, ◌+◌, ◌-◌, MutBor}
use Rattle.frames.specs.Walk.{Walking}
use Rattle.gain_applier.proofs.each_channel.Given as goal

abbrev pub invariant-loop : goal.invariant-loop
invariant-loop g l =
    (l.start + (l.channels - l.counter) * l.samples ≡ length l.frame)
    × ((made : List Float → List Float)
    → ((part after : MutBor (List Float)) → length part.now ≡ l.samples → goal.F-post g l.f part tt after → after.now ≡ made part.now)
    → Walking made l.channels l.samples l.initial.frame l.frame l.start (l.channels - l.counter))
