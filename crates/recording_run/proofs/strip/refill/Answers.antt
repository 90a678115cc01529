-- `recording_run::strip::refill` meets its contract: with a failed read, with bytes and at the end. Assumes nothing.
use Rattle.std.proofs.Common.{le-ltb, lt-ltb}
use Rattle.strip_reader.specs.Reader.{handed}
use Rattle.recording_run.specs.Strip.{drawn_of, refilled}
use Rattle.recording_run.proofs.strip.refill.Goals as goal

pub returns-then-failed : goal.returns-then-failed
unfolding refilled drawn_of handed
returns-then-failed c = rw c.if-failed.true

pub returns-then-came-gt0 : goal.returns-then-came-gt0
unfolding refilled
returns-then-came-gt0 c = rw (c.if-failed.false, lt-ltb _ _ c.if-came-gt0.true) c.draw.ensures

pub returns-else-came-gt0 : goal.returns-else-came-gt0
unfolding refilled drawn_of
returns-else-came-gt0 c = rw (c.if-failed.false, le-ltb _ _ c.if-came-gt0.false, c.finish-got.ensures)
