-- `recording_run::wave::after_skip` meets its contract. Assumes nothing.
use Rattle.std.proofs.Common.{le-ltb, lt-ltb}
use Rattle.recording_run.specs.Wave.{after_skip}
use Rattle.recording_run.proofs.wave.after_skip.Goals as goal

pub returns-then-came-gt0 : goal.returns-then-came-gt0
unfolding after_skip
returns-then-came-gt0 c = rw (lt-ltb _ _ c.if-came-gt0.true, c.saturating_sub.ensures)

pub returns-else-came-gt0 : goal.returns-else-came-gt0
unfolding after_skip
returns-else-came-gt0 c = rw (le-ltb _ _ c.if-came-gt0.false)
