-- `recording_run::levelling::told_of_samples` meets its contract. Assumes nothing.
use Rattle.recording_run.specs.Levelling.{of_samples}
use Rattle.recording_run.proofs.levelling.told_of_samples.Goals as goal

pub returns-then-extent-left : goal.returns-then-extent-left
unfolding of_samples
returns-then-extent-left c = rw (← c.extent_of-extent.ensures, c.if-extent-left.true)

pub returns-then-size-behind : goal.returns-then-size-behind
unfolding of_samples
returns-then-size-behind c = rw (← c.extent_of-extent.ensures, c.if-extent-left.false, c.if-size-behind.true)

pub returns-else-size-behind : goal.returns-else-size-behind
unfolding of_samples
returns-else-size-behind c = rw (← c.extent_of-extent.ensures, c.if-extent-left.false, c.if-size-behind.false)
