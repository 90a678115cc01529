-- `recording_run::levelling::told_at_end` meets its contract. Assumes nothing.
use Rattle.recording_run.specs.Levelling.{at_end}
use Rattle.recording_run.proofs.levelling.told_at_end.Goals as goal

pub returns-then-run : goal.returns-then-run
unfolding at_end
returns-then-run c = rw (c.if-run.true, c.told_of_samples.ensures, c.told_of_rest.ensures)

pub returns-else-run : goal.returns-else-run
unfolding at_end
returns-else-run c = rw c.if-run.false
