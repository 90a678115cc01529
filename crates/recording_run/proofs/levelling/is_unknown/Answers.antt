-- `recording_run::levelling::is_unknown` meets its contract. Assumes nothing.
use Rattle.recording_run.specs.Levelling.{is_unknown}
use Rattle.recording_run.proofs.levelling.is_unknown.Goals as goal

pub returns : goal.returns
unfolding is_unknown
returns c = rw c.whole_groups.ensures.value
