-- `recording_run::strip::begin` meets its contract. Assumes nothing.
use Rattle.recording_run.specs.Strip.{new_source}
use Rattle.recording_run.proofs.strip.begin.Goals as goal

pub returns : goal.returns
unfolding new_source
returns c = rw c.new-reader.ensures
