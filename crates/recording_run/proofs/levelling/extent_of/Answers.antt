-- `recording_run::levelling::extent_of` meets its contract. Assumes nothing.
use Rattle.recording_run.specs.Levelling.{extent_of}
use Rattle.recording_run.proofs.levelling.extent_of.Goals as goal

pub returns : goal.returns
unfolding extent_of
returns c = rw (c.pick.ensures, c.pick-2.ensures, c.whole_groups-whole.ensures.value, c.is_unknown-known.ensures)
