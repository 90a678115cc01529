-- `recording_run::levelling::take_entry` meets its contract, by what came out of the strip. Assumes nothing.
use Rattle.recording_run.specs.Levelling.{entered}
use Rattle.recording_run.proofs.levelling.take_entry.Goals as goal

pub returns-in-More : goal.returns-in-More
unfolding entered
returns-in-More c = record {
  value = rw (c.in-More.is, c.stop.ensures);
  bytes_after = rw c.in-More.is;
}

pub returns-in-Head : goal.returns-in-Head
unfolding entered
returns-in-Head c = record {
  value = rw (c.in-Head.is, c.stop-in-Head.ensures);
  bytes_after = rw c.in-Head.is;
}

pub returns-in-Record : goal.returns-in-Record
unfolding entered
returns-in-Record c = record {
  value = rw (c.in-Record.is, c.take_figures.ensures.value);
  bytes_after = rw (c.in-Record.is, c.take_figures.ensures.bytes_after);
}

pub returns-in-Gap : goal.returns-in-Gap
unfolding entered
returns-in-Gap c = record {
  value = rw (c.in-Gap.is, c.take_gap.ensures);
  bytes_after = rw c.in-Gap.is;
}

pub returns-in-End : goal.returns-in-End
unfolding entered
returns-in-End c = record {
  value = rw (c.in-End.is, c.stop-in-End.ensures);
  bytes_after = rw c.in-End.is;
}

pub returns-in-Refused : goal.returns-in-Refused
unfolding entered
returns-in-Refused c = record {
  value = rw (c.in-Refused.is, c.refuse.ensures);
  bytes_after = rw c.in-Refused.is;
}
