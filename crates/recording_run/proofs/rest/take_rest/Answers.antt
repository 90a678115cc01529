-- `recording_run::rest::take_rest` meets its contract, by what came out of the strip. Assumes nothing.
use Rattle.std.proofs.Common.{◌∙◌}
use Rattle.recording_run.specs.Rest.{rested}
use Rattle.recording_run.specs.Laws.Told.{gap_or_same}
use Rattle.recording_run.proofs.rest.take_rest.Goals as goal

pub returns-in-More : goal.returns-in-More
unfolding rested
returns-in-More c = rw (c.in-More.is, c.no_gap.ensures)

pub returns-in-Head : goal.returns-in-Head
unfolding rested
returns-in-Head c = rw (c.in-Head.is, c.no_gap-in-Head.ensures)

pub returns-in-Record : goal.returns-in-Record
unfolding rested
returns-in-Record c = rw (c.in-Record.is, c.no_gap-in-Record.ensures)

pub returns-in-Gap : goal.returns-in-Gap
unfolding rested
returns-in-Gap c = rw (c.in-Gap.is, c.after_gap.ensures, c.unwrap_or-chain.ensures, c.gap.ensures, gap_or_same)

pub returns-in-End : goal.returns-in-End
unfolding rested
returns-in-End c = rw (c.in-End.is, c.no_gap-in-End.ensures)

pub returns-in-Refused : goal.returns-in-Refused
unfolding rested
returns-in-Refused c = rw (c.in-Refused.is, c.no_gap-in-Refused.ensures)
