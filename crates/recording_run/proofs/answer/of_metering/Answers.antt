-- `recording_run::answer::of_metering` meets its contract. Assumes nothing.
use Rattle.std.proofs.Common.{◌∙◌}
use Rattle.recording_run.specs.Answer.{meter_answer}
use Rattle.recording_run.specs.Laws.Told.{by_flag}
use Rattle.recording_run.proofs.answer.of_metering.Goals as goal

pub returns : goal.returns
unfolding meter_answer
returns c = c.then_some.ensures ∙ rw (by_flag, c.all_well.ensures)
