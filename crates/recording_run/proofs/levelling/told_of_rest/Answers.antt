-- `recording_run::levelling::told_of_rest` meets its contract. Assumes nothing.
use Rattle.std.proofs.Common.{◌∙◌}
use Rattle.recording_run.specs.Levelling.{of_rest}
use Rattle.recording_run.specs.Laws.Told.{by_flag}
use Rattle.recording_run.proofs.levelling.told_of_rest.Goals as goal

pub returns : goal.returns
unfolding of_rest
returns c = c.then_some.ensures ∙ by_flag _ _
