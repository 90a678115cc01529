-- `recording_run::answer::of_run` meets its contract. Assumes nothing.
use Rattle.std.proofs.Common.{◌∙◌, le-ltb, lt-ltb}
use Rattle.recording_run.specs.Answer.{run_answer}
use Rattle.recording_run.specs.Laws.Told.{by_flag}
use Rattle.recording_run.proofs.answer.of_run.Goals as goal

pub returns-then-run-gt0 : goal.returns-then-run-gt0
unfolding run_answer
returns-then-run-gt0 c = rw (c.of_refusal.ensures, lt-ltb _ _ c.if-run-gt0.true)

pub returns-else-run-gt0 : goal.returns-else-run-gt0
unfolding run_answer
returns-else-run-gt0 c = rw (le-ltb _ _ c.if-run-gt0.false) (c.then_some.ensures ∙ rw (by_flag, c.all_well.ensures))
