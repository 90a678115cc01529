-- `limiter_step::process_lent` meets its contract: it refuses what the step refuses. Assumes nothing.
use Rattle.units.specs.Laws.Handed.{refused_by, passed_by}
use Rattle.limiter_step.proofs.process_lent.Goals as goal

pub returns-in_err-state-clause-value : goal.returns-in_err-state-clause-value
returns-in_err-state-clause-value c = refused_by _ _ _ _ _ c.from_residual.ensures.1 c.in_err-state.ensures.value

pub returns-clause-value : goal.returns-clause-value
returns-clause-value c = passed_by _ _ _ _ c.in_ok-state.ensures.value
