-- `saturation_protector::Protector::checked` meets its contract. Assumes nothing.
use Rattle.units.specs.Laws.Handed.{refused_by, passed_by}
use Rattle.saturation_protector.proofs.Protector.checked.Goals as goal

pub returns-in_err-check : goal.returns-in_err-check
returns-in_err-check c = rw (← c.passes.ensures) (refused_by _ _ _ _ _ c.from_residual.ensures.1 c.in_err-check.ensures)

pub returns : goal.returns
returns c = rw (← c.passes.ensures) (passed_by _ _ _ _ c.in_ok-check.ensures)
