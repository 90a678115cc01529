-- `saturation_protector::Peaks::passes` meets its contract: the slots of a ring whose numbers do not fit are not looked at. Assumes nothing.
use mathlib.Core.Path.{sym, ◌∙◌}
use Rattle.saturation_protector.specs.Laws.Levels.{fitting_passes, unfit_fails}
use Rattle.saturation_protector.proofs.Peaks.passes.Goals as goal

pub returns-then-fits : goal.returns-then-fits
returns-then-fits c =
    rw (c.is_level.ensures, c.are_levels.ensures, c.slots-slots.ensures, c.is_headroom.ensures)
    (fitting_passes c.args.self (sym c.fits.ensures ∙ c.if-fits.true))

pub returns-else-fits : goal.returns-else-fits
returns-else-fits c = sym (unfit_fails c.args.self (sym c.fits.ensures ∙ c.if-fits.false))
