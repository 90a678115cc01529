-- `saturation_protector::Protector::gap` meets its contract. Assumes nothing.
use mathlib.Core.Path.{refl}
use Rattle.units.specs.Replies.{refusal}
use Rattle.units.specs.Handed.{handed}
use Rattle.units.specs.Laws.Handed.{refused_by}
use Rattle.saturation_protector.specs.Calls.{gap}
use Rattle.saturation_protector.proofs.Accepted.{accepted}
use Rattle.saturation_protector.proofs.Protector.gap.Goals as goal

pub returns-in_err-checked : goal.returns-in_err-checked
unfolding gap
returns-in_err-checked c = refused_by _ _ _ _ _ c.from_residual.ensures.1 c.in_err-checked.ensures

pub returns : goal.returns
unfolding gap refusal handed
returns c = let k = accepted c.args.self _ c.before.in_ok-checked.ensures in rw (c.interrupted.ensures, ← k.1, k.0) refl
