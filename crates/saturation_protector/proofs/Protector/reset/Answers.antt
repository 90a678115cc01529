-- `saturation_protector::Protector::reset` meets its contract. Assumes nothing.
use mathlib.Core.Path.{refl}
use Rattle.units.specs.Replies.{refusal}
use Rattle.units.specs.Handed.{handed}
use Rattle.units.specs.Laws.Handed.{refused_by}
use Rattle.saturation_protector.specs.Calls.{reset}
use Rattle.saturation_protector.proofs.Accepted.{accepted}
use Rattle.saturation_protector.proofs.Protector.reset.Goals as goal

pub returns-in_err-checked : goal.returns-in_err-checked
unfolding reset
returns-in_err-checked c = refused_by _ _ _ _ _ c.from_residual.ensures.1 c.in_err-checked.ensures

pub again-requires : goal.again-requires
again-requires c = let k = accepted c.args.self _ c.in_ok-checked.ensures in rw (← k.1) k.0

pub returns : goal.returns
unfolding reset refusal handed
returns c = let k = accepted c.args.self _ c.before.in_ok-checked.ensures in rw (c.again.ensures, ← k.1, k.0) refl
