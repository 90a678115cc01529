-- `saturation_protector::Peaks::starting` meets its contract: a ring of a capacity is not refused. Assumes nothing.
use mathlib.Core.Path.{◌≡◌, refl, ◌∙◌}
use Rattle.std.specs.Prelude.{Ok}
use Rattle.saturation_protector_buffer.specs.Ring.{empty}
use Rattle.saturation_protector.specs.Peaks.{starting}
use Rattle.saturation_protector.specs.Laws.Rings.{made_given}
use Rattle.saturation_protector.proofs.Peaks.starting.Goals as goal
use Rattle.saturation_protector.proofs.Peaks.starting.Goals.{After-new}

given : (c : After-new) → c.new.result ≡ Ok (empty c.args.capacity)
given c = c.new.ensures ∙ made_given c.args.capacity c.requires

pub unwrap-requires : goal.unwrap-requires
unwrap-requires c = rw (given c) refl

pub returns : goal.returns
unfolding starting
returns c =
    let g = given c.before in
    let same : c.unwrap.result ≡ empty c.args.capacity = cc g in
    rw same
