-- `saturation_protector::Peaks::restarted` meets its contract: a ring that passes is not refused. Assumes nothing.
use mathlib.Core.Path.{◌≡◌, refl, ◌∙◌}
use Rattle.std.specs.Prelude.{Ok}
use Rattle.saturation_protector_buffer.specs.Ring.{reset}
use Rattle.saturation_protector.specs.Peaks.{restarted}
use Rattle.saturation_protector.specs.Laws.Rings.{forgotten_given}
use Rattle.saturation_protector.proofs.Peaks.restarted.Goals as goal
use Rattle.saturation_protector.proofs.Peaks.restarted.Goals.{After-reset}

given : (c : After-reset) → c.reset.result ≡ Ok (reset c.args.self.ring)
given c = c.reset.ensures ∙ forgotten_given c.args.self.ring c.requires

pub unwrap-ring-requires : goal.unwrap-ring-requires
unwrap-ring-requires c = rw (given c) refl

pub returns : goal.returns
unfolding restarted
returns c =
    let g = given c.before in
    let same : c.unwrap-ring.result ≡ reset c.args.self.ring = cc g in
    rw same
