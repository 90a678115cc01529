-- `saturation_protector::pushed_when` meets its contract: a ring that passes does not refuse a level. Assumes nothing.
use mathlib.Core.Path.{◌≡◌, refl, ◌∙◌}
use Rattle.std.specs.Prelude.{Ok}
use Rattle.saturation_protector_buffer.specs.Ring.{push}
use Rattle.saturation_protector.specs.Laws.Rings.{pushed_given}
use Rattle.saturation_protector.specs.Laws.Tests.{level_finite}
use Rattle.saturation_protector.proofs.pushed_when.Goals as goal
use Rattle.saturation_protector.proofs.pushed_when.Goals.{After-push_back}

given : (c : After-push_back) → c.push_back.result ≡ Ok (push c.args.ring c.args.peak)
given c = c.push_back.ensures ∙ pushed_given c.args.ring c.args.peak c.requires.0 (level_finite c.args.peak c.requires.1)

pub unwrap-requires : goal.unwrap-requires
unwrap-requires c = rw (given c) refl

pub returns-then-due : goal.returns-then-due
returns-then-due c = let g = given c.before in rw c.if-due.true (cc g)
