-- `saturation_protector::oldest_or` meets its contract: the front of a ring that passes is told. Assumes nothing.
use mathlib.Core.Path.{◌≡◌, sym, ap, ◌∙◌, subst}
use Rattle.std.specs.Prelude.{Option, Result}
use Rattle.units.specs.declared.kinds.Dbfs.{Dbfs}
use Rattle.units.specs.declared.refusals.Refusal.{Refusal}
use Rattle.saturation_protector_buffer.specs.Ring.{said, items}
use Rattle.saturation_protector_buffer.specs.Calls.{told, oldest, fronted}
use Rattle.saturation_protector.specs.Laws.Oldest.{front_given, front_told, none_oldest, one_oldest}
use Rattle.saturation_protector.proofs.oldest_or.Goals as goal
use Rattle.saturation_protector.proofs.oldest_or.Goals.{After-unwrap}

pub unwrap-requires : goal.unwrap-requires
unwrap-requires c = front_given c.args.ring c.front.result c.requires c.front.ensures

-- the front, as the definition says it
front : (c : After-unwrap) → said c.unwrap.result ≡ oldest (items c.args.ring)
front c =
    front_told c.args.ring c.unwrap.result c.requires
    (subst (λ (r : Result (Option Dbfs) Refusal). told r ≡ fronted c.args.ring) c.unwrap.ensures c.front.ensures)

pub returns-in-None : goal.returns-in-None
unfolding said
returns-in-None c = sym (none_oldest _ c.args.other (sym (front c.before) ∙ ap said c.in-None.is))

pub returns-in-Some : goal.returns-in-Some
unfolding said
returns-in-Some c = sym (one_oldest _ c.args.other _ (sym (front c.before) ∙ ap said c.in-Some.is))
