-- `saturation_protector::Protector::new` meets its contract: what is not refused has a capacity. Assumes nothing.
use mathlib.Core.Bool.{true, ◌&&◌}
use mathlib.Core.List.{[], ◌∷◌}
use mathlib.Core.Path.{◌≡◌, refl, sym, ◌∙◌}
use Rattle.lists.specs.Tests.{each_of}
use Rattle.units.specs.Replies.{refusal}
use Rattle.units.specs.Handed.{handed}
use Rattle.units.specs.Laws.Replies.{none_refused}
use Rattle.units.specs.Laws.Handed.{refused_by, passed_done}
use Rattle.saturation_protector.specs.Calls.{made}
use Rattle.saturation_protector.proofs.Protector.new.Goals as goal
use Rattle.saturation_protector.proofs.Protector.new.Goals.{In_ok-check}

-- what was not refused passed both tests
accepted : (c : In_ok-check) → (c.is_threshold.result && c.is_capacity.result ≡ true) × (c.is_headroom-figure.result ≡ true)
accepted c = let k = none_refused true _ _ true (passed_done _ _ _ c.in_ok-check.ensures) in (k.1, k.2)

pub returns-in_err-check : goal.returns-in_err-check
unfolding made
returns-in_err-check c =
    rw (← c.is_threshold.ensures, ← c.is_capacity.ensures, ← c.is_headroom-figure.ensures)
    (refused_by _ _ _ _ _ c.from_residual.ensures.1 c.in_err-check.ensures)

pub fresh-requires : goal.fresh-requires
fresh-requires c = sym c.is_capacity.ensures ∙ each_of (c.is_threshold.result ∷ c.is_capacity.result ∷ []) (accepted c).0 1

pub returns : goal.returns
unfolding made refusal handed
returns c =
    let k = accepted c.before in
    rw (c.fresh.ensures, ← c.is_threshold.ensures, ← c.is_capacity.ensures, ← c.is_headroom-figure.ensures, k.0, k.1) refl
