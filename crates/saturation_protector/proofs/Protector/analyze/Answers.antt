-- `saturation_protector::Protector::analyze` meets its contract: a frame that is not refused has a state that passes and a peak in its range. Assumes nothing.
use mathlib.Core.Bool.{true, ◌&&◌}
use mathlib.Core.List.{[], ◌∷◌}
use mathlib.Core.Path.{◌≡◌, refl, sym, ◌∙◌}
use Rattle.lists.specs.Tests.{each_of}
use Rattle.units.specs.Replies.{refusal}
use Rattle.units.specs.Handed.{handed}
use Rattle.units.specs.Laws.Replies.{none_refused}
use Rattle.units.specs.Laws.Handed.{refused_by, passed_done}
use Rattle.saturation_protector.specs.Calls.{stepped}
use Rattle.saturation_protector.proofs.Protector.analyze.Goals as goal
use Rattle.saturation_protector.proofs.Protector.analyze.Goals.{In_ok-check}

-- what was not refused passed its tests
accepted : (c : In_ok-check)
    → (c.passes.result ≡ true) × (c.is_probability.result && c.is_level.result && c.is_level-2.result ≡ true)
accepted c = let k = none_refused true _ _ true (passed_done _ _ _ c.in_ok-check.ensures) in (k.1, k.2)

pub returns-in_err-check : goal.returns-in_err-check
unfolding stepped
returns-in_err-check c =
    rw (← c.passes.ensures, ← c.is_probability.ensures, ← c.is_level.ensures, ← c.is_level-2.ensures)
    (refused_by _ _ _ _ _ c.from_residual.ensures.1 c.in_err-check.ensures)

pub analyzed-requires : goal.analyzed-requires
analyzed-requires c =
    let k = accepted c in
    let figures = each_of (c.is_probability.result ∷ c.is_level.result ∷ c.is_level-2.result ∷ []) k.1 in
    (sym c.passes.ensures ∙ k.0, sym c.is_level.ensures ∙ figures 1)

pub returns : goal.returns
unfolding stepped refusal handed
returns c =
    let k = accepted c.before in
    rw (c.analyzed.ensures, ← c.passes.ensures, ← c.is_probability.ensures, ← c.is_level.ensures, ← c.is_level-2.ensures, k.0, k.1) refl
