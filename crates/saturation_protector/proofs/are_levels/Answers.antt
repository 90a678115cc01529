-- `saturation_protector::are_levels` meets its contract: `all` is asked of each slot. Assumes nothing.
use Rattle.std.proofs.Common.{◌≡◌, ◌∙◌, refl, ap, ◌&&◌, Bool, List, [], ◌∷◌, rules, tests}
use Rattle.std.specs.List.{list_all}
use Rattle.std.specs.Prelude.{Float}
use Rattle.std.proofs.lemmas.Iterator.{YieldsList-from_slice}
use Rattle.std.proofs.lemmas.Iterator.Search.{all_from_yields_List}
use Rattle.units.specs.Figures.{level}
use Rattle.saturation_protector.specs.Peaks.{all_levels}
use Rattle.saturation_protector.proofs.are_levels.Goals as goal

listed : (xs : List Float) → list_all level xs ≡ all_levels xs
unfolding all_levels
listed [] = refl
listed (x ∷ xs) = ap (λ (b : Bool). level x && b) (listed xs)

pub returns : goal.returns
returns c =
    all_from_yields_List level _ _ c.all.result c.all.ensures.ran (YieldsList-from_slice c.args.slots.now cc) (λ x b q k. search (rules, tests))
    ∙ listed c.args.slots.now
