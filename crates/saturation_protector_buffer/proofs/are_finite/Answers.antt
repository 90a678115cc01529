-- `saturation_protector_buffer::are_finite` meets its contract: `all` is asked of each slot. Assumes nothing.
use Rattle.std.proofs.Common.{◌≡◌, ◌∙◌, refl, ap, ◌&&◌, Bool, List, [], ◌∷◌, rules, tests}
use Rattle.std.specs.List.{list_all}
use Rattle.std.specs.Prelude.{Float}
use Rattle.std.specs.Float.Ieee.Scale.{finite}
use Rattle.std.proofs.lemmas.Iterator.{YieldsList-from_slice}
use Rattle.std.proofs.lemmas.Iterator.Search.{all_from_yields_List}
use Rattle.saturation_protector_buffer.specs.Rings.{all_finite}
use Rattle.saturation_protector_buffer.proofs.are_finite.Goals as goal

listed : (xs : List Float) → list_all finite xs ≡ all_finite xs
unfolding all_finite
listed [] = refl
listed (x ∷ xs) = ap (λ (b : Bool). finite x && b) (listed xs)

pub returns : goal.returns
returns c =
    all_from_yields_List finite _ _ c.all.result c.all.ensures.ran (YieldsList-from_slice c.args.slots.now cc) (λ x b q k. search (rules, tests))
    ∙ listed c.args.slots.now
