-- The oldest of a ring, in the Rust's words: none where there is no item, and otherwise what is stored at the front index. Laws.
-- Assumes nothing.
use Rattle.std.specs.Prelude.{◌≡◌, refl, List, [], ◌∷◌, ◌<◌, ◌≤◌, length, get_or, Float}
use Rattle.std.proofs.Common.{ap, ◌∙◌, not-suc-le-zero, arith}
use Rattle.std.proofs.Math.Arith.{le-zero}
use Rattle.std.specs.Float.{nan}
use Rattle.saturation_protector_buffer.specs.Rings.{start}
use Rattle.saturation_protector_buffer.specs.Ring.{Said, items}
use Rattle.saturation_protector_buffer.specs.Calls.{oldest}
use Rattle.saturation_protector_buffer.specs.Steps.{Within}
use Rattle.saturation_protector_buffer.specs.declared.Ring.{Ring}
use Rattle.saturation_protector_buffer.specs.Laws.Places.{length_items, front_at}

oldest_first : (xs : List Float) → 0 < length xs → oldest xs ≡ record { number = 1; values = get_or xs 0 nan ∷ [] }
unfolding oldest
oldest_first [] h = absurd (not-suc-le-zero h)
oldest_first (x ∷ xs) h = refl

-- Where there is an item, the oldest is what is stored at the front index.
pub oldest_stored : (r : Ring) → r.capacity ≤ length r.stored → Within r → 0 < r.size
    → oldest (items r) ≡ record { number = 1; values = get_or r.stored (start r.capacity r.place r.size) nan ∷ [] }
unfolding items
oldest_stored r long w h =
    oldest_first (items r) (omega (arith, length_items r.capacity r.stored r.place r.size long w.place w.size))
    ∙ ap {B = Said} (λ (x : Float). record { number = 1; values = x ∷ [] }) (front_at r.capacity r.stored r.place r.size long w.place w.size nan h)

-- Where there is none, there is no oldest.
pub oldest_none : (r : Ring) → r.size ≤ 0 → oldest (items r) ≡ record { number = 0; values = [] }
unfolding items oldest
oldest_none r h = rw (le-zero h)
