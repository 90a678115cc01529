-- `saturation_protector_buffer::same_items` meets its contract. The invariant: what was found so far, and the comparison of what is left, is the comparison
-- of the whole. Assumes nothing.
use Rattle.std.proofs.Common.{◌≡◌, ◌&&◌, drop}
use Rattle.saturation_protector_buffer.specs.Rings.{same_items}
use Rattle.saturation_protector_buffer.specs.Ring.{items}
use Rattle.saturation_protector_buffer.proofs.same_items.Given as goal

abbrev pub invariant-loop-i : goal.invariant-loop-i
invariant-loop-i l = l.same && same_items (drop l.i (items l.a)) (drop l.i (items l.b)) ≡ same_items (items l.a) (items l.b)
