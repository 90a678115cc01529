-- `saturation_protector_buffer::same_items` meets its contract. The invariant: what was found so far, and the comparison of what is left, is the comparison
-- of the whole. Assumes nothing.
use mathlib.Core.Bool.{Bool, ◌&&◌, and_assoc, and-true}
use mathlib.Core.List.{List}
use mathlib.Core.Path.{◌≡◌, sym, ◌∙◌}
use Prim.Native.Nat.{ℕ, ◌+◌, ◌≤◌, ◌<◌}
use native.Mathlib.Omega.{arith}
use lib.Ieee.{Float, nan, eq}
use lib.ListN.{length, drop, get_or, drop_of_length-le}
use borrow.Author.Rules.{rules}
use Rattle.lists.specs.Stores.{next}
use Rattle.saturation_protector_buffer.specs.Rings.{same_items}
use Rattle.saturation_protector_buffer.specs.Ring.{largest, items}
use Rattle.saturation_protector_buffer.specs.Steps.{Within}
use Rattle.saturation_protector_buffer.specs.declared.Ring.{Ring}
use Rattle.saturation_protector_buffer.specs.Laws.Places.{length_items}
use Rattle.saturation_protector_buffer.specs.Laws.Same.{not_as_many}
use Rattle.saturation_protector_buffer.proofs.same_items.Goals as goal

-- one place more: what is left of two lists begins with what stands at i
one_more : (b : Bool) (xs ys : List Float) (i : ℕ) → i < length xs → i < length ys
    → (b && eq (get_or xs i nan) (get_or ys i nan)) && same_items (drop (i + 1) xs) (drop (i + 1) ys) ≡ b && same_items (drop i xs) (drop i ys)
unfolding same_items
one_more b xs ys i h k =
    and_assoc b (eq (get_or xs i nan) (get_or ys i nan)) (same_items (drop (i + 1) xs) (drop (i + 1) ys))
    ∙ sym (rw (next xs i nan h, next ys i nan k))

-- nothing is left
none_left : (b : Bool) (xs ys : List Float) (i : ℕ) → length xs ≤ i → length ys ≤ i → b && same_items (drop i xs) (drop i ys) ≡ b
unfolding same_items
none_left b xs ys i h k = rw (drop_of_length-le xs h, drop_of_length-le ys k) (and-true b)

-- a ring has as many items as its size says
as_many : (r : Ring) → length r.stored ≡ largest → Within r → length (items r) ≡ r.size
unfolding items
as_many r long w = length_items r.capacity r.stored r.place r.size (omega (arith, long, w.capacity)) w.place w.size

pub loop-i-preserved : goal.loop-i-preserved
loop-i-preserved c =
    let a = c.args.a in
    let b = c.args.b in
    let long-a : length (items a) ≡ a.size = as_many a (search rules) c.requires.0 in
    let long-b : length (items b) ≡ b.size = as_many b (search rules) c.requires.1 in
    rw (c.peak.ensures, c.peak-in-loop-i.ensures)
    (one_more c.loop-i.same (items a) (items b) c.loop-i.i (omega arith) (omega arith) ∙ c.loop-i.invariant)

pub returns-after-loop-i : goal.returns-after-loop-i
returns-after-loop-i c =
    let a = c.args.a in
    let b = c.args.b in
    let long-a : length (items a) ≡ a.size = as_many a (search rules) c.requires.0 in
    let long-b : length (items b) ≡ b.size = as_many b (search rules) c.requires.1 in
    sym (none_left c.loop-i.same (items a) (items b) c.loop-i.i (omega arith) (omega arith)) ∙ c.loop-i.invariant

pub returns-else-a-b : goal.returns-else-a-b
returns-else-a-b c =
    let a = c.args.a in
    let b = c.args.b in
    let long-a : length (items a) ≡ a.size = as_many a (search rules) c.requires.0 in
    let long-b : length (items b) ≡ b.size = as_many b (search rules) c.requires.1 in
    sym (not_as_many (items a) (items b) (λ e. c.if-a-b.false (sym long-a ∙ e ∙ long-b)))
