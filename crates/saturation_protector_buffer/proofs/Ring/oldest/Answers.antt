-- `saturation_protector_buffer::Ring::oldest` meets its contract. Assumes nothing.
use mathlib.Core.Path.{◌≡◌, sym}
use Prim.Native.Nat.{◌<◌}
use native.Mathlib.Omega.{arith}
use lib.ListN.{length}
use borrow.Author.Rules.{rules}
use Rattle.saturation_protector_buffer.specs.Ring.{largest, said}
use Rattle.saturation_protector_buffer.specs.Laws.Places.{start_inside}
use Rattle.saturation_protector_buffer.specs.Laws.Front.{oldest_stored, oldest_none}
use Rattle.saturation_protector_buffer.proofs.Ring.oldest.Goals as goal
use Rattle.saturation_protector_buffer.proofs.Ring.oldest.Goals.{After-front_index-first}

-- the front index lies inside the storage
inside : (c : After-front_index-first) → c.front_index-first.result < largest
inside c =
    let start = c in
    let r = start.args.self in
    let below = start_inside r.capacity r.place r.size start.requires.place start.requires.size in
    rw c.front_index-first.ensures (omega (arith, below, start.requires.capacity))

pub offset_bounds-self-first : goal.offset_bounds-self-first
offset_bounds-self-first c = omega (arith, inside c.before)

pub bounds-self-first : goal.bounds-self-first
bounds-self-first c = omega (arith, inside c.before)

pub returns-then-self-gt0 : goal.returns-then-self-gt0
unfolding said
returns-then-self-gt0 c =
    let start = c in
    let slots : length start.args.self.stored ≡ largest = search rules in
    rw c.front_index-first.ensures (sym (oldest_stored start.args.self (omega (arith, start.requires.capacity)) start.requires (omega arith)))

pub returns-else-self-gt0 : goal.returns-else-self-gt0
unfolding said
returns-else-self-gt0 c = sym (oldest_none c.args.self c.if-self-gt0.false)
