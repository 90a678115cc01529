-- `saturation_protector_buffer::Ring::peak` meets its contract: the items are the slots round from the front index. Assumes nothing.
use mathlib.Core.Path.{◌≡◌, sym}
use native.Mathlib.Omega.{arith}
use lib.Ieee.{nan}
use lib.ListN.{length}
use borrow.Author.Rules.{rules}
use Rattle.saturation_protector_buffer.specs.Ring.{largest, items}
use Rattle.saturation_protector_buffer.specs.Laws.Places.{start_inside, item_at}
use Rattle.saturation_protector_buffer.proofs.Ring.peak.Goals as goal

pub overflow_add-result : goal.overflow_add-result
overflow_add-result c =
    let r = c.args.self.now in
    let w = c.requires.within in
    omega (arith, start_inside r.capacity r.place r.size w.place w.size, c.front_index.ensures)

pub returns : goal.returns
unfolding items
returns c =
    let r = c.args.self.now in
    let w = c.requires.within in
    let slots : length r.stored ≡ largest = search rules in
    rw c.front_index.ensures (sym (item_at r.capacity r.stored r.place r.size (omega (arith, w.capacity)) w.place w.size c.args.i nan c.requires.there))
