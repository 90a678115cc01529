-- `saturation_protector_buffer::Ring::slots` meets its contract: there are no more slots than the storage has. Assumes nothing.
use Rattle.std.proofs.Common.{◌≡◌, ℕ, ◌∙◌, ap, sym, length, take, min}
use Rattle.std.proofs.lemmas.List.{take_min}
use borrow.Author.Rules.{rules}
use Rattle.saturation_protector_buffer.specs.Ring.{largest}
use Rattle.saturation_protector_buffer.proofs.Ring.slots.Goals as goal

pub returns : goal.returns
returns c =
    let r = c.args.self.now in
    let long : length r.stored ≡ largest = search rules in
    ap (λ (k : ℕ). take k r.stored) (c.min.ensures ∙ ap (min r.capacity) (sym long)) ∙ take_min r.capacity r.stored
