-- `strip::take_block` is safe: the lines of a block have room in the buffer. Assumes nothing.
use Rattle.std.proofs.Common.{◌≡◌, ◌≤◌, List, ℕ, arith, sym, ap, ◌∙◌, subst, Result, Ok, length-take-le}
use Rattle.units.specs.declared.refusals.Refusal.{Refusal}
use Rattle.strip_run.specs.Run as Running
use Rattle.strip_run.specs.Run.{taken_told}
use Rattle.strip_run.specs.Laws.Room.{taken_fits}
use Rattle.strip_run.specs.declared.Run.{Run}
use Rattle.strip_run.specs.declared.Taken.{Taken}
use Rattle.strip.proofs.take_block.Goals as goal

-- the lines have room in the buffer
fits : (r : Run) (block : List ℕ) (space : ℕ) (answer : Result Taken Refusal) (t : Taken) → taken_told r answer ≡ Running.taken_of r block space → answer ≡ Ok t → t.length ≤ space
unfolding taken_told
fits r block space answer t e h =
    subst (λ (n : ℕ). n ≤ space) (sym (ap (λ (x : Running.Taken). x.length) e) ∙ ap (λ (x : Result Taken Refusal). (taken_told r x).length) h) (taken_fits r block space)

pub slice_bounds-write_all-end : goal.slice_bounds-write_all-end
slice_bounds-write_all-end c = omega (arith, fits _ _ _ _ _ c.take.ensures.value c.in-Ok.is)

pub slice_bounds-write_all-end-in-Ok : goal.slice_bounds-write_all-end-in-Ok
slice_bounds-write_all-end-in-Ok c = sym (length-take-le _ _ (omega (arith, fits _ _ _ _ _ c.take.ensures.value c.in-Ok.is)))
