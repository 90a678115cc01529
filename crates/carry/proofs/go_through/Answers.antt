-- `carry::go_through` is safe: what a block puts out has room in the buffer. Assumes nothing.
use Rattle.std.proofs.Common.{◌≡◌, ◌≤◌, List, ℕ, arith, sym, ap, Result, Ok, length-take-le}
use Rattle.units.specs.declared.refusals.Refusal.{Refusal}
use Rattle.strip_carry.specs.Run as Running
use Rattle.strip_carry.specs.Seen.{taken_seen}
use Rattle.strip_carry.specs.Laws.Room.{taken_fits}
use Rattle.strip_carry.specs.declared.Run.{Run}
use Rattle.strip_carry.specs.declared.Taken.{Taken}
use Rattle.carry.proofs.go_through.Goals as goal

-- the lines have room in the buffer
fits : (r : Run) (block : List ℕ) (space : ℕ) (answer : Result Taken Refusal) (t : Taken) → taken_seen r answer ≡ Running.taken_of r block space → answer ≡ Ok t → t.length ≤ space
fits r block space answer t e h =
    let told = ap (λ (x : Result Taken Refusal). (taken_seen r x).length) h in
    omega (arith, told, ap (λ (x : Running.Taken). x.length) e, taken_fits r block space)

pub slice_bounds-out-end : goal.slice_bounds-out-end
slice_bounds-out-end c = omega (arith, fits _ _ _ _ _ c.take.ensures.value c.in-Ok.is, c.loop.invariant.out)

pub slice_bounds-write_all-end : goal.slice_bounds-write_all-end
slice_bounds-write_all-end c = sym (length-take-le _ _ (omega (arith, fits _ _ _ _ _ c.take.ensures.value c.in-Ok.is, c.loop.invariant.out)))
