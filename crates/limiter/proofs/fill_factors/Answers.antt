-- `limiter::fill_factors` meets its contract, by the laws of `Filling`. Assumes nothing.
use mathlib.Core.Path.{◌≡◌, sym, ap, ◌∙◌}
use Prim.Native.Nat.{ℕ, ◌+◌, ◌-◌, ◌*◌}
use native.Mathlib.Omega.{arith}
use borrow.Author.Rules.{rules}
use lib.ListN.{length, take, drop, get_or, length-take, length-drop}
use lib.Ieee.{nan}
use Rattle.limiter.specs.Factors.{first_part, straight}
use Rattle.limiter.proofs.Filling.{filling_at, filling_begins, filling_room, filling_goes_on, filling_ends}
use Rattle.limiter.proofs.fill_factors.Goals as goal

pub slice_bounds-fill_first-end : goal.slice_bounds-fill_first-end
slice_bounds-fill_first-end c = omega (arith, c.requires.0)

pub slice_bounds-fill_first-end-2 : goal.slice_bounds-fill_first-end-2
slice_bounds-fill_first-end-2 c = simp length-take (omega (arith, c.requires.0))

pub fill_first-requires : goal.fill_first-requires
fill_first-requires c = simp length-take (omega (arith, c.requires.1))

pub loop-k-init : goal.loop-k-init
loop-k-init c =
    let a = c in
    let made = c.fill_first in
    let l : length (take a.args.part a.args.by.now) ≡ a.args.part = simp length-take (omega (arith, a.requires.0)) in
    filling_at a.args.part a.args.carried a.args.gains (search rules)
    (filling_begins a.args.part a.args.carried a.args.gains (search rules) a.args.by.now made.new.part a.requires.0 (made.auto.part ∙ l)
    (made.ensures ∙ ap (λ (z : ℕ). first_part z a.args.carried (get_or a.args.gains 0 nan)) l))

pub overflow_mul-from : goal.overflow_mul-from
overflow_mul-from c =
    let room = filling_room c.args.part c.args.carried c.args.gains (search rules) c.loop-k.invariant c.loop-k-test.true in
    record { fits = omega (arith, room, c.loop-k.invariant.long, c.requires.1) }

pub overflow_add-from : goal.overflow_add-from
overflow_add-from c =
    let room = filling_room c.args.part c.args.carried c.args.gains (search rules) c.loop-k.invariant c.loop-k-test.true in
    record { fits = omega (arith, room, c.loop-k.invariant.long, c.requires.1) }

pub slice_bounds-fill_straight-end : goal.slice_bounds-fill_straight-end
slice_bounds-fill_straight-end c = filling_room c.args.part c.args.carried c.args.gains (search rules) c.loop-k.invariant c.loop-k-test.true

pub fill_straight-requires : goal.fill_straight-requires
fill_straight-requires c = simp (length-take, length-drop) (omega (arith, c.requires.1))

pub loop-k-preserved : goal.loop-k-preserved
loop-k-preserved c =
    let a = c in
    let loop = c.loop-k in
    let made = c.fill_straight in
    let from = loop.k * a.args.part in
    let room = filling_room a.args.part a.args.carried a.args.gains (search rules) loop.invariant c.loop-k-test.true in
    let m : from + a.args.part - from ≡ a.args.part = omega arith in
    let l : length (take (from + a.args.part - from) (drop from loop.by)) ≡ a.args.part = simp (length-take, length-drop) (omega (arith, room)) in
    filling_at a.args.part a.args.carried a.args.gains (search rules)
    (filling_goes_on a.args.part a.args.carried a.args.gains (search rules) loop.invariant c.loop-k-test.true m (made.auto.part ∙ l)
    (made.ensures ∙ ap (λ (z : ℕ). straight z (get_or a.args.gains (loop.k - 1) nan) (get_or a.args.gains loop.k nan)) l))

pub shape_of-by : goal.shape_of-by
shape_of-by c = c.loop-k.invariant.long ∙ sym c.requires.0

pub returns : goal.returns
returns c =
    let a = c in
    filling_ends a.args.part a.args.carried a.args.gains (search rules) c.loop-k.invariant c.loop-k-test.false
