-- `frames::is_shape` meets its contract. The product is taken of sizes that pass, so it is at most 3840. Assumes nothing.
use native.Mathlib.Nat.{mul-le-mul, lt_of_le_of_lt}
use lib.Dec.{lit<}
use Rattle.frames.specs.Facts.{sizes_facts}
use Rattle.frames.specs.Shape.{is_shape}
use Rattle.frames.proofs.is_shape.Goals as goal

pub overflow_mul-result : goal.overflow_mul-result
overflow_mul-result c =
    let known = sizes_facts c.args.channels c.args.samples (rw (← c.is_samples.ensures) c.if-small.true) in
    record { fits = lt_of_le_of_lt {m = 3840} (mul-le-mul known.eight known.each.most) (lit< tt) }

pub returns-then-small : goal.returns-then-small
unfolding is_shape
returns-then-small c = rw (← c.is_samples.ensures, c.if-small.true)

pub returns-else-small : goal.returns-else-small
unfolding is_shape
returns-else-small c = rw (← c.is_samples.ensures, c.if-small.false)
