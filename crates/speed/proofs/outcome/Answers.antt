-- `speed::outcome` is safe and ends: eight channels fit into the buffer. Assumes nothing.
use Rattle.std.proofs.Common.{◌≡◌, ℕ, ◌*◌, ◌≤◌, List, length, take, sym, refl, lt_of_le_of_lt, mul-le-mul, arith, lit<, length-take}
use lib.Ieee.{Float}
use Rattle.speed.proofs.outcome.Goals as goal

start-long : (n : ℕ) (xs : List Float) → n ≤ 3840 → length xs ≡ 3840 → length (take n xs) ≡ n
start-long n xs h l = let t = length-take n xs in omega arith

pub overflow_mul-frame : goal.overflow_mul-frame
overflow_mul-frame c = record { fits = lt_of_le_of_lt {m = 3840} (mul-le-mul c.requires.0 c.requires.1) (lit< tt) }

pub slice_bounds-frame-end : goal.slice_bounds-frame-end
slice_bounds-frame-end c = mul-le-mul c.requires.0 c.requires.1

pub slice_bounds-run-end : goal.slice_bounds-run-end
slice_bounds-run-end c = sym (start-long (c.args.channels * c.args.samples) _ (mul-le-mul c.requires.0 c.requires.1) refl)
