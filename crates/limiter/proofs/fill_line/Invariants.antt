-- `limiter::fill_line` meets its contract. The invariant: what is done, then the line on what is left. Assumes nothing.
use mathlib.Core.Path.{◌≡◌}
use mathlib.Core.List.{◌++◌}
use lib.ListN.{length, take, drop}
use Rattle.limiter.specs.Factors.{line}
use Rattle.limiter.proofs.fill_line.Given as goal

abbrev pub invariant-loop-j : goal.invariant-loop-j
invariant-loop-j l = take l.j l.part ++ line l.start l.step l.j (length (drop l.j l.part)) ≡ line l.start l.step 0 (length l.initial.part)
