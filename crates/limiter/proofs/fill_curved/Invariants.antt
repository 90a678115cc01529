-- `limiter::fill_curved` meets its contract. The invariant: what is done, then the curve on what is left. Assumes nothing.
use mathlib.Core.Path.{◌≡◌}
use mathlib.Core.List.{◌++◌}
use lib.ListN.{length, take, drop}
use Rattle.limiter.specs.Factors.{curved}
use Rattle.limiter.proofs.fill_curved.Given as goal

abbrev pub invariant-loop-j : goal.invariant-loop-j
invariant-loop-j l = take l.j l.part ++ curved (length l.initial.part) l.start l.end l.j (length (drop l.j l.part)) ≡ curved (length l.initial.part) l.start l.end 0 (length l.initial.part)
