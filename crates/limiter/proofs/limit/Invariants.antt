-- `limiter::limit` meets its contract. The invariant: what is done, then the definition on what is left, by the factors that are left. Assumes nothing.
use Rattle.std.proofs.Common.{◌≡◌, ◌++◌, take, drop}
use Rattle.limiter.specs.Factors.{limited}
use Rattle.limiter.proofs.limit.Given as goal

abbrev pub invariant-loop-i : goal.invariant-loop-i
invariant-loop-i l = take l.i l.part ++ limited (drop l.i l.by) (drop l.i l.part) ≡ limited l.by l.initial.part
