-- `limiter::fill_factors` meets its contract, by the laws of `Filling`. Assumes nothing.
use Prim.Native.Nat.{◌*◌}
use Rattle.limiter.proofs.Filling.{Filling}
use Rattle.limiter.proofs.fill_factors.Given as goal

abbrev pub invariant-loop-k : goal.invariant-loop-k
invariant-loop-k l = Filling l.part l.carried l.gains l.by (l.k * l.part) l.k
