-- `strip_format::put_floats` meets its contract. The invariant: the bytes of the floats so far stand at the place, and the others are as they were.
-- Assumes nothing.
use Rattle.std.proofs.Common.{◌≡◌, ◌+◌, ◌*◌, ◌++◌, take, drop}
use Rattle.strip_format.specs.Steps.{floats_bytes}
use Rattle.strip_format.proofs.put_floats.Given as goal

abbrev pub invariant-loop-x : goal.invariant-loop-x
invariant-loop-x l = record {
  place : l.place ≡ l.at + 4 * l.x-index;
  out : l.out ≡ take l.at l.initial.out ++ floats_bytes (take l.x-index l.x-items) ++ drop l.place l.initial.out;
}
