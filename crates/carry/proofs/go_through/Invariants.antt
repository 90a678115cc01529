-- `carry::go_through` is safe: the buffers are as long as they were. Assumes nothing.
use Rattle.std.proofs.Common.{◌≡◌, length}
use Rattle.carry.proofs.go_through.Given as goal

abbrev pub invariant-loop : goal.invariant-loop
invariant-loop l = record { block : length l.block ≡ 2048; out : length l.out ≡ 65536 }
