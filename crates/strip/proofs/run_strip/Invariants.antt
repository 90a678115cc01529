-- `strip::run_strip` is safe: the buffers are as long as they were. Assumes nothing.
use Rattle.std.proofs.Common.{◌≡◌, length}
use Rattle.strip.proofs.run_strip.Given as goal

abbrev pub invariant-loop : goal.invariant-loop
invariant-loop l = record { block : length l.block ≡ 512; out : length l.out ≡ 65536 }
