-- `wav_format::head::following_bytes` meets its contract. Assumes nothing.
use Rattle.std.proofs.Common.{arith}
use Rattle.wav_format.specs.Head.{following}
use Rattle.wav_format.proofs.head.following_bytes.Goals as goal

pub returns-then-all-le4294967295 : goal.returns-then-all-le4294967295
unfolding following
returns-then-all-le4294967295 c = omega arith

pub returns-else-all-le4294967295 : goal.returns-else-all-le4294967295
unfolding following
returns-else-all-le4294967295 c = omega arith
