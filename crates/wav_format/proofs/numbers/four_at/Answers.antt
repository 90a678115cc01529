-- `wav_format::numbers::four_at` meets its contract: each half is below 65536. Assumes nothing.
use Rattle.std.proofs.Common.{arith}
use Rattle.wav_format.specs.Laws.Bytes.{four_bytes}
use Rattle.wav_format.proofs.numbers.four_at.Goals as goal

pub two_at-low-requires : goal.two_at-low-requires
two_at-low-requires c = omega arith

pub overflow_add-at : goal.overflow_add-at
overflow_add-at c = omega arith

pub two_at-high-requires : goal.two_at-high-requires
two_at-high-requires c = omega arith

pub overflow_mul-result : goal.overflow_mul-result
overflow_mul-result c = omega arith

pub overflow_add-result : goal.overflow_add-result
overflow_add-result c = omega arith

pub returns : goal.returns
returns c =
    four_bytes c.args.bytes.now c.args.at c.two_at-low.ensures c.two_at-high.ensures
