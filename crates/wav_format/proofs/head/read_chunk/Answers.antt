-- `wav_format::head::read_chunk` meets its contract. Assumes nothing.
use Rattle.std.proofs.Common.{arith}
use Rattle.wav_format.specs.Head.{chunk_of}
use Rattle.wav_format.proofs.head.read_chunk.Goals as goal

pub four_at-requires : goal.four_at-requires
four_at-requires c = omega arith

pub four_at-requires-2 : goal.four_at-requires-2
four_at-requires-2 c = omega arith

pub returns : goal.returns
unfolding chunk_of
returns c = rw (c.four_at.ensures, c.four_at-2.ensures)
