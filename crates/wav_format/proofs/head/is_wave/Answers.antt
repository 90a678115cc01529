-- `wav_format::head::is_wave` meets its contract. Assumes nothing.
use Rattle.std.proofs.Common.{arith}
use Rattle.wav_format.specs.Head.{is_wave}
use Rattle.wav_format.proofs.head.is_wave.Goals as goal

pub four_at-requires : goal.four_at-requires
four_at-requires c = omega arith

pub four_at-requires-2 : goal.four_at-requires-2
four_at-requires-2 c = omega arith

pub returns : goal.returns
unfolding is_wave
returns c = rw (c.four_at.ensures, c.four_at-2.ensures)
