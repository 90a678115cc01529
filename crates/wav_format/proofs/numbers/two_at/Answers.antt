-- `wav_format::numbers::two_at` meets its contract. Assumes nothing.
use Rattle.std.proofs.Common.{◌∙◌}
use Rattle.wav_format.specs.Laws.Bytes.{two_read}
use Rattle.wav_format.proofs.numbers.two_at.Goals as goal

pub returns : goal.returns
returns c =
    c.from_le_bytes.ensures ∙ two_read c.args.bytes.now c.args.at c.byte_at-low.ensures c.byte_at-high.ensures
