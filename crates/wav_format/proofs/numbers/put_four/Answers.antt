-- `wav_format::numbers::put_four` meets its contract: four bytes are stored, the least significant first. Assumes nothing.
use Rattle.std.proofs.Common.{◌∙◌}
use Rattle.wav_format.specs.Laws.Bytes.{four_of, stored}
use Rattle.wav_format.proofs.numbers.put_four.Goals as goal

pub returns : goal.returns
returns c =
    let a = c.args in
    stored a.out.now _ a.at 4 a.n (c.copy_from_slice.ensures.after ∙ c.to_le_bytes.ensures ∙ four_of a.n)
