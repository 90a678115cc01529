-- `wav_format::numbers::put_two` meets its contract: two bytes are stored, the least significant first. Assumes nothing.
use Rattle.std.proofs.Common.{◌∙◌}
use Rattle.wav_format.specs.Laws.Bytes.{two_of, stored}
use Rattle.wav_format.proofs.numbers.put_two.Goals as goal

pub returns : goal.returns
returns c =
    let a = c.args in
    stored a.out.now _ a.at 2 a.n (c.copy_from_slice.ensures.after ∙ c.to_le_bytes.ensures ∙ two_of a.n)
