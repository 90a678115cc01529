-- `wav_format::samples::sound_of` meets its contract. Assumes nothing.
use Rattle.std.proofs.Common.{ap, ◌∙◌, arith}
use Rattle.std.proofs.lemmas.Int.{of_z-to_z}
use Rattle.std.specs.Int.{w16, cast_signed, cast_unsigned}
use Rattle.std.specs.Float.{binary32}
use Rattle.std.specs.Float.Ieee.{of_int}
use Rattle.wav_format.specs.Laws.Samples.{signed_sound}
use Rattle.wav_format.proofs.samples.sound_of.Goals as goal

pub returns : goal.returns
returns c =
    ap (λ z. of_int binary32 (cast_signed w16 (cast_unsigned w16 z))) c.cast_signed.ensures
    ∙ ap (λ n. of_int binary32 (cast_signed w16 n)) (of_z-to_z w16 c.args.n (omega arith)) ∙ signed_sound c.args.n (omega arith)
