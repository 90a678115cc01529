-- `loudness::magnitude` meets its contract. Assumes nothing.
use Rattle.std.proofs.Common.{unsigned_abs, ap, ◌∙◌, arith}
use Rattle.std.proofs.lemmas.Int.{of_z-to_z}
use Rattle.std.specs.Int.{w16, cast_signed, cast_unsigned}
use Rattle.loudness.specs.Laws.Sound.{signed_magnitude}
use Rattle.loudness.proofs.magnitude.Goals as goal

pub returns-clause-value : goal.returns-clause-value
returns-clause-value c =
    c.unsigned_abs.ensures.value
    ∙ ap (λ z. unsigned_abs (cast_signed w16 (cast_unsigned w16 z))) c.cast_signed.ensures
    ∙ ap (λ n. unsigned_abs (cast_signed w16 n)) (of_z-to_z w16 c.args.n (omega arith)) ∙ signed_magnitude c.args.n (omega arith)
