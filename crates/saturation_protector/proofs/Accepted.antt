-- What a call knows of a protector once it is not refused. A law.
-- Assumes nothing.
use Rattle.std.proofs.Common.{◌≡◌, true, sym}
use Rattle.std.specs.Prelude.{Ok}
use Rattle.units.specs.Replies.{refusal}
use Rattle.units.specs.Handed.{handed}
use Rattle.units.specs.Laws.Replies.{none_refused}
use Rattle.units.specs.Laws.Handed.{handed_ok}
use Rattle.saturation_protector.specs.Protector.{passes}
use Rattle.saturation_protector.specs.declared.Protector.{Protector}

-- A protector that is handed back passes, and it is the one that came in.
pub accepted : (s r : Protector) → Ok r ≡ handed (refusal true (passes s) true true) s → (passes s ≡ true) × (s ≡ r)
accepted s r h =
    let k = handed_ok (refusal true (passes s) true true) s r (sym h) in
    ((none_refused true (passes s) true true k.0).1, k.1)
