-- What a promise that is an equation is worth. A law.
-- Assumes nothing.
use Rattle.std.specs.Prelude.{◌≡◌}
use Rattle.std.proofs.Common.{sym, ◌∙◌}

-- A promise that is an equation leaves one outcome: whatever two results both equal what the definition says are the same.
pub one_outcome {ℓ} : {A : Type ℓ} {d : A} (r s : A) → r ≡ d → s ≡ d → r ≡ s
one_outcome r s p q = p ∙ sym q
