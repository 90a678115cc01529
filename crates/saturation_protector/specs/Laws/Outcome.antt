-- What the promises are worth: each is an equation of the whole answer, so it leaves one outcome. Laws.
-- Assumes nothing.
use Rattle.std.specs.Prelude.{◌≡◌, ℕ, Float}
use Rattle.lists.specs.Promise.{one_outcome}
use Rattle.units.specs.Handed.{handed}
use Rattle.saturation_protector.specs.Protector.{passes}
use Rattle.saturation_protector.specs.Calls.{made, stepped, gap, reset, told}
use Rattle.saturation_protector.specs.declared.Protector.{Protector}

-- whatever two results both are what d says are the same
abbrev pub Once {ℓ} : {A : Type ℓ} → A → Type ℓ
Once {A} d = (r s : A) → r ≡ d → s ≡ d → r ≡ s

-- Any two outcomes of new, passes, analyze, gap, reset and headroom_db that meet the promise are the same: reply, state, figure and all.
pub one_answer : (s : Protector) (initial : Float) (t n : ℕ) (p peak level : Float)
    → Once (made initial t n) × Once (passes s) × Once (stepped s p peak level) × Once (gap s) × Once (reset s) × Once (told s)
one_answer s initial t n p peak level = (one_outcome, one_outcome, one_outcome, one_outcome, one_outcome, one_outcome)

-- So are any two that they hand back.
pub one_result : (s : Protector) (initial : Float) (t n : ℕ) (p peak level : Float)
    → Once (handed (made initial t n).reply (made initial t n).protector)
    × Once (handed (stepped s p peak level).reply (stepped s p peak level).protector)
    × Once (handed (gap s).reply (gap s).protector)
    × Once (handed (reset s).reply (reset s).protector)
    × Once (handed (told s).reply (told s).headroom)
one_result s initial t n p peak level = (one_outcome, one_outcome, one_outcome, one_outcome, one_outcome)
