-- What a reply shows of the four tests that it rests on. Laws.
-- Assumes nothing.
use Rattle.std.specs.Prelude.{◌≡◌, refl, Bool, true, false}
use Rattle.std.proofs.Common.{arith}
use Rattle.units.specs.Replies.{done, refusal}

-- Where nothing is refused, each test has passed: the replies 1, 4, 2 and 3 are not 0.
pub none_refused : (shape setting figure sample : Bool)
    → refusal shape setting figure sample ≡ done → (shape ≡ true) × (setting ≡ true) × (figure ≡ true) × (sample ≡ true)
unfolding refusal
none_refused true true true true h = (refl, refl, refl, refl)
none_refused true true true false h = absurd (omega arith)
none_refused true true false sample h = absurd (omega arith)
none_refused true false figure sample h = absurd (omega arith)
none_refused false setting figure sample h = absurd (omega arith)

-- Where one of the first three fails, the samples have no say.
pub refused_first : (shape setting figure sample : Bool) → (refusal shape setting figure true ≡ done → ⊥) → refusal shape setting figure sample ≡ refusal shape setting figure true
unfolding refusal
refused_first true true true sample n = absurd (n refl)
refused_first true true false sample n = refl
refused_first true false figure sample n = refl
refused_first false setting figure sample n = refl
