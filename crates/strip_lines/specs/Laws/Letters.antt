-- Each of the four kinds of line has one letter, and no two have the same. Laws.
-- Assumes nothing.
use Rattle.std.specs.Prelude.{◌≡◌, refl, cond, List, [], ◌∷◌, ℕ, zero, suc, ◌≤◌, ◌<◌, eqb, length}
use Rattle.std.proofs.Common.{sym, ap, ◌∙◌, arith, ne_eqb}
use Rattle.chain.specs.Answer.{said}
use Rattle.chain.specs.declared.Answer.TheVariants.{NonSpeech, Waiting, Publishing}
use Rattle.strip_lines.specs.Lines.{gap_kind, number_of, letter}
use Rattle.strip_lines.specs.declared.Kind.{Kind}
use Rattle.strip_lines.specs.declared.Kind.TheVariants.{Frame, Gap}

-- N W P G, in this order
pub four_letters : (letter 0 ≡ 78 ∷ []) × (letter 1 ≡ 87 ∷ []) × (letter 2 ≡ 80 ∷ []) × (letter gap_kind ≡ 71 ∷ [])
unfolding letter
four_letters = (refl, refl, refl, refl)

-- Each of the four has one letter.
pub one_letter : (kind : ℕ) → kind ≤ gap_kind → length (letter kind) ≡ 1
unfolding letter
one_letter zero h = refl
one_letter (suc zero) h = refl
one_letter (suc (suc zero)) h = refl
one_letter (suc (suc (suc zero))) h = refl
one_letter (suc (suc (suc (suc n)))) h = absurd (omega arith)

-- A number above 3 has none.
pub no_letter : (kind : ℕ) → gap_kind < kind → letter kind ≡ []
unfolding letter
no_letter kind h =
    rw
    (ne_eqb kind 0 (λ e. omega arith), ne_eqb kind 1 (λ e. omega arith), ne_eqb kind 2 (λ e. omega arith), ne_eqb kind gap_kind (λ e. omega arith))

-- the number that a letter stands for
numbered : List ℕ → ℕ
numbered [] = 4
numbered (b ∷ bs) = cond (eqb b 78) 0 (cond (eqb b 87) 1 (cond (eqb b 80) 2 gap_kind))

numbered_back : (kind : ℕ) → kind ≤ gap_kind → numbered (letter kind) ≡ kind
unfolding letter numbered
numbered_back zero h = refl
numbered_back (suc zero) h = refl
numbered_back (suc (suc zero)) h = refl
numbered_back (suc (suc (suc zero))) h = refl
numbered_back (suc (suc (suc (suc n)))) h = absurd (omega arith)

-- No two of the four have the same.
pub letters_differ : (m n : ℕ) → m ≤ gap_kind → n ≤ gap_kind → letter m ≡ letter n → m ≡ n
letters_differ m n h k e = sym (numbered_back m h) ∙ ap numbered e ∙ numbered_back n k

-- What a line is of is one of the four.
pub kind_below : (kind : Kind) → number_of kind ≤ gap_kind
unfolding said
kind_below (Frame NonSpeech) = omega arith
kind_below (Frame (Waiting missing)) = omega arith
kind_below (Frame (Publishing level headroom)) = omega arith
kind_below Gap = omega arith
