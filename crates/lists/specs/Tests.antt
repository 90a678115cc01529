-- Tests that all have to pass, as `a && b && c`: what each shows where all pass, and that all pass where each does. A definition and its laws.
-- Assumes nothing.
use Rattle.std.specs.Prelude.{◌≡◌, Bool, true, false, ◌&&◌, List, [], ◌∷◌, ℕ, zero, suc, T, get_or}
use Rattle.std.proofs.Common.{sym, subst}
use Rattle.std.specs.Float.Ieee.Bits.{is_true}

-- t, and each of the others
abbrev pub and_all : Bool → List Bool → Bool
and_all t [] = t
and_all t (u ∷ us) = and_all (t && u) us

-- all of these pass, grouped from the left as `&&` groups them: `a ∷ b ∷ c ∷ []` is `a && b && c`
abbrev pub all_pass : List Bool → Bool
all_pass [] = true
all_pass (t ∷ ts) = and_all t ts

none_after : (ts : List Bool) → T (and_all false ts) → ⊥
none_after [] h = h
none_after (t ∷ ts) h = none_after ts h

from : (t : Bool) (ts : List Bool) → T (and_all t ts) → (i : ℕ) → T (get_or (t ∷ ts) i true)
from t [] h zero = h
from t [] h (suc i) = tt
from true (u ∷ us) h zero = tt
from true (u ∷ us) h (suc i) = from u us h i
from false (u ∷ us) h i = absurd (none_after us h)

-- Where all pass, each does: that at place i, counted from 0.
pub each_passed : (ts : List Bool) → T (all_pass ts) → (i : ℕ) → T (get_or ts i true)
each_passed [] h i = tt
each_passed (t ∷ ts) h i = from t ts h i

-- The same of tests that are known to be true. Where each of them is asked for by its statement, as in a record, `_ ∷ _ ∷ []` is enough of a list.
pub each_of : (ts : List Bool) → all_pass ts ≡ true → (i : ℕ) → get_or ts i true ≡ true
each_of ts h i = is_true (get_or ts i true) (each_passed ts (subst T (sym h) tt) i)

-- Where each passes, all do: `p and q and r` of p, q and r.
infixl 35 ◌and◌
pub ◌and◌ : {a b : Bool} → a ≡ true → b ≡ true → a && b ≡ true
p and q = rw (p, q)
