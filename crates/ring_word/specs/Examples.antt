-- What some words ask for.
use Rattle.std.specs.Prelude.{◌≡◌, refl, true, false, List, [], ◌∷◌, ℕ}
use Rattle.ring_word.specs.Words.{asked_by}

-- `--ring`
abbrev pub ring : List ℕ
ring = 45 ∷ 45 ∷ 114 ∷ 105 ∷ 110 ∷ 103 ∷ []

-- `--ring 1` and `--ring 16`
pub one : asked_by ring (49 ∷ []) ≡ record { ok = true; capacity = 1; from = 3 }
unfolding asked_by
one = refl

pub sixteen : asked_by ring (49 ∷ 54 ∷ []) ≡ record { ok = true; capacity = 16; from = 3 }
unfolding asked_by
sixteen = refl

-- `--ring 0`, `--ring 17`, `--ring x`, `--ring 116` and `--ring` alone cannot be had.
pub none_of_these : ((asked_by ring (48 ∷ [])).ok ≡ false)
    × ((asked_by ring (49 ∷ 55 ∷ [])).ok ≡ false)
    × ((asked_by ring (120 ∷ [])).ok ≡ false)
    × ((asked_by ring (49 ∷ 49 ∷ 54 ∷ [])).ok ≡ false)
    × ((asked_by ring []).ok ≡ false)
unfolding asked_by
none_of_these = (refl, refl, refl, refl, refl)

-- Without a first word it is 4.
pub without : (second : List ℕ) → asked_by [] second ≡ record { ok = true; capacity = 4; from = 1 }
unfolding asked_by
without second = refl
