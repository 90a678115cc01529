-- A test of each entry of a table, with its place. A definition.
use Rattle.std.specs.Prelude.{Bool, true, false, List, [], ◌∷◌, ℕ, suc}

-- both pass; the second is not looked at where the first fails
abbrev pub both : Bool → Bool → Bool
both true b = b
both false b = false

-- the test f passes at each entry of the list and its place, counted from i
abbrev pub every {ℓ} : {A : Type ℓ} → (ℕ → A → Bool) → ℕ → List A → Bool
every f i [] = true
every f i (x ∷ xs) = both (f i x) (every f (suc i) xs)
