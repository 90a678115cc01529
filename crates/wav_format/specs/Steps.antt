-- The code's own words on the way. Definitions only.
use Rattle.std.specs.Prelude.{ℕ, List, [], ◌∷◌, ◌++◌}
use Rattle.wav_format.specs.Bytes.{little}

-- numbers of four bytes, one after the other
unfoldable pub in_fours : List ℕ → List ℕ
in_fours [] = []
in_fours (n ∷ ns) = little 4 n ++ in_fours ns
