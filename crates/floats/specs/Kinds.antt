-- What kind of number a float is, and the number without its sign.
-- Definitions only.
use Rattle.std.specs.Prelude.{Bool, false, ◌&&◌, eqb, Float}
use Rattle.std.specs.Float.{nan, inf, fin}

-- the same number without its sign
unfoldable pub magnitude : Float → Float
magnitude nan = nan
magnitude (inf s) = inf false
magnitude (fin s m e) = fin false m e

-- the zero with a sign
unfoldable pub is_negative_zero : Float → Bool
is_negative_zero nan = false
is_negative_zero (inf s) = false
is_negative_zero (fin s m e) = s && eqb m 0
