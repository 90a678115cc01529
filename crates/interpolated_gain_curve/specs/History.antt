-- A history of levels: the promised look-up, one level after the other. Definitions only.
use Rattle.std.specs.Prelude.{ℕ, ◌+◌, Bool, cond, ◌&&◌, List, [], ◌∷◌, ◌==◌, slice_index, Float}
use Rattle.units.specs.Figures.{curve_level}
use Rattle.interpolated_gain_curve.specs.Gain.{region_of}
use Rattle.interpolated_gain_curve.specs.Curve.{looked}
use Rattle.interpolated_gain_curve.specs.declared.Curve.{Curve}

-- the state after the levels, refused ones among them
unfoldable pub after : Curve → List Float → Curve
unfolding looked
after c [] = c
after c (level ∷ levels) = after (looked c level).curve levels

-- an accepted level, in this region
unfoldable pub is_in : ℕ → Float → Bool
unfolding region_of
is_in region level = curve_level level && region_of level == region

-- how many of the levels are
unfoldable pub times : ℕ → List Float → ℕ
unfolding is_in
times region [] = 0
times region (level ∷ levels) = cond (is_in region level) 1 0 + times region levels

-- the count that a state keeps of a region, by the region's number
unfoldable pub count : ℕ → Curve → ℕ
count region c = slice_index (c.identity ∷ c.knee ∷ c.limiter ∷ c.saturation ∷ []) region
