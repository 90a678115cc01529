-- What it is to lie in a range. A NaN lies in none.
-- Definitions only.
use Rattle.std.specs.Prelude.{Bool, ◌&&◌, Float}
use Rattle.std.specs.Float.Ieee.{le, lt}

-- from low to high, both ends included
abbrev pub closed : Float → Float → Float → Bool
closed low x high = le low x && le x high

-- above low and below high
abbrev pub inside : Float → Float → Float → Bool
inside low x high = lt low x && lt x high

-- above low, to high
abbrev pub above : Float → Float → Float → Bool
above low x high = lt low x && le x high
