-- Larger, smaller and clamp: document 01's "keep the first operand when equal".
-- Definitions only.
use Rattle.std.specs.Prelude.{cond, Float}
use Rattle.std.specs.Float.Ieee.{lt}

unfoldable pub larger : Float → Float → Float
larger x y = cond (lt x y) y x

unfoldable pub smaller : Float → Float → Float
smaller x y = cond (lt y x) y x

-- brought up to the lower end, and then down to the upper one
unfoldable pub clamp : Float → Float → Float → Float
unfolding larger smaller
clamp x low high = smaller (larger x low) high
