-- `frames::is_each` meets its contract. The invariant: what was found so far, and the test of what is left, is the test of the whole. Assumes nothing.
use Rattle.std.proofs.Common.{◌≡◌, Bool, drop, Float}
use Rattle.std.specs.Prelude.{◌&&◌, T}
use Rattle.std.specs.Float.{binary32}
use Rattle.std.specs.Float.Ieee.{fits}
use Rattle.frames.specs.Samples.{within, all_within}
use Rattle.frames.proofs.is_each.Given as goal

abbrev pub invariant-loop-x : goal.invariant-loop-x
invariant-loop-x g l =
    (bound : Float) → ((x : Float) (r : Bool) → T (fits binary32 x) → goal.F-post g l.test x r → r ≡ within bound x)
    → l.ok && all_within bound (drop l.x-index l.frame) ≡ all_within bound l.frame
