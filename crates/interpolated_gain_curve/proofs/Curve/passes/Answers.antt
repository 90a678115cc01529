-- `interpolated_gain_curve::Curve::passes` meets its contract: a duration that is not below 0 is not negative. Assumes nothing.
use Rattle.std.proofs.Common.{◌≡◌, ℤ, pos, negsuc, refl, w64, to_z, of_z, rules}
use lib.Dec.{leb-zero}
use lib.Signed.{le_z}
use Rattle.interpolated_gain_curve.specs.Curve.{passes, not_negative}
use Rattle.interpolated_gain_curve.proofs.Curve.passes.Goals as goal

from-nought : (d : ℤ) → le_z (pos 0) d ≡ not_negative d
unfolding not_negative
from-nought (pos n) = leb-zero n
from-nought (negsuc n) = refl

pub returns : goal.returns
unfolding passes
returns c =
    let d = c.args.self.duration in
    let back : to_z w64 (of_z w64 d) ≡ d = search rules in
    rw (back, from-nought d)
