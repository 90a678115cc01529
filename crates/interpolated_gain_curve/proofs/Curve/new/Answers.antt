-- `interpolated_gain_curve::Curve::new` meets its contract. Assumes nothing.
use Rattle.std.proofs.Common.{rules}
use Rattle.interpolated_gain_curve.specs.Curve.{fresh}
use Rattle.interpolated_gain_curve.proofs.Curve.new.Goals as goal

pub returns : goal.returns
unfolding fresh
returns c = search rules
