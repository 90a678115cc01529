-- `bits::is_nan` meets its contract: the two tests are those of the definition. Assumes nothing.
use mathlib.Core.Path.{refl}
use lib.Ieee.{nan_bits}
use Rattle.bits.proofs.is_nan.Goals as goal

pub returns : goal.returns
unfolding nan_bits
returns c = refl
