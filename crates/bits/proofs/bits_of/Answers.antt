-- `bits::bits_of` meets its contract: a float that equals itself is no NaN. Assumes nothing.
use mathlib.Core.Path.{◌≡◌, sym, subst}
use mathlib.Core.Bool.{true, not}
use lib.Dec.{T}
use lib.Ieee.{Float, nan, inf, fin, eq, is_nan}
use Rattle.bits.specs.Floats.{pattern_of}
use Rattle.bits.proofs.bits_of.Goals as goal

no_nan : (x : Float) → eq x x ≡ true → T (not (is_nan x))
unfolding eq is_nan
no_nan nan h = subst T (sym h) tt
no_nan (inf s) h = tt
no_nan (fin s m e) h = tt

pub float_to_bits-result : goal.float_to_bits-result
float_to_bits-result c = no_nan c.args.x c.if-x.true

pub returns-then-x : goal.returns-then-x
unfolding pattern_of
returns-then-x c = rw c.if-x.true

pub returns-else-x : goal.returns-else-x
unfolding pattern_of
returns-else-x c = rw c.if-x.false
