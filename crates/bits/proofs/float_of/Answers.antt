-- `bits::float_of` meets its contract: bits that are no NaN's make a float. Assumes nothing.
use mathlib.Core.Path.{sym, ◌∙◌}
use lib.Ieee.{of_bits, div}
use Rattle.bits.specs.Floats.{float_of}
use Rattle.bits.proofs.float_of.Goals as goal

pub float_from_bits-result : goal.float_from_bits-result
float_from_bits-result c = rw (sym c.is_nan.ensures ∙ c.if-is_nan.false) tt

pub returns-then-is_nan : goal.returns-then-is_nan
unfolding float_of of_bits div
returns-then-is_nan c = rw (sym c.is_nan.ensures ∙ c.if-is_nan.true)

pub returns-else-is_nan : goal.returns-else-is_nan
unfolding float_of
returns-else-is_nan c = rw (sym c.is_nan.ensures ∙ c.if-is_nan.false)
