-- `Figure::hundredths` meets its contract: the fields of the magnitude's bits tell the hundredths. Assumes nothing.
use mathlib.Core.Path.{sym, ap, ◌∙◌}
use Prim.Native.Nat.{ℕ, ◌-◌, ◌/◌, ◌*◌, ◌^◌}
use native.Mathlib.Omega.{arith}
use Rattle.floats.specs.Laws.Kinds.{passed}
use Rattle.strip_lines.specs.Laws.Cutting.{cut}
use Rattle.strip_lines.proofs.Figure.hundredths.Goals as goal

pub overflow_sub-exponent : goal.overflow_sub-exponent
overflow_sub-exponent c =
    omega (arith, (cut c.args.self.value _ _ c.magnitude.ensures c.bits_of-bits.ensures (passed c.well_formed.0.1.1.0.1) c.args.self.in_range).room)

pub cut-requires : goal.cut-requires
cut-requires c =
    let room = (cut c.args.self.value _ _ c.magnitude.ensures c.bits_of-bits.ensures (passed c.well_formed.0.1.1.0.1) c.args.self.in_range).room in
    record {
      places_nonzero = omega arith;
      places_bound = omega arith;
    }

pub returns-then-exponent-lt119 : goal.returns-then-exponent-lt119
returns-then-exponent-lt119 c =
    sym ((cut c.args.self.value _ _ c.magnitude.ensures c.bits_of-bits.ensures (passed c.well_formed.0.1.1.0.1) c.args.self.in_range).none c.if-exponent-lt119.true)

pub returns-else-exponent-lt119 : goal.returns-else-exponent-lt119
returns-else-exponent-lt119 c =
    c.cut.ensures
    ∙ ap (λ (d : ℕ). 100 * d / 2 ^ (150 - c.bits_of-bits.result / 8388608)) c.from.ensures
    ∙ sym ((cut c.args.self.value _ _ c.magnitude.ensures c.bits_of-bits.ensures (passed c.well_formed.0.1.1.0.1) c.args.self.in_range).some c.if-exponent-lt119.false)
