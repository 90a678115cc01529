-- `gain_applier::is_remembered` meets its contract. Assumes nothing.
use Rattle.std.proofs.Common.{ℕ, ◌^◌, ◌<◌, sym, ◌∙◌, arith, to_z-of_z}
use Rattle.gain_applier.proofs.Signed.{Whole, below_zero, not_below_zero}
use Rattle.gain_applier.proofs.is_remembered.Goals as goal
use Rattle.gain_applier.proofs.is_remembered.Goals.{Else-samples-lt0}

whole_of : (c : Else-samples-lt0) → Whole c.args.samples
whole_of c = not_below_zero c.args.samples c.ranges.samples (rw (to_z-of_z c.ranges.samples) at c.if-samples-lt0.false)

wide : {n : ℕ} → n < 2 ^ 31 → n < 2 ^ 64
wide h = omega arith

pub overflow_cast-samples : goal.overflow_cast-samples
overflow_cast-samples c =
    let w = whole_of c in
    rw (to_z-of_z c.ranges.samples) (w.sign, record { fits = wide w.small })

pub returns-then-samples-lt0 : goal.returns-then-samples-lt0
returns-then-samples-lt0 c = below_zero c.args.samples (rw (to_z-of_z c.ranges.samples) at c.if-samples-lt0.true)

pub returns-else-samples-lt0 : goal.returns-else-samples-lt0
returns-else-samples-lt0 c =
    let start = c in
    c.is_samples.ensures ∙ rw (to_z-of_z start.ranges.samples) (sym (whole_of c.before).same)
