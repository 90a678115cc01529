-- `interpolated_gain_curve::lasting` meets its contract: one longer, held at the largest i64, and 0 at a change. Assumes nothing.
use Rattle.std.proofs.Common.{◌≡◌, ℕ, ◌+◌, ◌-◌, ◌^◌, ◌<◌, T, ℤ, pos, negsuc, ◌+ℤ◌, ap, arith, rules, to_z, of_z, w64, SFits, eq-eqb, ne_eqb}
use Rattle.std.specs.Prelude.{cond, min, nat_lt}
use Rattle.std.specs.Int.{saturate_signed}
use Rattle.std.proofs.lemmas.Bool.Decides.{nat_tests}
use Rattle.interpolated_gain_curve.specs.Curve.{lasting, longer, not_negative}
use Rattle.interpolated_gain_curve.proofs.lasting.Goals as goal

least : (n : ℕ) → n < 2 ^ 63 → min (n + 1) (2 ^ 63 - 1) ≡ cond (nat_lt n (2 ^ 63 - 1)) (n + 1) n
least n h = grind (arith, nat_tests)

-- one longer, where the duration is one that there is
one-longer : (d : ℤ) → T (not_negative d) → SFits w64 d → saturate_signed w64 (d +ℤ pos 1) ≡ longer d
unfolding not_negative longer
one-longer (pos n) t h = ap pos (least n (omega arith))
one-longer (negsuc n) t h = absurd t

pub returns-then-now-before : goal.returns-then-now-before
unfolding lasting
returns-then-now-before c =
    let d = c.args.duration in
    let back : to_z w64 (of_z w64 d) ≡ d = search rules in
    let out : to_z w64 (of_z w64 c.saturating_add.result) ≡ c.saturating_add.result = search rules in
    rw (out, c.saturating_add.ensures, back, one-longer d c.requires c.ranges.duration, eq-eqb _ _ c.if-now-before.true)

pub returns-else-now-before : goal.returns-else-now-before
unfolding lasting
returns-else-now-before c = rw (ne_eqb _ _ c.if-now-before.false)
