-- The level of an average that starts with a level is that level. Laws.
-- Assumes nothing.
use Rattle.std.specs.Prelude.{◌≡◌, refl, ◌⊎◌, ℕ, ◌+◌, ◌-◌, ◌*◌, ◌≤◌, ◌<◌, Float}
use Rattle.std.proofs.Common.{sym, ap, subst, ◌∙◌, inl, inr, arith, le-ltb}
use Rattle.std.specs.Float.{binary32}
use Rattle.std.specs.Float.Ieee.{of_bits, div}
use Rattle.rounding.specs.Units.{U, size, P, N, rnd, Number, In, Rounding}
use Rattle.rounding.specs.Laws.Rnd.{rnd_same, rnd_zero}
use Rattle.rounding.specs.Laws.Whole.{U_pos, limit_pos, N-kept, N-limit, sides}
use Rattle.rounding.specs.Laws.Operations.{div_rounds, change}
use Rattle.rounding.specs.Laws.Order.{lt_units}
use Rattle.rounding.specs.Laws.Same.{same_number}
use Rattle.rounding.specs.Laws.Exact.{constant_number}
use Rattle.floats.specs.Choice.{larger, smaller, clamp}
use Rattle.speech_level_estimator.specs.Average as Level
use Rattle.speech_level_estimator.specs.Laws.Facts.{one_value}

-- a number between two others is not moved by a clamp
clamped_itself : (x lo hi : Float) → Number lo → Number hi → In lo hi x → clamp x lo hi ≡ x
unfolding clamp larger smaller
clamped_itself x lo hi l h i =
    rw (lt_units x lo i.number l, le-ltb (P x + N lo) (P lo + N x) (omega (arith, i.above)), lt_units hi x h i.number, le-ltb (P hi + N x) (P x + N hi) (omega (arith, i.below)))
    refl

-- a number below zero, by 1, is that number
by_one_lem : (x : Float) → Number x → P x ≡ 0 → 0 < N x → div binary32 x (of_bits binary32 0x3f80_0000) ≡ x
by_one_lem x n none some =
    let one = of_bits binary32 0x3f80_0000 in
    let r = div binary32 x one in
    let u : P one ≡ U = one_value.plus in
    let d = div_rounds x one n one_value.number (rw u U_pos) in
    let over : Rounding r 0 (N x * U) U = subst (λ (v : ℕ). Rounding r 0 (N x * U) v) u (change r (P x * U) (N x * U) 0 (N x * U) (P one) (rw none (omega arith)) refl d) in
    let above : rnd (0 - N x * U) U ≡ 0 = ap (λ (z : ℕ). rnd z U) (omega arith) ∙ rnd_zero U U_pos in
    let below : rnd (N x * U - 0) U ≡ N x = ap (λ (z : ℕ). rnd z U) (omega arith) ∙ rnd_same (N x * U) U (N x) 1 U_pos (omega arith) (omega arith) ∙ N-kept x n in
    let v = over.value (rw above limit_pos) (rw below (N-limit x n)) in
    same_number r x v.number n (v.plus ∙ above ∙ sym none) (v.minus ∙ below) (rw (v.plus ∙ above, v.minus ∙ below) (omega (arith, some)))

-- -90, 30 and -20 are numbers
low_number : Number (of_bits binary32 0xc2b4_0000)
unfolding of_bits
low_number = constant_number 0xc2b4_0000 tt

high_number : Number (of_bits binary32 0x41f0_0000)
unfolding of_bits
high_number = constant_number 0x41f0_0000 tt

-- -20 is 20 units of 1 below zero
minus_twenty : (P (of_bits binary32 0xc1a0_0000) ≡ 0) × (N (of_bits binary32 0xc1a0_0000) ≡ 20 * U)
unfolding of_bits P N size U
minus_twenty = (refl, refl)

-- what is at most -20 has no units above zero, and some below it
pub at_most_minus_twenty : (lo x : Float) → In lo (of_bits binary32 0xc1a0_0000) x → (P x ≡ 0) × (0 < N x)
at_most_minus_twenty lo x i =
    let h : P x + 20 * U ≤ N x = omega (arith, i.below, minus_twenty.0, minus_twenty.1) in
    let some : 0 < N x = omega (arith, h, U_pos) in
    (go (sides x i.number).one some, some)
  where
    go : (P x ≡ 0) ⊎ (N x ≡ 0) → 0 < N x → P x ≡ 0
    go (inl e) some = e
    go (inr e) some = absurd (omega (arith, e, some))

-- The level of an average that starts with a level from -90 to 30 below zero is that level.
pub level_starting : (x : Float) → In (of_bits binary32 0xc2b4_0000) (of_bits binary32 0x41f0_0000) x → P x ≡ 0 → 0 < N x → Level.level (Level.starting x) ≡ x
unfolding Level.level Level.starting
level_starting x i none some =
    ap (λ (z : Float). Level.clamp_level z) (by_one_lem x i.number none some)
    ∙ clamped_itself x (of_bits binary32 0xc2b4_0000) (of_bits binary32 0x41f0_0000) low_number high_number i
