-- 1 over the samples of a frame: a number from 0 to 1, and the samples times it are 1, but for the rounding.
use Rattle.std.specs.Prelude.{◌≡◌, ℕ, ◌+◌, ◌-◌, ◌*◌, ◌^◌, ◌<◌, ◌≤◌, pos, refl, Float}
use Rattle.std.proofs.Common.{sym, ap, ◌∙◌, mul-pos, mul-le-mul_right, le_of_mul-le-mul_right, arith, lit≤}
use Rattle.std.proofs.Math.Path.{subst}
use Rattle.std.proofs.Math.Nat.{zero-sub, zero-mul}
use Rattle.std.specs.Float.Ieee.{binary32, of_bits, of_int}
use Rattle.rounding.specs.Units.{U, size, P, N, Number, Value, In, rnd, Rounding}
use Rattle.rounding.specs.Laws.Rnd.{rnd_zero, err_hi}
use Rattle.rounding.specs.Laws.Whole.{U_pos}
use Rattle.rounding.specs.Laws.Operations.{div_rounds, change}
use Rattle.rounding.specs.Laws.Between.{in_real, known}
use Rattle.rounding.specs.Laws.Exact.{whole_number, constant_number}
use Rattle.gain_applier.specs.Applier.{inverse_of}

-- 2 ^ 126 units: 1 in 8388608 parts
unfoldable pub e : ℕ
e = 2 ^ 126

-- 1 is 8388608 of them
pub U-e : U ≡ 8388608 * e
unfolding U e
U-e = refl

-- a frame's samples are few beside it
pub e_large : 1024 ≤ e
unfolding e
e_large = lit≤ tt

zero : Float
zero = of_bits binary32 0x0000_0000

zero_value : Value zero 0 0
unfolding zero P N size of_bits
zero_value = record { number = constant_number 0x0000_0000 tt; plus = refl; minus = refl }

one : Float
one = of_bits binary32 0x3f80_0000

one_value : Value one U 0
unfolding one P N size U of_bits
one_value = record { number = constant_number 0x3f80_0000 tt; plus = refl; minus = refl }

module _ (n : ℕ) (some : 1 ≤ n) (few : n ≤ 480) where
  whole : Value (of_int binary32 (pos n)) (n * U) 0
  whole = whole_number n (omega arith)

  n_units : 0 < n * U
  n_units = mul-pos some U_pos

  -- It is the rounding of U * U over n * U units.
  rounds : Rounding (inverse_of (pos n)) (U * U) 0 (n * U)
  unfolding inverse_of one
  rounds =
      let o = one_value in
      let w = whole in
      subst (λ (v : ℕ). Rounding (inverse_of (pos n)) (U * U) 0 v) w.plus
      (change (inverse_of (pos n)) (P one * U) (N one * U) (U * U) 0 (P (of_int binary32 (pos n))) (ap (λ (z : ℕ). z * U) o.plus) (ap (λ (z : ℕ). z * U) o.minus ∙ zero-mul U)
      (div_rounds one (of_int binary32 (pos n)) o.number w.number (subst (λ (z : ℕ). 0 < z) (sym w.plus) n_units)))

  inverse_in : In zero one (inverse_of (pos n))
  inverse_in =
      let z = zero_value in
      let o = one_value in
      in_real zero one (inverse_of (pos n)) (U * U) 0 (n * U) n_units z.number o.number rounds
      (low (P zero) (N zero) (n * U) (U * U) z.plus) (high (P one) (N one) n U o.plus o.minus some)
    where
      low : (p m v u : ℕ) → p ≡ 0 → p * v + 0 ≤ u + m * v
      low p m v u a = rw a (omega arith)

      high : (p m n u : ℕ) → p ≡ u → m ≡ 0 → 1 ≤ n → u * u + m * (n * u) ≤ p * (n * u) + 0
      high p m n u a b c = rw (a, b) (omega (arith, mul-le-mul_right (u * u) c))

  -- 1 over the samples is a number.
  pub inverse_number : Number (inverse_of (pos n))
  inverse_number = inverse_in.number

  -- It has no units below zero.
  pub inverse_above : N (inverse_of (pos n)) ≡ 0
  inverse_above =
      let v = known rounds inverse_number.real in
      v.minus ∙ ap (λ (z : ℕ). rnd z (n * U)) (zero-sub (U * U)) ∙ rnd_zero (n * U) n_units

  -- The samples times it are 1, or e units more at most.
  pub inverse_share : n * P (inverse_of (pos n)) ≤ U + e
  inverse_share =
      let v = known rounds inverse_number.real in
      subst (λ (z : ℕ). n * z ≤ U + e) (sym v.plus)
      (share (rnd (U * U - 0) (n * U)) n U e U_pos (err_hi (U * U - 0) (n * U) n_units) U-e few e_large)
    where
      share : (r n u e : ℕ) → 0 < u → 2 ^ 24 * (r * (n * u)) ≤ 2 ^ 24 * (u * u - 0) + (u * u - 0) + 2 ^ 23 * (n * u) → u ≡ 8388608 * e → n ≤ 480 → 1024 ≤ e → n * r ≤ u + e
      share r n u e u_pos h i few large = cancelled (le_of_mul-le-mul_right over u_pos)
        where
          over : 16777216 * (n * r) * u ≤ (16777217 * u + 8388608 * n) * u
          over = omega arith

          cancelled : 16777216 * (n * r) ≤ 16777217 * u + 8388608 * n → n * r ≤ u + e
          cancelled k = omega arith
