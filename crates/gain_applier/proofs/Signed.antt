-- The remembered samples are a signed number: what its tests and its casts say of it. Assumes nothing.
use Rattle.std.proofs.Common.{◌≡◌, ℕ, zero, suc, ◌-◌, ◌^◌, ◌<◌, true, false, T, eqb, ℤ, pos, negsuc, nat_abs, sym, refl, ◌∙◌, true≢false, arith, w32, SFits, of_z, ne_eqb}
use mathlib.Core.Bool.{false≢true}
use lib.Dec.{leb-suc-zero}
use lib.Signed.{lt_z, non_neg}
use Rattle.frames.specs.Shape.{is_samples}
use Rattle.gain_applier.specs.Applier.{remembered}

other : (n : ℕ) → 2 ^ 32 - suc (suc n) ≡ 4294967295 → ⊥
other n h = omega arith

-- below zero only -1 is remembered
pub below_zero : (z : ℤ) → lt_z z (pos 0) ≡ true → eqb (of_z w32 z) 4294967295 ≡ remembered z
unfolding remembered
below_zero (pos n) h = absurd (false≢true (sym (leb-suc-zero n) ∙ h))
below_zero (negsuc zero) h = refl
below_zero (negsuc (suc n)) h = ne_eqb (2 ^ 32 - suc (suc n)) 4294967295 (other n)

-- a number that is not below zero casts to itself
pub record Whole (z : ℤ) : Type 0 where
  pub sign : T (non_neg z)
  pub small : nat_abs z < 2 ^ 31
  pub same : remembered z ≡ is_samples (nat_abs z)

pub not_below_zero : (z : ℤ) → SFits w32 z → lt_z z (pos 0) ≡ false → Whole z
unfolding remembered
not_below_zero (pos n) s h = record { sign = tt; small = s.sfits; same = refl }
not_below_zero (negsuc n) s h = absurd (true≢false h)
