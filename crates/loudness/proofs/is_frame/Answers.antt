-- `loudness::is_frame` meets its contract. The product is taken of sizes that pass or of zeros, so it is at most 7680. Assumes nothing.
use mathlib.Core.Bool.{Bool, true, false, cond, ◌&&◌}
use mathlib.Core.Path.{◌≡◌, refl}
use Prim.Native.Nat.{ℕ, ◌*◌, ◌≤◌}
use native.Mathlib.Nat.{mul-le-mul, lt_of_le_of_lt}
use native.Mathlib.Omega.{arith}
use lib.Dec.{eqb, lit<, lit≤}
use Rattle.frames.specs.Facts.{sizes_facts}
use Rattle.loudness.specs.Sound.{is_sizes, is_frame}
use Rattle.loudness.proofs.is_frame.Goals as goal

-- a product that is taken only where it is looked at
same-product : (sizes : Bool) (channels samples length : ℕ)
    → sizes && eqb length (2 * cond sizes channels 0 * cond sizes samples 0) ≡ sizes && eqb length (2 * channels * samples)
same-product true channels samples length = refl
same-product false channels samples length = refl

-- and is small then
small-channels : (sizes : Bool) (channels : ℕ) → (sizes ≡ true → channels ≤ 8) → 2 * cond sizes channels 0 ≤ 16
small-channels true channels h = omega (arith, h refl)
small-channels false channels h = lit≤ tt

small-samples : (sizes : Bool) (samples : ℕ) → (sizes ≡ true → samples ≤ 480) → cond sizes samples 0 ≤ 480
small-samples true samples h = h refl
small-samples false samples h = lit≤ tt

pub overflow_mul-result : goal.overflow_mul-result
overflow_mul-result c =
    let at = c.args in
    record {
      fits =
          lt_of_le_of_lt {m = 16}
          (rw (c.pick-c.ensures, c.is_sizes-sizes.ensures)
          (small-channels (is_sizes at.channels at.samples) at.channels (λ h. (sizes_facts at.channels at.samples h).eight)))
          (lit< tt);
    }

pub overflow_mul-result-2 : goal.overflow_mul-result-2
overflow_mul-result-2 c =
    let at = c.args in
    record {
      fits =
          lt_of_le_of_lt {m = 7680}
          (rw (c.pick-c.ensures, c.pick-s.ensures, c.is_sizes-sizes.ensures)
          (mul-le-mul (small-channels (is_sizes at.channels at.samples) at.channels (λ h. (sizes_facts at.channels at.samples h).eight))
          (small-samples (is_sizes at.channels at.samples) at.samples (λ h. (sizes_facts at.channels at.samples h).each.most))))
          (lit< tt);
    }

pub returns : goal.returns
unfolding is_frame
returns c =
    let at = c.args in
    rw (c.pick-c.ensures, c.pick-s.ensures, c.is_sizes-sizes.ensures)
    (same-product (is_sizes at.channels at.samples) at.channels at.samples at.length)
