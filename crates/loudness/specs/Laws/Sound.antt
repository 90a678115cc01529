-- The sums and the peaks: what one sample or one channel more comes to, and how large they can be. Laws.
-- Assumes nothing.
use Rattle.std.specs.Prelude.{◌≡◌, unsigned_abs, pos, negsuc, Bool, true, false, cond, List, [], ◌∷◌, ltb, length}
use Rattle.std.proofs.Math.Path.{refl}
use Prim.Native.Nat.{ℕ, zero, suc, ◌+◌, ◌*◌, ◌-◌, ◌≤◌, ◌<◌, max}
use Rattle.std.proofs.Common.{mul-le-mul, mul-suc, not-suc-le-zero, ltb-true, ltb-false, eqb-true}
use native.Mathlib.Omega.{arith}
use Rattle.std.specs.Int.{w16, cast_signed}
use mir.Val.{sel}
use Rattle.lists.specs.Tests.{each_of}
use Rattle.frames.specs.Facts.{Sizes, sizes_facts}
use Rattle.units.specs.Replies.{done, bad_shape}
use Rattle.wav_format.specs.Bytes.{little_at}
use Rattle.loudness.specs.Sound.{magnitude_of, squares_from, peak_from, over_channels, square_of, peak_of, is_frame, loudness_of}

less : (n : ℕ) → suc n - 1 ≡ n
less n = omega arith

-- ---- how large
-- No sample is further from zero than the lowest.
pub magnitude_most : (n : ℕ) → magnitude_of n ≤ 32768
unfolding magnitude_of
magnitude_most n = go (ltb n 32768) refl
  where
    go : (b : Bool) → ltb n 32768 ≡ b → cond b n (65536 - n) ≤ 32768
    go true t = omega (arith, ltb-true n 32768 t)
    go false t = omega (arith, ltb-false n 32768 t)

-- The number of a sample as a signed one of 16 bits is as far from zero.
pub signed_magnitude : (n : ℕ) → n < 65536 → unsigned_abs (cast_signed w16 n) ≡ magnitude_of n
unfolding magnitude_of
signed_magnitude n h = go (ltb n 32768)
  where
    go : (b : Bool) → unsigned_abs (sel b (pos n) (negsuc (65536 - suc n))) ≡ cond b n (65536 - n)
    go true = refl
    go false = omega arith

-- Nor is its square larger.
pub square_most : {size : ℕ} → size ≤ 32768 → size * size ≤ 1073741824
square_most h = mul-le-mul h h

module _ (bytes : List ℕ) (stride : ℕ) where
  -- So many samples have at most so large a sum,
  pub squares_most : (at k : ℕ) → squares_from bytes stride at k ≤ k * 1073741824
  unfolding squares_from
  squares_most at zero = omega arith
  squares_most at (suc k) = omega (arith, square_most (magnitude_most (little_at bytes at 2)), squares_most (at + stride) k)

  -- and a peak of at most 32768.
  pub peak_most : (at k : ℕ) → peak_from bytes stride at k ≤ 32768
  unfolding peak_from
  peak_most at zero = omega arith
  peak_most at (suc k) = omega (arith, magnitude_most (little_at bytes at 2), peak_most (at + stride) k)

  -- ---- one sample more, where some are left
  pub one_square : (at left : ℕ) {n size : ℕ} → 0 < left → n ≡ little_at bytes at 2 → size ≡ magnitude_of n
      → size * size + squares_from bytes stride (at + stride) (left - 1) ≡ squares_from bytes stride at left
  unfolding squares_from
  one_square at zero h e f = absurd (not-suc-le-zero h)
  one_square at (suc left) h e f = rw (less left, f, e)

  pub one_peak : (at left : ℕ) {n size : ℕ} → 0 < left → n ≡ little_at bytes at 2 → size ≡ magnitude_of n
      → max size (peak_from bytes stride (at + stride) (left - 1)) ≡ peak_from bytes stride at left
  unfolding peak_from
  one_peak at zero h e f = absurd (not-suc-le-zero h)
  one_peak at (suc left) h e f = rw (less left, f, e)

  -- none is left
  pub no_square : (at : ℕ) → squares_from bytes stride at 0 ≡ 0
  unfolding squares_from
  no_square at = refl

  pub no_peak : (at : ℕ) → peak_from bytes stride at 0 ≡ 0
  unfolding peak_from
  no_peak at = refl

-- A stride less is left to go.
pub one_less : (stride left : ℕ) → 0 < left → stride * left ≡ stride + stride * (left - 1)
one_less stride zero h = absurd (not-suc-le-zero h)
one_less stride (suc left) h = rw (less left) (omega (arith, mul-suc stride left))

-- ---- one channel more
module _ (f : ℕ → ℕ) where
  -- Nothing is found before the first.
  pub none_found : (channels : ℕ) → max 0 (over_channels f 0 (channels - 0)) ≡ over_channels f 0 channels
  none_found channels =
      let all : channels - 0 ≡ channels = omega arith in
      rw all (omega arith)

  -- What is found with the channel c, then the largest of the others.
  pub one_found : (c channels found : ℕ) {one found' all : ℕ} → c < channels → one ≡ f c → found' ≡ max found one
      → max found (over_channels f c (channels - c)) ≡ all → max found' (over_channels f (c + 1) (channels - (c + 1))) ≡ all
  unfolding over_channels
  one_found c channels found h e g i =
      let more : channels - c ≡ suc (channels - (c + 1)) = omega arith in
      rw g (omega (arith, rw (more, ← e) at i))

  -- None is left.
  pub all_found : (c channels found : ℕ) {all : ℕ} → channels ≤ c → max found (over_channels f c (channels - c)) ≡ all → found ≡ all
  unfolding over_channels
  all_found c channels found h i =
      let none : channels - c ≡ 0 = omega arith in
      omega (arith, rw none at i)

-- ---- what is answered
module _ (bytes : List ℕ) (channels samples : ℕ) where
  pub frame_heard : is_frame channels samples (length bytes) ≡ true
      → loudness_of bytes channels samples ≡ record { reply = done; square = over_channels (square_of bytes channels samples) 0 channels; peak = over_channels (peak_of bytes channels samples) 0 channels }
  unfolding loudness_of
  frame_heard h = rw h

  pub frame_refused : is_frame channels samples (length bytes) ≡ false → loudness_of bytes channels samples ≡ record { reply = bad_shape; square = 0; peak = 0 }
  unfolding loudness_of
  frame_refused h = rw h

-- What is known of the bytes of a frame: its sizes, and that they are exactly so many.
pub frame_facts : (channels samples n : ℕ) → is_frame channels samples n ≡ true → Sizes channels samples × (n ≡ 2 * channels * samples)
unfolding is_frame
frame_facts channels samples n h =
    let p = each_of (_ ∷ _ ∷ []) h in
    (sizes_facts channels samples (p 0), eqb-true n (2 * channels * samples) (p 1))
