-- The headroom that was worked out lies from 12 to 25, whatever the difference, as long as there is one. Laws.
-- Assumes nothing.
use Rattle.std.specs.Prelude.{◌≡◌, refl, Bool, true, ◌&&◌, ◌||◌, cond, [], ◌∷◌, ℕ, suc, ◌*◌, ◌^◌, ◌≤◌, ◌<◌, ℤ, negsuc, T, ltb, eqb, Float}
use Rattle.std.proofs.Common.{sym, ap, ◌∙◌, subst, le_trans, le_of_eq, lt_of_le_of_lt, mul_assoc, mul_comm, mul-one, mul-le-mul_left, mul-le-mul_right, mul-pos, arith, lit<, lit≤, ltb-true, eqb-true}
use Rattle.std.proofs.Math.Bool.{false}
use Rattle.std.proofs.lemmas.Bool.{false≢true}
use Rattle.std.specs.Float.{nan, inf, fin}
use Rattle.std.specs.Float.Ieee.{binary32, up, down, unlike, of_bits, add, sub, mul, neg, le, lt, eq, round, size as bits}
use Rattle.std.specs.Float.Ieee.Bits.{is_true}
use Rattle.std.specs.Float.Ieee.Fits.{down_pos, add-fits}
use Rattle.std.specs.Float.Ieee.Scale.{finite}
use Rattle.lists.specs.Tests.{each_of, ◌and◌}
use Rattle.rounding.specs.Units.{U, limit, In, rnd}
use Rattle.rounding.specs.Laws.Rnd.{rnd_mono, rnd_exact}
use Rattle.rounding.specs.Laws.Exact.{constant_number}
use Rattle.rounding.specs.Laws.Operations.{rounded}
use Rattle.rounding.specs.Laws.Order.{le→units, units→le, lt→units, units→lt}
use Rattle.intervals.specs.Laws.Choice.{clamp_in}
use Rattle.units.specs.Figures.{headroom}
use Rattle.saturation_protector.specs.Peaks.{attack, decay, least, most, stays, nearer}
use Rattle.saturation_protector.specs.Laws.Nan.{Real, add_real, mul_real}

-- ---- at most 100 times at most 1 is a number
hundred_units : rnd (100 * U) 1 < limit
unfolding U limit
hundred_units = subst (λ (z : ℕ). z < 2 ^ 277) (sym (ap (λ (z : ℕ). rnd z 1) (sym (mul-one (100 * 2 ^ 149))) ∙ rnd_exact 100 149 1 (lit< tt) (lit< tt))) (lit< tt)

product_finite : (s : Bool) (a b c d : ℕ) → 0 < c → 0 < d → a ≤ 100 * c → b ≤ d → T (finite (round binary32 s (a * b) (c * d)))
product_finite s a b c d C D h k =
    let one : a * b ≤ 100 * c * d = le_trans (mul-le-mul_right b h) (mul-le-mul_left (100 * c) k) in
    let all : a * b * U * 1 ≤ 100 * U * (c * d) = le_trans (le_of_eq (mul-one (a * b * U))) (le_trans (mul-le-mul_right U one) (le_of_eq (swap c d U))) in
    (rounded s (a * b) (c * d) (lt_of_le_of_lt (rnd_mono (a * b * U) (c * d) (100 * U) 1 (mul-pos C D) (lit< tt) all) hundred_units)).number.real
  where
    swap : (c d u : ℕ) → 100 * c * d * u ≡ 100 * u * (c * d)
    swap c d u =
        ap (λ (z : ℕ). z * u) (mul_assoc 100 c d) ∙ mul_assoc 100 (c * d) u ∙ ap (λ (z : ℕ). 100 * z) (mul_comm (c * d) u) ∙ sym (mul_assoc 100 u (c * d))

-- a headroom is at most 100
upto : (s : Bool) (m : ℕ) (e : ℤ) → headroom (fin s m e) ≡ true → m * up e ≤ 100 * down e
unfolding le lt eq of_bits
upto true m e h = absurd (false≢true h)
upto false m e h =
    go (ltb (m * up e * 1) (100 * down e)) refl (each_of (lt (of_bits binary32 0x0000_0000) (fin false m e) ∷ le (fin false m e) (of_bits binary32 0x42c8_0000) ∷ []) h 1)
  where
    go : (b : Bool) → ltb (m * up e * 1) (100 * down e) ≡ b → b || (eqb (m * up e * 1) (100 * down e) && true) ≡ true → m * up e ≤ 100 * down e
    go true k t = let l = ltb-true (m * up e * 1) (100 * down e) k in omega arith
    go false k t = let l = eqb-true (m * up e * 1) (100 * down e) (each_of (eqb (m * up e * 1) (100 * down e) ∷ true ∷ []) t 0) in omega arith

no_headroom : headroom nan ≡ false
unfolding le lt eq of_bits
no_headroom = refl

no_headroom_above : (s : Bool) → headroom (inf s) ≡ false
unfolding le lt eq of_bits
no_headroom_above true = refl
no_headroom_above false = refl

-- A headroom times at most 1 is a number.
pub scaled_finite : (h : Float) (s : Bool) (n : ℕ) (d : ℤ) → n * up d ≤ down d → headroom h ≡ true → T (finite (mul binary32 h (fin s n d)))
unfolding mul
scaled_finite nan s n d k p = absurd (false≢true (sym no_headroom ∙ p))
scaled_finite (inf t) s n d k p = absurd (false≢true (sym (no_headroom_above t) ∙ p))
scaled_finite (fin t m e) s n d k p =
    product_finite (unlike t s) (m * up e) (n * up d) (down e) (down d) (down_pos e) (down_pos d) (upto t m e p) k

-- ---- what stays of the headroom, and what comes of the difference
attack_is : attack ≡ fin false 2094739 (negsuc 20)
unfolding of_bits
attack_is = refl

decay_is : decay ≡ fin false 16773353 (negsuc 23)
unfolding of_bits
decay_is = refl

attack_left : sub binary32 (of_bits binary32 0x3f80_0000) attack ≡ fin false 2413 (negsuc 20)
unfolding sub add neg of_bits bits
attack_left = refl

decay_left : sub binary32 (of_bits binary32 0x3f80_0000) decay ≡ fin false 3863 (negsuc 23)
unfolding sub add neg of_bits bits
decay_left = refl

-- the ends are numbers, and in order
least_real : T (finite least)
unfolding of_bits
least_real = tt

most_real : T (finite most)
unfolding of_bits
most_real = tt

in_order : T (le least most)
unfolding le lt eq of_bits
in_order = tt

module _ (h d : Float) (p : headroom h ≡ true) (q : Real d) where
  mixed : Float → Float
  mixed s = add binary32 (mul binary32 h s) (mul binary32 d (sub binary32 (of_bits binary32 0x3f80_0000) s))

  mixed_real : (s : Float) (n m : ℕ) (e : ℤ) → n * up e ≤ down e → s ≡ fin false n e → sub binary32 (of_bits binary32 0x3f80_0000) s ≡ fin false (suc m) e → Real (mixed s)
  unfolding mixed
  mixed_real s n m e k i j =
      add_real (mul binary32 h s) (mul binary32 d (sub binary32 (of_bits binary32 0x3f80_0000) s))
      (rw i (scaled_finite h false n e k p))
      (rw j (mul_real d false m e q))

  either : (b : Bool) → Real (mixed (cond b attack decay))
  either true = mixed_real attack 2094739 2412 (negsuc 20) (lit≤ tt) attack_is attack_left
  either false = mixed_real decay 16773353 3862 (negsuc 23) (lit≤ tt) decay_is decay_left

  -- The headroom after a frame lies from 12 to 25.
  pub nearer_in : In least most (nearer h d)
  unfolding nearer mixed
  nearer_in =
      let l = constant_number 0x4140_0000 least_real in
      let m = constant_number 0x41c8_0000 most_real in
      clamp_in (mixed (stays h d)) least most (add-fits binary32 _ _) (either (lt h d)) l m (le→units least most l m in_order)

-- ---- from 12 to 25 is above 0 and to 100
nought_real : T (finite (of_bits binary32 0x0000_0000))
unfolding of_bits
nought_real = tt

top_real : T (finite (of_bits binary32 0x42c8_0000))
unfolding of_bits
top_real = tt

some : T (lt (of_bits binary32 0x0000_0000) (of_bits binary32 0x4140_0000))
unfolding lt of_bits
some = tt

room : T (le (of_bits binary32 0x41c8_0000) (of_bits binary32 0x42c8_0000))
unfolding le lt eq of_bits
room = tt

-- What lies from 12 to 25 is a headroom.
pub in_headroom : (x : Float) → In least most x → headroom x ≡ true
in_headroom x i =
    let o = constant_number 0x0000_0000 nought_real in
    let h = constant_number 0x42c8_0000 top_real in
    let l = constant_number 0x4140_0000 least_real in
    let m = constant_number 0x41c8_0000 most_real in
    let below = lt→units (of_bits binary32 0x0000_0000) least o l some in
    let above = le→units most (of_bits binary32 0x42c8_0000) m h room in
    let one = i.above in
    let two = i.below in
    is_true (lt (of_bits binary32 0x0000_0000) x) (units→lt (of_bits binary32 0x0000_0000) x o i.number (omega arith))
    and is_true (le x (of_bits binary32 0x42c8_0000)) (units→le x (of_bits binary32 0x42c8_0000) i.number h (omega arith))
