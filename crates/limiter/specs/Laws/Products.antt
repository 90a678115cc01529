-- A product of two numbers is no NaN. So its clamp may be written the other way round, each end first: the answer is the same, bit for bit.
-- Assumes nothing.
use Rattle.std.specs.Prelude.{◌≡◌, refl, Bool, true, false, not, cond, ◌⊎◌, ℕ, zero, suc, ◌+◌, ◌*◌, ◌^◌, ◌≤◌, ◌<◌, T, ltb, Float}
use Rattle.std.proofs.Common.{sym, ap, ◌∙◌, subst, arith}
use Rattle.std.proofs.Math.Logic.{inl, inr}
use Rattle.std.specs.Float.{nan, inf, fin, binary32}
use Rattle.std.specs.Float.Ieee.{of_bits, mul, round, units, odd, fits, is_nan, unlike, up, down, lt}
use Rattle.std.specs.Float.Ieee.Fits.{round_is, mul-fits}
use Rattle.rounding.specs.Units.{U, size, P, N, Number, Value}
use Rattle.rounding.specs.Laws.Exact.{constant_number}
use Rattle.rounding.specs.Laws.Order.{lt→units, not-lt→units}
use Rattle.rounding.specs.Laws.Same.{same_number}
use Rattle.rounding.specs.Laws.Whole.{U_pos, sides}
use Rattle.floats.specs.Choice.{larger, smaller, clamp}
use Rattle.limiter.specs.Scale.{Finite}

-- ---- a product of two numbers is no NaN
odd_not_nan : (d : ℕ) (s : Bool) (q k l : ℕ) → T (not (is_nan (odd d s q k l)))
unfolding odd is_nan
odd_not_nan d s zero k l = tt
odd_not_nan d s (suc q) k l = tt

units_not_nan : (s : Bool) (q k : ℕ) → T (not (is_nan (units binary32 s q k)))
unfolding units is_nan
units_not_nan s q k = go (ltb (q * 2 ^ k) (2 ^ 277))
  where
    go : (b : Bool) → T (not (is_nan (cond b (odd 25 s q k 149) (inf s))))
    go true = odd_not_nan 25 s q k 149
    go false = tt

round_not_nan : (s : Bool) (a c : ℕ) → T (not (is_nan (round binary32 s a c)))
round_not_nan s a c = subst (λ (z : Float). T (not (is_nan z))) (sym (round_is binary32 s a c)) (units_not_nan s _ _)

pub product_not_nan : (x f : Float) → Finite x → Finite f → T (not (is_nan (mul binary32 x f)))
unfolding mul
product_not_nan nan f h k = absurd h
product_not_nan (inf s) f h k = absurd h
product_not_nan (fin s m e) nan h k = absurd k
product_not_nan (fin s m e) (inf t) h k = absurd k
product_not_nan (fin s m e) (fin t n d) h k = round_not_nan (unlike s t) (m * up e * (n * up d)) (down e * down d)

-- ---- the ends of 16 bits
pub lowest : Value (of_bits binary32 0xc700_0000) 0 (32768 * U)
unfolding P N size U of_bits
lowest = record { number = constant_number 0xc700_0000 tt; plus = refl; minus = refl }

pub highest : Value (of_bits binary32 0x46ff_fe00) (32767 * U) 0
unfolding P N size U of_bits
highest = record { number = constant_number 0x46ff_fe00 tt; plus = refl; minus = refl }

-- ---- the larger and the smaller of two, the other way round
-- two numbers of the same units, of which one is not 0
same : (x y : Float) → Number x → Number y → 0 < P y + N y → P x + N y ≡ P y + N x → x ≡ y
same x y h k some e = go (sides x h).one (sides y k).one
  where
    go : (P x ≡ 0) ⊎ (N x ≡ 0) → (P y ≡ 0) ⊎ (N y ≡ 0) → x ≡ y
    go (inl a) (inl b) = same_number x y h k (omega arith) (omega arith) (omega arith)
    go (inl a) (inr b) = same_number x y h k (omega arith) (omega arith) (omega arith)
    go (inr a) (inl b) = same_number x y h k (omega arith) (omega arith) (omega arith)
    go (inr a) (inr b) = same_number x y h k (omega arith) (omega arith) (omega arith)

-- two numbers, of which one is not 0, are the same, or one of them is below the other
numbers_apart : (x y : Float) → Number x → Number y → 0 < P y + N y → (x ≡ y) ⊎ (lt y x ≡ not (lt x y))
numbers_apart x y h k some = go (lt x y) (lt y x) (lt→units x y h k) (not-lt→units x y h k) (lt→units y x k h) (not-lt→units y x k h)
  where
    go : (p q : Bool) → (T p → P x + N y < P y + N x) → (T (not p) → P y + N x ≤ P x + N y) → (T q → P y + N x < P x + N y) → (T (not q) → P x + N y ≤ P y + N x) → (x ≡ y) ⊎ (q ≡ not p)
    go true true a b c d = absurd (omega (arith, a tt, c tt))
    go true false a b c d = inr refl
    go false true a b c d = inr refl
    go false false a b c d = inl (same x y h k some (omega (arith, b tt, d tt)))

-- the same where the first may be infinite, but is no NaN
apart : (x y : Float) → T (fits binary32 x) → T (not (is_nan x)) → Number y → 0 < P y + N y → (x ≡ y) ⊎ (lt y x ≡ not (lt x y))
unfolding lt is_nan
apart nan y f n k some = absurd n
apart (inf s) nan f n k some = absurd k.real
apart (inf s) (inf t) f n k some = absurd k.real
apart (inf s) (fin t m e) f n k some = inr refl
apart (fin s m e) y f n k some = numbers_apart (fin s m e) y (record { real = tt; held = f }) k some

swapped : (b : Bool) (x y : Float) → cond (not b) x y ≡ cond b y x
swapped true x y = refl
swapped false x y = refl

module _ (x y : Float) (f : T (fits binary32 x)) (n : T (not (is_nan x))) (k : Number y) (some : 0 < P y + N y) where
  larger_turned : larger y x ≡ larger x y
  unfolding larger
  larger_turned = elim (apart x y f n k some) [ inl e ↦ rw e | inr e ↦ rw e (swapped (lt x y) x y) ]

  smaller_turned : smaller y x ≡ smaller x y
  unfolding smaller
  smaller_turned = elim (apart x y f n k some) [ inl e ↦ rw e | inr e ↦ rw e (sym (swapped (lt x y) y x)) ]

-- what holds of both holds of the larger
of_larger : (p : Float → Type 0) (x y : Float) → p x → p y → p (larger x y)
unfolding larger
of_larger p x y a b = go (lt x y)
  where
    go : (c : Bool) → p (cond c y x)
    go true = b
    go false = a

number_not_nan : (x : Float) → Finite x → T (not (is_nan x))
unfolding is_nan
number_not_nan nan h = h
number_not_nan (inf s) h = absurd h
number_not_nan (fin s m e) h = tt

-- ---- the clamp of a sample by its factor, each end first
pub clamp_turned : (x f : Float) → Finite x → Finite f
    → smaller (of_bits binary32 0x46ff_fe00) (larger (of_bits binary32 0xc700_0000) (mul binary32 x f)) ≡ clamp (mul binary32 x f) (of_bits binary32 0xc700_0000) (of_bits binary32 0x46ff_fe00)
unfolding clamp
clamp_turned x f h k =
    let p = mul binary32 x f in
    let low = of_bits binary32 0xc700_0000 in
    let high = of_bits binary32 0x46ff_fe00 in
    let held = mul-fits binary32 x f in
    let real = product_not_nan x f h k in
    ap (smaller high) (larger_turned p low held real lowest.number (omega (arith, lowest.minus, U_pos)))
    ∙ smaller_turned (larger p low) high (of_larger (λ (z : Float). T (fits binary32 z)) p low held lowest.number.held)
    (of_larger (λ (z : Float). T (not (is_nan z))) p low real (number_not_nan low lowest.number.real)) highest.number (omega (arith, highest.plus, U_pos))
