-- A sample and its number: what is cut off is at most 32768, and a whole number comes back as it was. Laws.
-- Assumes nothing.
use Rattle.std.specs.Prelude.{◌≡◌, ℕ, zero, suc, ◌+◌, ◌-◌, ◌*◌, ◌/◌, ◌%◌, ◌^◌, ◌<◌, ◌≤◌, Bool, true, false, cond, T, ◌⊎◌, [], ◌∷◌, ℤ, pos, nat_lt, refl, Float}
use Rattle.std.proofs.Common.{sym, ap, ap₂, ◌∙◌, subst, inl, inr, le_of_suc-le-suc, lt_of_le_of_lt, mul-one, div-lt_iff_lt-mul, mul-le-mul_right, zero-mul, arith, ltb-true, ltb-false, le-leb, lt-ltb, le-ltb, lit<, lit≤}
use Rattle.std.proofs.Math.Nat.{sub-zero, zero-sub, mul-div-mul_right}
use Rattle.std.specs.Float.{nan, inf, fin, binary32}
use Rattle.std.specs.Float.Ieee.{fits, le, lt, add, neg, of_int, of_bits, to_unsigned}
use Rattle.lists.specs.Tests.{each_passed}
use Rattle.rounding.specs.Units.{U, limit, size, P, N, Number, Value, rnd, Rounding}
use Rattle.rounding.specs.Laws.Rnd.{rnd_exact, rnd_zero}
use Rattle.rounding.specs.Laws.Whole.{U_pos, limit_pos, sides}
use Rattle.rounding.specs.Laws.Order.{between, le→units, units→lt, lt_units, le_units}
use Rattle.rounding.specs.Laws.Operations.{add_above, neg_value}
use Rattle.rounding.specs.Laws.Between.{in_real}
use Rattle.rounding.specs.Laws.Exact.{constant_number, whole_number, truncated}
use Rattle.floats.specs.Kinds.{magnitude}
use Rattle.floats.specs.Laws.Kinds.{passed, nought, nought_value}
use Rattle.wav_format.specs.Samples.{sound_of, full_scale, rounded, number_of}

-- ---- the constants, in units
bottom_value : Value (of_bits binary32 0xc700_0000) 0 (32768 * U)
unfolding P N size U of_bits
bottom_value = record { number = constant_number 0xc700_0000 tt; plus = refl; minus = refl }

top_value : Value (of_bits binary32 0x46ff_fe00) (32767 * U) 0
unfolding P N size U of_bits
top_value = record { number = constant_number 0x46ff_fe00 tt; plus = refl; minus = refl }

-- half of a unit
unfoldable h : ℕ
h = 2 ^ 148

two_halves : 2 * h ≡ U
unfolding h U
two_halves = refl

h_pos : 0 < h
unfolding h
h_pos = lit< tt

half : Float
half = of_bits binary32 0x3f00_0000

half_value : Value half h 0
unfolding half P N size U of_bits h
half_value = record { number = constant_number 0x3f00_0000 tt; plus = refl; minus = refl }

-- 32768.5
most : Float
most = of_bits binary32 0x4700_0080

most_value : Value most (65537 * h) 0
unfolding most P N size U of_bits h
most_value = record { number = constant_number 0x4700_0080 tt; plus = refl; minus = refl }

minus_one : Value (fin true 1 (pos 0)) 0 U
unfolding P N size U fits
minus_one = record { number = record { real = tt; held = tt }; plus = refl; minus = refl }

two_to_64 : Value (fin false 1 (pos 64)) (2 ^ 64 * U) 0
unfolding P N size U fits
two_to_64 = record { number = record { real = tt; held = tt }; plus = refl; minus = refl }

-- ---- the magnitude of a number
-- the sign has no part in whether a number fits
without_sign : (s : Bool) (m : ℕ) (e : ℤ) → T (fits binary32 (fin s m e)) → T (fits binary32 (fin false m e))
unfolding fits
without_sign s zero e f = f
without_sign s (suc m) e f = f

pub magnitude_value : (x : Float) → Number x → Value (magnitude x) (size x) 0
unfolding magnitude P N size
magnitude_value nan n = absurd n.real
magnitude_value (inf s) n = absurd n.real
magnitude_value (fin s m e) n = record { number = record { real = tt; held = without_sign s m e n.held }; plus = refl; minus = refl }

-- ---- a sample between the ends
pub record Full (x : Float) : Type 0 where
  pub number : Number x
  pub most_units : size x ≤ 32768 * U

pub full : (x : Float) → T (fits binary32 x) → full_scale x ≡ true → Full x
unfolding full_scale
full x t f =
    let low = of_bits binary32 0xc700_0000 in
    let high = of_bits binary32 0x46ff_fe00 in
    let p = each_passed (le low x ∷ le x high ∷ []) (passed f) in
    let v = bottom_value in
    let w = top_value in
    let n = between low high x v.number w.number t (p 0) (p 1) in
    let s = sides x n in
    record {
      number = n;
      most_units = few (P x) (N x) (P low) (N low) (P high) (N high) (size x) U v.plus v.minus w.plus w.minus s.one s.both
          (le→units low x v.number n (p 0)) (le→units x high n w.number (p 1));
    }
  where
    few : (p n lp ln hp hn s u : ℕ) → lp ≡ 0 → ln ≡ 32768 * u → hp ≡ 32767 * u → hn ≡ 0 → (p ≡ 0) ⊎ (n ≡ 0) → p + n ≡ s
        → lp + n ≤ p + ln → p + hn ≤ hp + n → s ≤ 32768 * u
    few p n lp ln hp hn s u a b c d (inl e) f g k = omega arith
    few p n lp ln hp hn s u a b c d (inr e) f g k = omega arith

-- ---- the sum with a half, and what is cut off
raised : Float → Float
raised x = add binary32 (magnitude x) half

record Raised (x : Float) : Type 0 where
  pub number : Number (raised x)
  pub none_below : N (raised x) ≡ 0
  pub few : P (raised x) ≤ 65537 * h

raised_rounds : (x : Float) → Number x → Rounding (raised x) (P (magnitude x) + P half) 0 1
unfolding raised
raised_rounds x n =
    let m = magnitude_value x n in
    add_above (magnitude x) half m.number half_value.number m.minus half_value.minus

raise : (x : Float) → Full x → Raised x
raise x f =
    let m = magnitude_value x f.number in
    let n = nought_value in
    let t = most_value in
    let a = half_value in
    let i =
    in_real nought most (raised x) (P (magnitude x) + P half) 0 1 (lit< tt) n.number t.number (raised_rounds x f.number)
    (low (P nought) (N nought) (P (magnitude x) + P half) n.plus)
    (high (P (magnitude x)) (P half) (P most) (N most) (size x) U h m.plus a.plus t.plus t.minus f.most_units two_halves)
    in
    let none = clear (P nought) (N nought) (P (raised x)) (N (raised x)) n.plus n.minus i.above (sides (raised x) i.number).one in
    record { number = i.number; none_below = none; few = under (P (raised x)) (N (raised x)) (P most) (N most) (65537 * h) t.plus t.minus none i.below }
  where
    low : (p n q : ℕ) → p ≡ 0 → p * 1 + 0 ≤ q + n * 1
    low p n q e = omega arith

    high : (p q m n s u h : ℕ) → p ≡ s → q ≡ h → m ≡ 65537 * h → n ≡ 0 → s ≤ 32768 * u → 2 * h ≡ u → p + q + n * 1 ≤ m * 1 + 0
    high p q m n s u h a b c d e f = omega arith

    clear : (p n q m : ℕ) → p ≡ 0 → n ≡ 0 → p + m ≤ q + n → (q ≡ 0) ⊎ (m ≡ 0) → m ≡ 0
    clear p n q m a b c (inl e) = omega arith
    clear p n q m a b c (inr e) = e

    under : (q m p n t : ℕ) → p ≡ t → n ≡ 0 → m ≡ 0 → q + n ≤ p + m → q ≤ t
    under q m p n t a b c d = omega arith

rounded_units : (x : Float) → Number (raised x) → N (raised x) ≡ 0 → P (raised x) / U ≤ 65536 → rounded x ≡ P (raised x) / U
unfolding rounded raised half
rounded_units x n e l = truncated 64 (raised x) n e (narrow (P (raised x) / U) l)
  where
    narrow : (j : ℕ) → j ≤ 65536 → j ≤ 2 ^ 64 - 1
    narrow j l = omega arith

below_next : (p u h : ℕ) → p ≤ 65537 * h → 2 * h ≡ u → 0 < u → p < 32769 * u
below_next p u h a b c = omega arith

-- What is cut off a sample between the ends is at most 32768.
pub rounded_most : (x : Float) → Full x → rounded x ≤ 32768
rounded_most x f =
    let r = raise x f in
    let few : P (raised x) / U ≤ 32768 = le_of_suc-le-suc ((div-lt_iff_lt-mul U_pos).1 (below_next (P (raised x)) U h r.few two_halves U_pos)) in
    let e = rounded_units x r.number r.none_below (omega arith) in
    omega arith

-- What a cast to a whole number asks of the sum.
pub castable : (x m : Float) → m ≡ magnitude x → Full x
    → T (lt (fin true 1 (pos 0)) (add binary32 m (of_bits binary32 0x3f00_0000))) × T (lt (add binary32 m (of_bits binary32 0x3f00_0000)) (fin false 1 (pos 64)))
unfolding raised half
castable x m e f =
    let r = raise x f in
    let y = raised x in
    let a = minus_one in
    let b = two_to_64 in
    rw e (
      units→lt (fin true 1 (pos 0)) y a.number r.number (over (P (fin true 1 (pos 0))) (N (fin true 1 (pos 0))) (P y) (N y) U a.plus a.minus r.none_below U_pos),
      units→lt y (fin false 1 (pos 64)) r.number b.number (under (P (fin false 1 (pos 64))) (N (fin false 1 (pos 64))) (P y) (N y) (32769 * U) (2 ^ 64 * U) b.plus b.minus r.none_below (below_next (P y) U h r.few two_halves U_pos) (mul-le-mul_right U (lit≤ tt))),
    )
  where
    over : (p n q m u : ℕ) → p ≡ 0 → n ≡ u → m ≡ 0 → 0 < u → p + m < q + n
    over p n q m u a b c d = omega arith

    under : (p n q m w z : ℕ) → p ≡ z → n ≡ 0 → m ≡ 0 → q < w → w ≤ z → q + n < p + m
    under p n q m w z a b c d e = omega arith

-- ---- the number of a sample, by its cases
pub number_beyond : (x : Float) → full_scale x ≡ false → number_of x ≡ 0
unfolding number_of
number_beyond x f = rw f

pub number_below : (x : Float) → full_scale x ≡ true → lt x nought ≡ true → number_of x ≡ (65536 - rounded x) % 65536
unfolding number_of
number_below x f l = rw (f, l)

pub number_above : (x : Float) → full_scale x ≡ true → lt x nought ≡ false → number_of x ≡ rounded x
unfolding number_of
number_above x f l = rw (f, l)

-- what the code cuts off
pub cut_off : (x : Float) {m : Float} {r : ℕ} → m ≡ magnitude x → r ≡ to_unsigned 64 (add binary32 m (of_bits binary32 0x3f00_0000)) → r ≡ rounded x
unfolding rounded
cut_off x e f = rw (← e) f

-- ---- a whole number comes back
raised_units : (k : ℕ) → k ≤ 65536 → rnd ((k * 2 + 1) * h) 1 ≡ (k * 2 + 1) * h
unfolding h
raised_units k l = ap (λ (z : ℕ). rnd z 1) (sym (mul-one ((k * 2 + 1) * 2 ^ 148))) ∙ rnd_exact (k * 2 + 1) 148 1 (lit< tt) (few k l)
  where
    few : (k : ℕ) → k ≤ 65536 → k * 2 + 1 < 2 ^ 24
    few k l = omega arith

raised_room : (k : ℕ) → k ≤ 65536 → (k * 2 + 1) * h < limit
unfolding h limit
raised_room k l =
    let few : k * 2 + 1 ≤ 131073 = omega arith in
    lt_of_le_of_lt (mul-le-mul_right (2 ^ 148) few) (lit< tt)

-- A number of so many whole ones is rounded to them.
rounded_whole : (x : Float) (k : ℕ) → Number x → size x ≡ k * U → k ≤ 65536 → rounded x ≡ k
rounded_whole x k n s l =
    let m = magnitude_value x n in
    let sum : P (magnitude x) + P half ≡ (k * 2 + 1) * h = joined (P (magnitude x)) (P half) (size x) k U h m.plus half_value.plus s two_halves in
    let plus : rnd (P (magnitude x) + P half - 0) 1 ≡ (k * 2 + 1) * h = ap (λ (z : ℕ). rnd z 1) (sub-zero (P (magnitude x) + P half) ∙ sum) ∙ raised_units k l in
    let minus : rnd (0 - (P (magnitude x) + P half)) 1 ≡ 0 = ap (λ (z : ℕ). rnd z 1) (zero-sub (P (magnitude x) + P half)) ∙ rnd_zero 1 (lit< tt) in
    let v = (raised_rounds x n).value (subst (λ (z : ℕ). z < limit) (sym plus) (raised_room k l)) (subst (λ (z : ℕ). z < limit) (sym minus) limit_pos) in
    let cut : P (raised x) / U ≡ k =
    ap₂ ◌/◌ (v.plus ∙ plus) (sym two_halves) ∙ mul-div-mul_right (k * 2 + 1) 2 h_pos ∙ halved k
    in
    rounded_units x v.number (v.minus ∙ minus) (omega arith) ∙ cut
  where
    joined : (p q s k u h : ℕ) → p ≡ s → q ≡ h → s ≡ k * u → 2 * h ≡ u → p + q ≡ (k * 2 + 1) * h
    joined p q s k u h a b c d =
        let e : k * (2 * h) ≡ k * u = ap (λ (z : ℕ). k * z) d in
        omega arith

    halved : (k : ℕ) → (k * 2 + 1) / 2 ≡ k
    halved k = omega arith

-- A sample of so many whole ones, above zero or below it, lies between the ends.
between_ends : (x : Float) (p n : ℕ) → Value x (p * U) (n * U) → p ≤ 32767 → n ≤ 32768 → full_scale x ≡ true
unfolding full_scale
between_ends x p n v l k =
    let low = bottom_value in
    let high = top_value in
    let a : le (of_bits binary32 0xc700_0000) x ≡ true =
    le_units (of_bits binary32 0xc700_0000) x low.number v.number
    ∙ le-leb _ _ (over _ _ _ _ U p n low.plus low.minus v.plus v.minus k)
    in
    let b : le x (of_bits binary32 0x46ff_fe00) ≡ true =
    le_units x (of_bits binary32 0x46ff_fe00) v.number high.number
    ∙ le-leb _ _ (under _ _ _ _ U p n high.plus high.minus v.plus v.minus l)
    in
    rw (a, b)
  where
    over : (lp ln xp xn u p n : ℕ) → lp ≡ 0 → ln ≡ 32768 * u → xp ≡ p * u → xn ≡ n * u → n ≤ 32768 → lp + xn ≤ xp + ln
    over lp ln xp xn u p n a b c d e =
        let m : n * u ≤ 32768 * u = mul-le-mul_right u e in
        omega arith

    under : (hp hn xp xn u p n : ℕ) → hp ≡ 32767 * u → hn ≡ 0 → xp ≡ p * u → xn ≡ n * u → p ≤ 32767 → xp + hn ≤ hp + xn
    under hp hn xp xn u p n a b c d e =
        let m : p * u ≤ 32767 * u = mul-le-mul_right u e in
        omega arith

-- A number is the sides' sum from zero.
size_is : (x : Float) (p n k : ℕ) → Value x p n → p + n ≡ k → size x ≡ k
size_is x p n k v e = sym (sides x v.number).both ∙ ap₂ ◌+◌ v.plus v.minus ∙ e

not_below : (x : Float) (p : ℕ) → Value x (p * U) (0 * U) → lt x nought ≡ false
not_below x p v =
    lt_units x nought v.number nought_value.number
    ∙ le-ltb _ _ (none _ _ _ _ U p nought_value.plus nought_value.minus v.plus v.minus)
  where
    none : (op on xp xn u p : ℕ) → op ≡ 0 → on ≡ 0 → xp ≡ p * u → xn ≡ 0 * u → op + xn ≤ xp + on
    none op on xp xn u p a b c d = omega arith

below : (x : Float) (p : ℕ) → Value x (0 * U) (p * U) → 0 < p → lt x nought ≡ true
below x p v s =
    lt_units x nought v.number nought_value.number
    ∙ lt-ltb _ _ (some _ _ _ _ U p nought_value.plus nought_value.minus v.plus v.minus (mul-le-mul_right U s) U_pos)
  where
    some : (op on xp xn u p : ℕ) → op ≡ 0 → on ≡ 0 → xp ≡ 0 * u → xn ≡ p * u → 1 * u ≤ p * u → 0 < u → xp + on < op + xn
    some op on xp xn u p a b c d e f = omega arith

-- A sample that was read lies between the ends, and its number is the one that was read.
pub record Back (n : ℕ) (x : Float) : Type 0 where
  pub full_scale_lem : full_scale x ≡ true
  pub number : number_of x ≡ n

pub sound_back : (n : ℕ) → n < 65536 → Back n (sound_of n)
unfolding sound_of
sound_back n l = go (nat_lt n 32768) refl
  where
    turned : (n : ℕ) → 32768 ≤ n → n < 65536 → (65536 - (65536 - n)) % 65536 ≡ n
    turned n j l = omega arith

    go : (b : Bool) → nat_lt n 32768 ≡ b → Back n (cond b (of_int binary32 (pos n)) (neg (of_int binary32 (pos (65536 - n)))))
    go true t =
        let k : n ≤ 32767 = omega (arith, ltb-true n 32768 t) in
        let x = of_int binary32 (pos n) in
        let w = whole_number n (omega arith) in
        let v : Value x (n * U) (0 * U) = record { number = w.number; plus = w.plus; minus = w.minus ∙ sym (zero-mul U) } in
        let f = between_ends x n 0 v k (omega arith) in
        let r = rounded_whole x n v.number (size_is x (n * U) (0 * U) (n * U) v (omega arith)) (omega arith) in
        record { full_scale_lem = f; number = number_above x f (not_below x n v) ∙ r }
    go false t =
        let j : 32768 ≤ n = ltb-false n 32768 t in
        let k = 65536 - n in
        let y = of_int binary32 (pos k) in
        let w = whole_number k (omega arith) in
        let m = neg_value y w.number in
        let v : Value (neg y) (0 * U) (k * U) = record { number = m.number; plus = m.plus ∙ w.minus ∙ sym (zero-mul U); minus = m.minus ∙ w.plus } in
        let f = between_ends (neg y) 0 k v (omega arith) (omega arith) in
        let r = rounded_whole (neg y) k v.number (size_is (neg y) (0 * U) (k * U) (k * U) v (omega arith)) (omega arith) in
        record { full_scale_lem = f; number = number_below (neg y) f (below (neg y) k v (omega arith)) ∙ ap (λ (z : ℕ). (65536 - z) % 65536) r ∙ turned n j l }

-- The number of a sample that was read is the number that was read.
pub number_back : (n : ℕ) → n < 65536 → number_of (sound_of n) ≡ n
number_back n l = (sound_back n l).number
