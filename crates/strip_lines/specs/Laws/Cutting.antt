-- The hundredths of a figure, by the fields of its bits.
-- Assumes nothing.
use Rattle.std.specs.Prelude.{◌≡◌, refl, Bool, true, false, not, ◌&&◌, ◌||◌, [], ◌∷◌, ℕ, suc, ◌+◌, ◌-◌, ◌*◌, ◌/◌, ◌%◌, ◌^◌, ◌≤◌, ◌<◌, ℤ, eqb, ltb, Float}
use Rattle.std.proofs.Common.{sym, ap, ap₂, ◌∙◌, subst, inl, inr, zero-add, mul_assoc, mul_comm, mul-div_cancel, le-div_iff_mul-le, mul-lt-mul_of_pos_right, mul-le-mul, lt_of_lt_of_le, lt_of_le_of_lt, le_of_eq, le_trans, lt_irrefl, ltb→lt, nltb→le, lit<, lit≤, pow-add, pow_pos, pow_mono, shl_lt}
use Rattle.std.proofs.Math.Nat.{mul-div-mul_right, div-eq_of_lt}
use native.Mathlib.Omega.{arith}
use Rattle.std.proofs.Math.Dec.{T, eqb_refl}
use Rattle.std.specs.Float.{nan, inf, fin}
use Rattle.std.specs.Float.Ieee.{binary32, up, down, fits, le, lt, eq, of_bits, to_bits}
use Rattle.std.specs.Float.Ieee as Ieee
use Rattle.std.specs.Float.Ieee.Digits.{back, size-le, size_reaches}
use Rattle.std.specs.Float.Ieee.Fits.{kept-lt, and_i, and_l, and_r}
use Rattle.std.specs.Float.Ieee.Bits.{is_true}
use Rattle.lists.specs.Tests.{each_passed}
use Rattle.rounding.specs.Units.{U, size, P, N, Number, Value, In}
use Rattle.rounding.specs.Laws.Whole.{digits_of, sides}
use Rattle.rounding.specs.Laws.Order.{between, le_box, le→units, units→le}
use Rattle.rounding.specs.Laws.Exact.{constant_number}
use Rattle.floats.specs.Kinds.{magnitude}
use Rattle.floats.specs.Laws.Kinds.{passed}
use Rattle.bits.specs.Floats.{pattern_of}
use Rattle.units.specs.Ranges.{closed}
use Rattle.units.specs.Replies.{done}
use Rattle.units.specs.Laws.Replies.{none_refused}
use Rattle.units.specs.Figures as Figures
use Rattle.strip_lines.specs.Lines.{minus, decimal, hundredths, figure}
use Rattle.strip_lines.specs.Calls.{record_refusal}

-- ---- the fields of a number's bits: 24 digits, of which the highest is hidden, and how many zeros come after them, in units
pub record Fields (x : Float) : Type 0 where
  pub zeros : ℕ
  pub digits : ℕ
  pub bits : pattern_of (magnitude x) ≡ zeros * 8388608 + digits
  pub few : digits < 16777216
  pub full : 0 < zeros → 8388608 ≤ digits
  pub are : size x ≡ digits * 2 ^ zeros

-- the digits that are kept of n, where n is of 24 digits and zeros
module _ (n d z : ℕ) (few : d < 2 ^ 24) (is : n ≡ d * 2 ^ z) where
  dropped : ℕ
  dropped = Ieee.size n - 24

  no_more : dropped ≤ z
  unfolding dropped
  no_more = let l = size-le n (24 + z) (subst (λ (a : ℕ). a < 2 ^ (24 + z)) (sym is) (shl_lt 24 z few)) in omega arith

  exact : n ≡ n / 2 ^ dropped * 2 ^ dropped
  exact =
      let k = dropped in
      let whole : n ≡ d * 2 ^ (z - k) * 2 ^ k =
      is ∙ ap (λ (a : ℕ). d * 2 ^ a) (sym (back z k no_more)) ∙ ap (λ (a : ℕ). d * a) (pow-add 2 (z - k) k) ∙ sym (mul_assoc d (2 ^ (z - k)) (2 ^ k))
      in
      let kept : n / 2 ^ k ≡ d * 2 ^ (z - k) = ap (λ (a : ℕ). a / 2 ^ k) whole ∙ mul-div_cancel (d * 2 ^ (z - k)) (pow_pos k) in
      whole ∙ ap (λ (a : ℕ). a * 2 ^ k) (sym kept)

  leads : 0 < dropped → 8388608 ≤ n / 2 ^ dropped
  unfolding dropped
  leads h =
      let k = Ieee.size n - 24 in
      let in_size : 23 + k < Ieee.size n = omega arith in
      (le-div_iff_mul-le (pow_pos k)).1 (subst (λ (a : ℕ). a ≤ n) (pow-add 2 23 k) (size_reaches n (23 + k) in_size))

equal_to_itself : (m : ℕ) (e : ℤ) → eq (fin false m e) (fin false m e) ≡ true
unfolding eq
equal_to_itself m e = ap (λ (b : Bool). b && true) (is_true (eqb (m * up e * down e) (m * up e * down e)) (eqb_refl (m * up e * down e)))

pattern : (s : Bool) (m : ℕ) (e : ℤ) → pattern_of (magnitude (fin s m e))
    ≡ (Ieee.size (size (fin s m e)) - 24) * 8388608 + size (fin s m e) / 2 ^ (Ieee.size (size (fin s m e)) - 24)
unfolding pattern_of magnitude to_bits size U
pattern s m e =
    rw (equal_to_itself m e)
    (ap (λ (z : ℕ). z + size (fin s m e) / 2 ^ (Ieee.size (size (fin s m e)) - 24)) (zero-add ((Ieee.size (size (fin s m e)) - 24) * 8388608)))

pub fields : (x : Float) → Number x → Fields x
fields nan h = absurd h.real
fields (inf s) h = absurd h.real
fields (fin s m e) h =
    let x = fin s m e in
    let d = digits_of x h in
    record {
      zeros = dropped (size x) d.digits d.zeros d.few d.are;
      digits = size x / 2 ^ dropped (size x) d.digits d.zeros d.few d.are;
      bits = unfold dropped in pattern s m e;
      few = unfold dropped in kept-lt 24 (size x);
      full = leads (size x) d.digits d.zeros d.few d.are;
      are = exact (size x) d.digits d.zeros d.few d.are;
    }

-- ---- the range of what is printed: -150 to 150
abbrev lowest : Float
lowest = of_bits binary32 0xc316_0000

abbrev highest : Float
highest = of_bits binary32 0x4316_0000

lowest_value : Value lowest 0 (150 * U)
unfolding P N size of_bits U
lowest_value = record { number = constant_number 0xc316_0000 tt; plus = refl; minus = refl }

highest_value : Value highest (150 * U) 0
unfolding P N size of_bits U
highest_value = record { number = constant_number 0x4316_0000 tt; plus = refl; minus = refl }

in_range : (x : Float) → T (fits binary32 x) → closed lowest x highest ≡ true → In lowest highest x
in_range x t c =
    let a = and_l (le lowest x) (le x highest) (passed c) in
    let b = and_r (le lowest x) (le x highest) (passed c) in
    le_box lowest highest x lowest_value.number highest_value.number (between lowest highest x lowest_value.number highest_value.number t a b) a b

-- a range within that one
within : (lo hi x : Float) → Number lo → Number hi → T (fits binary32 x) → T (le lo x) → T (le x hi) → T (le lowest lo) → T (le hi highest)
    → closed lowest x highest ≡ true
within lo hi x l h t a b c d =
    let n = between lo hi x l h t a b in
    let below = le→units lowest lo lowest_value.number l c in
    let above = le→units hi highest h highest_value.number d in
    let from = le→units lo x l n a in
    let to = le→units x hi n h b in
    is_true (closed lowest x highest)
    (and_i (le lowest x) (le x highest)
    (units→le lowest x lowest_value.number n (omega arith))
    (units→le x highest n highest_value.number (omega arith)))

lt→le : (x y : Float) → T (lt x y) → T (le x y)
unfolding le
lt→le x y t = go (lt x y) (eq x y) t
  where
    go : (p q : Bool) → T p → T (p || q)
    go true q t = tt
    go false q t = absurd t

-- the figures that are not refused are in it
pub record Printed (level headroom gain : Float) : Type 0 where
  pub first : closed lowest level highest ≡ true
  pub second : closed lowest headroom highest ≡ true
  pub third : closed lowest gain highest ≡ true

pub printed : (l h g : Float) → T (fits binary32 l) → T (fits binary32 h) → T (fits binary32 g) → record_refusal l h g ≡ done → Printed l h g
unfolding record_refusal
printed l h g tl th tg e =
    let all = (none_refused true true (Figures.level l && Figures.headroom h && Figures.gain g) true e).2 in
    let p = each_passed (Figures.level l ∷ Figures.headroom h ∷ Figures.gain g ∷ []) (passed all) in
    let nought = of_bits binary32 0x0000_0000 in
    let zero_number = constant_number 0x0000_0000 (unfold of_bits in tt) in
    let z : T (le lowest nought) = unfold le lt eq of_bits in tt in
    record {
      first =
          within lowest (of_bits binary32 0x4248_0000) l lowest_value.number (constant_number 0x4248_0000 (unfold of_bits in tt)) tl
          (and_l (le lowest l) (le l (of_bits binary32 0x4248_0000)) (p 0)) (and_r (le lowest l) (le l (of_bits binary32 0x4248_0000)) (p 0))
          (unfold le lt eq of_bits in tt) (unfold le lt eq of_bits in tt);
      second =
          within nought (of_bits binary32 0x42c8_0000) h zero_number (constant_number 0x42c8_0000 (unfold of_bits in tt)) th
          (lt→le nought h (and_l (lt nought h) (le h (of_bits binary32 0x42c8_0000)) (p 1))) (and_r (lt nought h) (le h (of_bits binary32 0x42c8_0000)) (p 1))
          z (unfold le lt eq of_bits in tt);
      third =
          within nought (of_bits binary32 0x424c_0000) g zero_number (constant_number 0x424c_0000 (unfold of_bits in tt)) tg
          (and_l (le nought g) (le g (of_bits binary32 0x424c_0000)) (p 2)) (and_r (le nought g) (le g (of_bits binary32 0x424c_0000)) (p 2))
          z (unfold le lt eq of_bits in tt);
    }

bounded : (x : Float) → In lowest highest x → size x ≤ 150 * U
bounded x i =
    let l = lowest_value in
    let h = highest_value in
    let s = sides x i.number in
    elim s.one [
      | inl z ↦ omega (arith, s.both, i.above, i.below, l.plus, l.minus, h.plus, h.minus)
      | inr z ↦ omega (arith, s.both, i.above, i.below, l.plus, l.minus, h.plus, h.minus)
    ]

-- ---- the hundredths, by the fields
cut_small : (k q : ℕ) → k ≤ 118 → q < 16777216 → 100 * (q * 2 ^ k) / 2 ^ 149 ≡ 0
cut_small k q a b =
    let l : q * 2 ^ k < 2 ^ 142 = lt_of_lt_of_le (shl_lt 24 k b) (pow_mono {i = 24 + k} {j = 142} (omega arith)) in
    div-eq_of_lt
    (lt_of_le_of_lt (le_of_eq (mul_comm 100 (q * 2 ^ k)))
    (lt_of_lt_of_le (mul-lt-mul_of_pos_right l (lit< {m = 0} {n = 100} tt)) (lit≤ tt)))

cut_large : (k q : ℕ) → k ≤ 149 → 100 * (q * 2 ^ k) / 2 ^ 149 ≡ 100 * q / 2 ^ (149 - k)
cut_large k q h =
    ap₂ (λ (a b : ℕ). a / b) (sym (mul_assoc 100 q (2 ^ k))) (ap (λ (i : ℕ). 2 ^ i) (sym (back 149 k h)) ∙ pow-add 2 (149 - k) k)
    ∙ mul-div-mul_right (100 * q) (2 ^ (149 - k)) (pow_pos k)

not_so_many : (k q : ℕ) → (0 < k → 8388608 ≤ q) → q * 2 ^ k ≤ 150 * 2 ^ 149 → k < 149
not_so_many k q f l = go (ltb k 149) (ltb→lt k 149) (nltb→le k 149)
  where
    go : (b : Bool) → (T b → k < 149) → (T (not b) → 149 ≤ k) → k < 149
    go true small large = small tt
    go false small large =
        let h = large tt in
        absurd (lt_irrefl (150 * 2 ^ 149) (lt_of_lt_of_le (lit< tt) (le_trans (mul-le-mul (f (omega arith)) (pow_mono {i = 149} {j = k} h)) l)))

-- The magnitude's bits tell the hundredths: none where the exponent is below 119, and otherwise the 24 digits, a hundredfold, cut.
pub record Cut (x : Float) (bits : ℕ) : Type 0 where
  pub none : bits / 8388608 < 119 → hundredths x ≡ 0
  pub room : bits / 8388608 < 150
  pub some : 119 ≤ bits / 8388608 → hundredths x ≡ 100 * (bits % 8388608 + 8388608) / 2 ^ (150 - bits / 8388608)

cut_fields : (n k q b : ℕ) → n ≡ q * 2 ^ k → n ≤ 150 * 2 ^ 149 → b ≡ k * 8388608 + q → q < 16777216 → (0 < k → 8388608 ≤ q)
    → (b / 8388608 < 119 → 100 * n / 2 ^ 149 ≡ 0)
    × (b / 8388608 < 150)
    × (119 ≤ b / 8388608 → 100 * n / 2 ^ 149 ≡ 100 * (b % 8388608 + 8388608) / 2 ^ (150 - b / 8388608))
cut_fields n k q b is l e few full =
    let m = not_so_many k q full (subst (λ (a : ℕ). a ≤ 150 * 2 ^ 149) is l) in
    let top : b / 8388608 ≤ suc k = omega arith in (
      λ (h : b / 8388608 < 119). ap (λ (a : ℕ). 100 * a / 2 ^ 149) is ∙ cut_small k q (omega arith) few,
      omega arith,
      λ (h : 119 ≤ b / 8388608).
          let some : 0 < k = omega arith in
          let lead = full some in
          let x : b / 8388608 ≡ suc k = omega arith in
          let d : b % 8388608 + 8388608 ≡ q = omega arith in
          let i : 149 - k ≡ 150 - b / 8388608 = omega arith in
          ap (λ (a : ℕ). 100 * a / 2 ^ 149) is
          ∙ cut_large k q (omega arith)
          ∙ ap₂ (λ (a j : ℕ). 100 * a / 2 ^ j) (sym d) i,
    )

pub cut : (x m : Float) (b : ℕ) → m ≡ magnitude x → b ≡ pattern_of m → T (fits binary32 x) → closed lowest x highest ≡ true → Cut x b
unfolding hundredths U
cut x m b e f t c =
    let i = in_range x t c in
    let d = fields x i.number in
    let r = cut_fields (size x) d.zeros d.digits b d.are (bounded x i) (f ∙ ap pattern_of e ∙ d.bits) d.few d.full in
    record { none = r.0; room = r.1; some = r.2 }

-- ---- a figure that is below zero by a hundredth or more is signed, and no other
pub signed : (x : Float) (n : ℕ) → n ≡ hundredths x → lt x (of_bits binary32 0x0000_0000) && ltb 0 n ≡ true → figure x ≡ minus ∷ decimal n
unfolding figure
signed x n e t = rw (← e, t)

pub unsigned : (x : Float) (n : ℕ) → n ≡ hundredths x → lt x (of_bits binary32 0x0000_0000) && ltb 0 n ≡ false → figure x ≡ decimal n
unfolding figure
unsigned x n e t = rw (← e, t)
