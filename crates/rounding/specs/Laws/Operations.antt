-- Each operation's result is the rounding of its exact value, whatever the signs: `add_rounds`, `sub_rounds`, `mul_rounds`, `div_rounds`.
use Rattle.std.specs.Prelude.{◌≡◌, refl, Bool, true, false, not, cond, ℕ, zero, suc, ◌+◌, ◌-◌, ◌*◌, ◌/◌, ◌^◌, ◌≤◌, ◌<◌, ℤ, T, ltb, eqb, Float}
use Rattle.std.proofs.Common.{sym, ap, ap₂, ◌∙◌, subst, zero-le, le_of_eq, le_of_lt, le_trans, lt_irrefl, mul_assoc, mul_comm, mul_right_comm, mul-one, add-mul, mul-pos, mul-le-mul_right, le_of_mul-le-mul_right, mul-div_cancel, sub-eq-zero_of_le, add-zero, zero-add, zero-mul, zero-lt-suc, arith, ltb→lt, nltb→le, lit<}
use Rattle.std.proofs.Math.Nat.{mul-sub, sub-zero, zero-div, mul-mul-mul_comm}
use Rattle.std.proofs.Math.Dec.{eqb-suc-zero}
use Rattle.std.specs.Float.{nan, inf, fin, binary32}
use Rattle.std.specs.Float.Ieee.{up, down, round, sum, add, sub, mul, div, neg, fits, units, odd}
use Rattle.std.specs.Float.Ieee.Exact.{HasValue, units_val}
use Rattle.std.specs.Float.Ieee.Fits.{up_pos, down_pos, round_is, round-fits, neg-fits}
use Rattle.std.specs.Float.Ieee.Scale.{finite}
use Rattle.std.specs.Float.Ieee.Order.{drop, kept}
use Rattle.rounding.specs.Units.{U, limit, size, P, N, Number, Value, rnd, Rounding}
use Rattle.rounding.specs.Laws.Rnd.{rnd_same, rnd_zero}
use Rattle.rounding.specs.Laws.Whole.{U_pos, limit_pos, whole}

-- ---- a rounded fraction, in units
from_value : (x : Float) (s : Bool) (g : ℕ) → T (fits binary32 x) → HasValue x s g U → Value x (cond s 0 g) (cond s g 0)
unfolding P N size
from_value nan s g t h = absurd h
from_value (inf r) s g t h = absurd h
from_value (fin r m e) s g t h =
    let are : m * up e * U / down e ≡ g = ap (λ (x : ℕ). x / down e) h.1 ∙ mul-div_cancel g (down_pos e) in
    record {
      number = record { real = tt; held = t };
      plus = ap (λ (b : Bool). cond b 0 (m * up e * U / down e)) h.0 ∙ ap (λ (x : ℕ). cond s 0 x) are;
      minus = ap (λ (b : Bool). cond b (m * up e * U / down e) 0) h.0 ∙ ap (λ (x : ℕ). cond s x 0) are;
    }

pub rounded : (s : Bool) (a c : ℕ) → rnd (a * U) c < limit → Value (round binary32 s a c) (cond s 0 (rnd (a * U) c)) (cond s (rnd (a * U) c) 0)
unfolding rnd U limit
rounded s a c h =
    let n = a * 2 ^ 149 in
    from_value (round binary32 s a c) s (kept 24 n c * 2 ^ drop 24 n c) (round-fits binary32 s a c)
    (subst (λ (x : Float). HasValue x s (kept 24 n c * 2 ^ drop 24 n c) (2 ^ 149)) (sym (round_is binary32 s a c)) (units_val binary32 s (kept 24 n c) (drop 24 n c) h))

units_under : (s : Bool) (q k : ℕ) → T (finite (units binary32 s q k)) → q * 2 ^ k < 2 ^ 277
unfolding units
units_under s q k = go (ltb (q * 2 ^ k) (2 ^ 277)) (ltb→lt (q * 2 ^ k) (2 ^ 277))
  where
    go : (b : Bool) → (T b → q * 2 ^ k < 2 ^ 277) → T (finite (cond b (odd 25 s q k 149) (inf s))) → q * 2 ^ k < 2 ^ 277
    go true h t = h tt
    go false h t = absurd t

-- a result that is a number was below the limit
under : (s : Bool) (a c : ℕ) → T (finite (round binary32 s a c)) → rnd (a * U) c < limit
unfolding rnd U limit
under s a c t =
    let n = a * 2 ^ 149 in
    units_under s (kept 24 n c) (drop 24 n c) (subst (λ (z : Float). T (finite z)) (round_is binary32 s a c) t)

-- the exact value p - n is not negative, and equals a * U / c
upward : (a c p n v : ℕ) → 0 < c → 0 < v → n ≤ p → a * U * v ≡ (p - n) * c → Rounding (round binary32 false a c) p n v
upward a c p n v C D le e =
    let same : rnd (a * U) c ≡ rnd (p - n) v = rnd_same (a * U) c (p - n) v C D e in
    let none : rnd (n - p) v ≡ 0 = ap (λ (x : ℕ). rnd x v) (sub-eq-zero_of_le le) ∙ rnd_zero v D in
    record {
      value = λ (small : rnd (p - n) v < limit) (small' : rnd (n - p) v < limit).
          let r = rounded false a c (subst (λ (x : ℕ). x < limit) (sym same) small) in
          record { number = r.number; plus = r.plus ∙ same; minus = r.minus ∙ sym none };
      under = λ (t : T (finite (round binary32 false a c))). (subst (λ (x : ℕ). x < limit) same (under false a c t), subst (λ (x : ℕ). x < limit) (sym none) limit_pos);
    }

-- it is not positive
downward : (a c p n v : ℕ) → 0 < c → 0 < v → p ≤ n → a * U * v ≡ (n - p) * c → Rounding (round binary32 true a c) p n v
downward a c p n v C D le e =
    let same : rnd (a * U) c ≡ rnd (n - p) v = rnd_same (a * U) c (n - p) v C D e in
    let none : rnd (p - n) v ≡ 0 = ap (λ (x : ℕ). rnd x v) (sub-eq-zero_of_le le) ∙ rnd_zero v D in
    record {
      value = λ (small : rnd (p - n) v < limit) (small' : rnd (n - p) v < limit).
          let r = rounded true a c (subst (λ (x : ℕ). x < limit) (sym same) small') in
          record { number = r.number; plus = r.plus ∙ sym none; minus = r.minus ∙ same };
      under = λ (t : T (finite (round binary32 true a c))). (subst (λ (x : ℕ). x < limit) (sym none) limit_pos, subst (λ (x : ℕ). x < limit) same (under true a c t));
    }

-- ---- two numbers over one denominator: a / c and b / c are X and Y units
module _ (a b c X Y : ℕ) (C : 0 < c) (ea : a * U ≡ X * c) (eb : b * U ≡ Y * c) where
  sum_eq : (a + b) * U * 1 ≡ (X + Y) * c
  sum_eq = mul-one ((a + b) * U) ∙ add-mul a b U ∙ ap (λ (x : ℕ). x + b * U) ea ∙ ap (λ (x : ℕ). X * c + x) eb ∙ sym (add-mul X Y c)

  order : b ≤ a → Y ≤ X
  order h = le_of_mul-le-mul_right (le_trans (le_of_eq (sym eb)) (le_trans (mul-le-mul_right U h) (le_of_eq ea))) C

  diff_eq : (a - b) * U * 1 ≡ (X - Y) * c
  diff_eq =
      mul-one ((a - b) * U)
      ∙ mul_comm (a - b) U
      ∙ mul-sub U a b
      ∙ ap (λ (x : ℕ). x - U * b) (mul_comm U a ∙ ea)
      ∙ ap (λ (x : ℕ). X * c - x) (mul_comm U b ∙ eb)
      ∙ ap (λ (x : ℕ). x - Y * c) (mul_comm X c)
      ∙ ap (λ (x : ℕ). c * X - x) (mul_comm Y c)
      ∙ sym (mul-sub c X Y)
      ∙ mul_comm c (X - Y)

-- ---- the sum
-- a / c and b / c on the two sides of zero: `sum` tests which is the larger, and a difference of nothing is +0
apart : (s : Bool) (a b c X Y : ℕ) → 0 < c → a * U ≡ X * c → b * U ≡ Y * c
    → Rounding (sum binary32 s a (not s) b c) (cond s Y X) (cond s X Y) 1
unfolding sum
apart false a b c X Y C ea eb = go (ltb a b) (ltb→lt a b) (nltb→le a b)
  where
    go : (l : Bool) → (T l → a < b) → (T (not l) → b ≤ a) → Rounding (cond l (round binary32 true (b - a) c) (round binary32 false (a - b) c)) X Y 1
    go true h k = downward (b - a) c X Y 1 C (lit< tt) (order b a c Y X C eb ea (le_of_lt (h tt))) (diff_eq b a c Y X C eb ea)
    go false h k = upward (a - b) c X Y 1 C (lit< tt) (order a b c X Y C ea eb (k tt)) (diff_eq a b c X Y C ea eb)
apart true a b c X Y C ea eb = go (ltb a b) (ltb b a) (ltb→lt a b) (nltb→le a b) (nltb→le b a)
  where
    go : (l g : Bool) → (T l → a < b) → (T (not l) → b ≤ a) → (T (not g) → a ≤ b) → Rounding (cond l (round binary32 false (b - a) c) (round binary32 g (a - b) c)) Y X 1
    go true g h k j = upward (b - a) c Y X 1 C (lit< tt) (order b a c Y X C eb ea (le_of_lt (h tt))) (diff_eq b a c Y X C eb ea)
    go false true h k j = downward (a - b) c Y X 1 C (lit< tt) (order a b c X Y C ea eb (k tt)) (diff_eq a b c X Y C ea eb)
    go false false h k j =
        let up-eq : (a - b) * U * 1 ≡ (Y - X) * c =
        diff_eq a b c X Y C ea eb ∙ ap (λ (x : ℕ). x * c) (sub-eq-zero_of_le (order b a c Y X C eb ea (j tt)) ∙ sym (sub-eq-zero_of_le (order a b c X Y C ea eb (k tt))))
        in
        upward (a - b) c Y X 1 C (lit< tt) (order b a c Y X C eb ea (j tt)) up-eq

-- on the same side
together : (s : Bool) (a b c X Y : ℕ) → 0 < c → a * U ≡ X * c → b * U ≡ Y * c
    → Rounding (sum binary32 s a s b c) (cond s 0 (X + Y)) (cond s (X + Y) 0) 1
unfolding sum
together false a b c X Y C ea eb = upward (a + b) c (X + Y) 0 1 C (lit< tt) (zero-le) (sum_eq a b c X Y C ea eb ∙ ap (λ (x : ℕ). x * c) (sym (sub-zero (X + Y))))
together true a b c X Y C ea eb = downward (a + b) c 0 (X + Y) 1 C (lit< tt) (zero-le) (sum_eq a b c X Y C ea eb ∙ ap (λ (x : ℕ). x * c) (sym (sub-zero (X + Y))))

-- the first number over the two denominators, and the second
pub over_first : (s : Bool) (m : ℕ) (e d : ℤ) → T (fits binary32 (fin s m e)) → m * up e * down d * U ≡ size (fin s m e) * (down e * down d)
over_first s m e d t = mul_right_comm (m * up e) (down d) U ∙ ap (λ (x : ℕ). x * down d) (whole s m e t) ∙ mul_assoc (size (fin s m e)) (down e) (down d)

pub over_second : (s : Bool) (m : ℕ) (e d : ℤ) → T (fits binary32 (fin s m e)) → m * up e * down d * U ≡ size (fin s m e) * (down d * down e)
over_second s m e d t = over_first s m e d t ∙ ap (λ (x : ℕ). size (fin s m e) * x) (mul_comm (down e) (down d))

pub change : (r : Float) (p n p' n' v : ℕ) → p ≡ p' → n ≡ n' → Rounding r p n v → Rounding r p' n' v
change r p n p' n' v e g h = subst (λ (x : ℕ). Rounding r x n' v) e (subst (λ (x : ℕ). Rounding r p x v) g h)

pub add_rounds : (x y : Float) → Number x → Number y → Rounding (add binary32 x y) (P x + P y) (N x + N y) 1
unfolding add P N
add_rounds nan y h k = absurd h.real
add_rounds (inf s) y h k = absurd h.real
add_rounds (fin s m e) nan h k = absurd k.real
add_rounds (fin s m e) (inf t) h k = absurd k.real
add_rounds (fin false m e) (fin false n d) h k =
    change _ _ _ _ _ 1 refl refl
    (together false (m * up e * down d) (n * up d * down e) (down e * down d) (size (fin false m e)) (size (fin false n d)) (mul-pos (down_pos e) (down_pos d)) (over_first false m e d h.held) (over_second false n d e k.held))
add_rounds (fin false m e) (fin true n d) h k =
    change _ (size (fin false m e)) (size (fin true n d)) _ _ 1 (sym (add-zero _)) (sym (zero-add _))
    (apart false (m * up e * down d) (n * up d * down e) (down e * down d) (size (fin false m e)) (size (fin true n d)) (mul-pos (down_pos e) (down_pos d)) (over_first false m e d h.held) (over_second true n d e k.held))
add_rounds (fin true m e) (fin false n d) h k =
    change _ (size (fin false n d)) (size (fin true m e)) _ _ 1 (sym (zero-add _)) (sym (add-zero _))
    (apart true (m * up e * down d) (n * up d * down e) (down e * down d) (size (fin true m e)) (size (fin false n d)) (mul-pos (down_pos e) (down_pos d)) (over_first true m e d h.held) (over_second false n d e k.held))
add_rounds (fin true m e) (fin true n d) h k =
    change _ _ _ _ _ 1 refl refl
    (together true (m * up e * down d) (n * up d * down e) (down e * down d) (size (fin true m e)) (size (fin true n d)) (mul-pos (down_pos e) (down_pos d)) (over_first true m e d h.held) (over_second true n d e k.held))

-- ---- the difference
-- -x is on the other side of zero
pub neg_value : (x : Float) → Number x → Value (neg x) (N x) (P x)
unfolding neg P N size
neg_value nan h = absurd h.real
neg_value (inf s) h = absurd h.real
neg_value (fin false m e) h = record { number = record { real = tt; held = neg-fits binary32 (fin false m e) h.held }; plus = refl; minus = refl }
neg_value (fin true m e) h = record { number = record { real = tt; held = neg-fits binary32 (fin true m e) h.held }; plus = refl; minus = refl }

pub sub_rounds : (x y : Float) → Number x → Number y → Rounding (sub binary32 x y) (P x + N y) (N x + P y) 1
unfolding sub
sub_rounds x y h k =
    let n = neg_value y k in
    change (add binary32 x (neg y)) (P x + P (neg y)) (N x + N (neg y)) (P x + N y) (N x + P y) 1
    (ap (λ (z : ℕ). P x + z) n.plus) (ap (λ (z : ℕ). N x + z) n.minus)
    (add_rounds x (neg y) h n.number)

-- ---- the product
product : (s t : Bool) (m : ℕ) (e : ℤ) (n : ℕ) (d : ℤ) → T (fits binary32 (fin s m e)) → T (fits binary32 (fin t n d))
    → m * up e * (n * up d) * U * U ≡ size (fin s m e) * size (fin t n d) * (down e * down d)
product s t m e n d h k =
    mul_assoc (m * up e * (n * up d)) U U
    ∙ mul-mul-mul_comm (m * up e) (n * up d) U U
    ∙ ap (λ (x : ℕ). x * (n * up d * U)) (whole s m e h)
    ∙ ap (λ (x : ℕ). size (fin s m e) * down e * x) (whole t n d k)
    ∙ mul-mul-mul_comm (size (fin s m e)) (down e) (size (fin t n d)) (down d)

alone : (z X Y : ℕ) → z ≡ (z + 0) - (X * 0 + 0 * Y)
alone z X Y = omega arith

alone' : (z X Y : ℕ) → z ≡ (0 + z) - (0 * Y + X * 0)
alone' z X Y = omega arith

pub mul_rounds : (x y : Float) → Number x → Number y → Rounding (mul binary32 x y) (P x * P y + N x * N y) (P x * N y + N x * P y) U
unfolding mul P N
mul_rounds nan y h k = absurd h.real
mul_rounds (inf s) y h k = absurd h.real
mul_rounds (fin s m e) nan h k = absurd k.real
mul_rounds (fin s m e) (inf t) h k = absurd k.real
mul_rounds (fin false m e) (fin false n d) h k =
    let X = size (fin false m e) in
    let Y = size (fin false n d) in
    upward (m * up e * (n * up d)) (down e * down d) (X * Y + 0) (X * 0 + 0 * Y) U (mul-pos (down_pos e) (down_pos d)) U_pos (omega arith)
    (product false false m e n d h.held k.held ∙ ap (λ (z : ℕ). z * (down e * down d)) (alone (X * Y) X Y))
mul_rounds (fin true m e) (fin true n d) h k =
    let X = size (fin true m e) in
    let Y = size (fin true n d) in
    upward (m * up e * (n * up d)) (down e * down d) (0 + X * Y) (0 * Y + X * 0) U (mul-pos (down_pos e) (down_pos d)) U_pos (omega arith)
    (product true true m e n d h.held k.held ∙ ap (λ (z : ℕ). z * (down e * down d)) (alone' (X * Y) X Y))
mul_rounds (fin false m e) (fin true n d) h k =
    let X = size (fin false m e) in
    let Y = size (fin true n d) in
    downward (m * up e * (n * up d)) (down e * down d) (X * 0 + 0 * Y) (X * Y + 0) U (mul-pos (down_pos e) (down_pos d)) U_pos (omega arith)
    (product false true m e n d h.held k.held ∙ ap (λ (z : ℕ). z * (down e * down d)) (alone (X * Y) X Y))
mul_rounds (fin true m e) (fin false n d) h k =
    let X = size (fin true m e) in
    let Y = size (fin false n d) in
    downward (m * up e * (n * up d)) (down e * down d) (0 * Y + X * 0) (0 + X * Y) U (mul-pos (down_pos e) (down_pos d)) U_pos (omega arith)
    (product true false m e n d h.held k.held ∙ ap (λ (z : ℕ). z * (down e * down d)) (alone' (X * Y) X Y))

-- ---- the quotient by a number above zero
quotient : (s t : Bool) (m : ℕ) (e : ℤ) (n : ℕ) (d : ℤ) → T (fits binary32 (fin s m e)) → T (fits binary32 (fin t n d))
    → m * up e * down d * U * size (fin t n d) ≡ size (fin s m e) * U * (n * up d * down e)
quotient s t m e n d h k =
    let X = size (fin s m e) in
    let Y = size (fin t n d) in
    let c = down e * down d in
    ap (λ (x : ℕ). x * Y) (over_first s m e d h)
    ∙ mul_right_comm X c Y
    ∙ mul_assoc X Y c
    ∙ ap (λ (x : ℕ). X * x) (sym (over_second t n d e k) ∙ mul_comm (n * up d * down e) U)
    ∙ sym (mul_assoc X U (n * up d * down e))

some_digits : (t : Bool) (n : ℕ) (d : ℤ) → 0 < size (fin t n d) → 0 < n
unfolding size
some_digits t zero d h = absurd (lt_irrefl 0 (subst (λ (x : ℕ). 0 < x) (ap (λ (x : ℕ). x / down d) (ap (λ (x : ℕ). x * U) (zero-mul (up d)) ∙ zero-mul U) ∙ zero-div (down d)) h))
some_digits t (suc n) d h = zero-lt-suc n

at_some : (n : ℕ) (x y : Float) → 0 < n → cond (eqb n 0) x y ≡ y
at_some zero x y h = absurd (lt_irrefl 0 h)
at_some (suc n) x y h = ap (λ (b : Bool). cond b x y) (eqb-suc-zero n)

none_le : (u x : ℕ) → 0 * u ≤ x
none_le u x = omega arith

pub div_rounds : (x y : Float) → Number x → Number y → 0 < P y → Rounding (div binary32 x y) (P x * U) (N x * U) (P y)
unfolding div P N
div_rounds nan y h k g = absurd h.real
div_rounds (inf s) y h k g = absurd h.real
div_rounds (fin s m e) nan h k g = absurd k.real
div_rounds (fin s m e) (inf t) h k g = absurd k.real
div_rounds (fin s m e) (fin true n d) h k g = absurd (lt_irrefl 0 g)
div_rounds (fin false m e) (fin false n d) h k g =
    let X = size (fin false m e) in
    let Y = size (fin false n d) in
    let pos-n = some_digits false n d g in
    subst (λ (r : Float). Rounding r (X * U) (0 * U) Y) (sym (at_some n _ _ pos-n))
    (upward (m * up e * down d) (n * up d * down e) (X * U) (0 * U) Y (mul-pos (mul-pos pos-n (up_pos d)) (down_pos e)) g (none_le U (X * U))
    (quotient false false m e n d h.held k.held ∙ ap (λ (z : ℕ). z * (n * up d * down e)) (sym (ap (λ (z : ℕ). X * U - z) (zero-mul U) ∙ sub-zero (X * U)))))
div_rounds (fin true m e) (fin false n d) h k g =
    let X = size (fin true m e) in
    let Y = size (fin false n d) in
    let pos-n = some_digits false n d g in
    subst (λ (r : Float). Rounding r (0 * U) (X * U) Y) (sym (at_some n _ _ pos-n))
    (downward (m * up e * down d) (n * up d * down e) (0 * U) (X * U) Y (mul-pos (mul-pos pos-n (up_pos d)) (down_pos e)) g (none_le U (X * U))
    (quotient true false m e n d h.held k.held ∙ ap (λ (z : ℕ). z * (n * up d * down e)) (sym (ap (λ (z : ℕ). X * U - z) (zero-mul U) ∙ sub-zero (X * U)))))

-- ---- of two numbers that are not below zero
pub add_above : (x y : Float) → Number x → Number y → N x ≡ 0 → N y ≡ 0 → Rounding (add binary32 x y) (P x + P y) 0 1
add_above x y h k e g = change (add binary32 x y) (P x + P y) (N x + N y) (P x + P y) 0 1 refl (ap₂ ◌+◌ e g) (add_rounds x y h k)

pub sub_above : (x y : Float) → Number x → Number y → N x ≡ 0 → N y ≡ 0 → Rounding (sub binary32 x y) (P x) (P y) 1
sub_above x y h k e g =
    change (sub binary32 x y) (P x + N y) (N x + P y) (P x) (P y) 1 (ap (λ (z : ℕ). P x + z) g ∙ add-zero (P x)) (ap (λ (z : ℕ). z + P y) e ∙ zero-add (P y)) (sub_rounds x y h k)

pub mul_above : (x y : Float) → Number x → Number y → N x ≡ 0 → N y ≡ 0 → Rounding (mul binary32 x y) (P x * P y) 0 U
mul_above x y h k e g =
    change (mul binary32 x y) (P x * P y + N x * N y) (P x * N y + N x * P y) (P x * P y) 0 U
    (ap (λ (z : ℕ). P x * P y + z * N y) e ∙ ap (λ (z : ℕ). P x * P y + z) (zero-mul (N y)) ∙ add-zero (P x * P y))
    (ap₂ (λ (a b : ℕ). P x * a + b * P y) g e ∙ gone (P x) (P y))
    (mul_rounds x y h k)
  where
    gone : (a b : ℕ) → a * 0 + 0 * b ≡ 0
    gone a b = omega arith
