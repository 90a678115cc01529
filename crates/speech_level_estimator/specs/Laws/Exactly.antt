-- 151 times an f32 is exact in f64, so the code's test of a sum in f64 is the definition's in whole units. Laws.
-- Assumes nothing.
use Rattle.std.specs.Prelude.{◌≡◌, ℕ, ◌+◌, ◌*◌, ◌^◌, ◌<◌, ◌≤◌, Bool, true, false, not, ◌&&◌, ◌||◌, T, leb, pos, ◌==◌, nat_le, nat_lt, refl, Float}
use Rattle.std.proofs.Common.{sym, ap, ◌∙◌, subst, true≢false, lt_irrefl, le_of_eq, le_of_lt, le_antisymm, lt_of_lt_of_le, mul-le-mul_right, mul-lt-mul_of_pos_right, le_of_mul-le-mul_right, arith, leb→le, le→leb, ltb→lt, eqb→eq, nltb→le, lit≤, pow-add, pow_pos}
use Rattle.std.proofs.Math.Nat.{eq_of_mul-eq-mul_right}
use Rattle.std.specs.Float.{nan, inf, fin, binary32, binary64}
use Rattle.std.specs.Float.Ieee.{up, down, fits, mul, neg, round, lt, eq, le, of_bits}
use Rattle.std.specs.Float.Ieee.Exact.{HasValue, round_exact}
use Rattle.std.specs.Float.Ieee.Fits.{down_pos, eq→eqb}
use Rattle.std.specs.Float.Ieee.Order.{transfer}
use Rattle.std.specs.Float.Ieee.Scale.{finite}
use Rattle.rounding.specs.Units.{U, limit, size, P, Number}
use Rattle.rounding.specs.Laws.Order.{same_test}
use Rattle.rounding.specs.Laws.Whole.{U_pos, whole, digits_of, size_limit}
use Rattle.speech_level_estimator.specs.Average.{sums}

-- 151 in f64
abbrev pub most : Float
most = of_bits binary64 0x4062_e000_0000_0000

-- it is written so
most_is : most ≡ fin false 151 (pos 0)
unfolding of_bits
most_is = refl

-- m / d, of z / u, in smaller parts: u times f of them
finer : (m d z u f : ℕ) → m * u ≡ z * d → 151 * 1 * m * (u * f) ≡ 151 * z * f * (1 * d)
finer m d z u f h = let k : m * u * (151 * f) ≡ z * d * (151 * f) = ap (λ (x : ℕ). x * (151 * f)) h in omega arith

-- from one fraction to another of the same size
rescale : (x : Float) (s : Bool) (a c b u : ℕ) → 0 < c → a * u ≡ b * c → HasValue x s a c → HasValue x s b u
rescale nan s a c b u C h v = v
rescale (inf t) s a c b u C h v = v
rescale (fin t m e) s a c b u C h v = (v.0, eq_of_mul-eq-mul_right c C (m * up e * u) (b * down e) (across (m * up e) (down e) v.1))
  where
    across : (n d : ℕ) → n * c ≡ a * d → n * u * c ≡ b * d * c
    across n d k =
        let p : n * c * u ≡ a * d * u = ap (λ (x : ℕ). x * u) k in
        let q : a * u * d ≡ b * c * d = ap (λ (x : ℕ). x * d) h in
        omega arith

times : (y l : ℕ) → y < l → 151 * y < 151 * l
times y l k = omega arith

-- f64 has room for 151 times as many units as an f32 has
room : (z : ℕ) → z < limit → 151 * z * 2 ^ 925 < 2 ^ 2098
unfolding limit
room z h = lt_of_lt_of_le (mul-lt-mul_of_pos_right (times z limit h) (pow_pos 925)) (lit≤ tt)

-- f64's smallest values, of which a unit is 2 ^ 925
parts : 2 ^ 1074 ≡ U * 2 ^ 925
unfolding U
parts = refl

-- 151 times a number above zero, in f64, is exactly that many units.
pub product_exact : (w : Float) → Number w → 0 < P w → HasValue (mul binary64 most w) false (151 * size w) U
unfolding mul of_bits P
product_exact nan h g = absurd h.real
product_exact (inf s) h g = absurd h.real
product_exact (fin true n d) h g = absurd (lt_irrefl 0 g)
product_exact (fin false n d) h g =
    let z = size (fin false n d) in
    let k = digits_of (fin false n d) h in
    let units = whole false n d h.held in
    let digits : 151 * z * 2 ^ 925 ≡ 151 * k.digits * 2 ^ (k.zeros + 925) =
    ap (λ (y : ℕ). 151 * y * 2 ^ 925) k.are ∙ spread k.digits (2 ^ k.zeros) (2 ^ 925) ∙ ap (λ (y : ℕ). 151 * k.digits * y) (sym (pow-add 2 k.zeros 925))
    in
    let fine : 151 * 1 * (n * up d) * 2 ^ 1074 ≡ 151 * k.digits * 2 ^ (k.zeros + 925) * (1 * down d) =
    ap (λ (y : ℕ). 151 * 1 * (n * up d) * y) parts ∙ finer (n * up d) (down d) z U (2 ^ 925) units ∙ ap (λ (y : ℕ). y * (1 * down d)) digits
    in
    rescale (round binary64 false (151 * 1 * (n * up d)) (1 * down d)) false (151 * 1 * (n * up d)) (1 * down d) (151 * z) U (one_more (down_pos d)) (same (n * up d) (down d) z U units)
    (round_exact binary64 false (151 * 1 * (n * up d)) (1 * down d) (151 * k.digits) (k.zeros + 925) (one_more (down_pos d)) (few k.few)
    (subst (λ (y : ℕ). y < 2 ^ 2098) digits (room z (size_limit (fin false n d) h))) fine)
  where
    spread : (a b c : ℕ) → 151 * (a * b) * c ≡ 151 * a * (b * c)
    spread a b c = omega arith

    same : (m c y u : ℕ) → m * u ≡ y * c → 151 * 1 * m * u ≡ 151 * y * (1 * c)
    same m c y u e = omega arith

    one_more : {c : ℕ} → 0 < c → 0 < 1 * c
    one_more e = omega arith

    few : {q : ℕ} → q < 2 ^ 24 → 151 * q < 2 ^ 53
    few e = omega arith

-- ---- a comparison in f64 of numbers that are whole units is one of the units
or_le : {a b : ℕ} (p q : Bool) → (T p → a < b) → (T q → a ≡ b) → T (p || (q && true)) → a ≤ b
or_le true q f g t = le_of_lt (f tt)
or_le false true f g t = le_of_eq (g tt)
or_le false false f g t = absurd t

le_or : {a b : ℕ} (p q : Bool) → (T (not p) → b ≤ a) → (a ≡ b → T q) → a ≤ b → T (p || (q && true))
le_or true q f g h = tt
le_or false true f g h = tt
le_or false false f g h = g (le_antisymm h (f tt))

below_or_same : (a b : ℕ) → nat_lt a b || (a == b && true) ≡ nat_le a b
below_or_same a b =
    same_test (nat_lt a b || (a == b && true)) (nat_le a b)
    (λ (t : T (nat_lt a b || (a == b && true))). le→leb a b (or_le (nat_lt a b) (a == b) (ltb→lt a b) (eqb→eq a b) t))
    (λ (t : T (nat_le a b)). le_or (nat_lt a b) (a == b) (nltb→le a b) (λ (e : a ≡ b). eq→eqb e) (leb→le a b t))

below_or_same' : (a b : ℕ) → nat_lt a b || (b == a && true) ≡ nat_le a b
below_or_same' a b =
    same_test (nat_lt a b || (b == a && true)) (nat_le a b)
    (λ (t : T (nat_lt a b || (b == a && true))). le→leb a b (or_le (nat_lt a b) (b == a) (ltb→lt a b) (λ (e : T (b == a)). sym (eqb→eq b a e)) t))
    (λ (t : T (nat_le a b)). le_or (nat_lt a b) (b == a) (nltb→le a b) (λ (e : a ≡ b). eq→eqb (sym e)) (leb→le a b t))

-- what is below zero or nothing is at most what is above it or nothing
apart : (a b : ℕ) → nat_lt 0 (a + b) || (a == b && a == 0) ≡ true
apart a b = go (nat_lt 0 (a + b)) (nltb→le 0 (a + b))
  where
    go : (p : Bool) → (T (not p) → a + b ≤ 0) → p || (a == b && a == 0) ≡ true
    go true h = refl
    go false h =
        let s = h tt in
        let x : a ≡ 0 = omega arith in
        let y : b ≡ 0 = omega arith in
        rw (x, y)

-- two fractions of x and of b units, by their units
in_units : (m k d g x b : ℕ) → 0 < d → 0 < g → m * U ≡ x * d → k * U ≡ b * g → nat_le (m * g) (k * d) ≡ nat_le x b
in_units m k d g x b D G h j =
    same_test (nat_le (m * g) (k * d)) (nat_le x b)
    (λ (t : T (nat_le (m * g) (k * d))). le→leb x b (le_of_mul-le-mul_right (transfer x b U U m k d g D G (sym h) (sym j) (leb→le (m * g) (k * d) t)) U_pos))
    (λ (t : T (nat_le x b)). le→leb (m * g) (k * d) (transfer m k d g x b U U U_pos U_pos h j (mul-le-mul_right U (leb→le x b t))))

and_true : (p : Bool) → p && true ≡ p
and_true true = refl
and_true false = refl

-- An f32 lies from -b to b, b being that many units, exactly where it is a number of at most that many.
pub within_exact : (x b : Float) (z : ℕ) → T (fits binary32 x) → HasValue b false z U → le x b && le (neg b) x ≡ finite x && nat_le (size x) z
unfolding le lt eq neg
within_exact x nan z t v = absurd v
within_exact x (inf s) z t v = absurd v
within_exact nan (fin s k g) z t v = refl
within_exact (inf true) (fin s k g) z t v = refl
within_exact (inf false) (fin s k g) z t v = refl
within_exact (fin s m e) (fin true k g) z t v = absurd (true≢false v.0)
within_exact (fin false m e) (fin false k g) z t v =
    let a = m * up e * down g in
    let c = k * up g * down e in
    let above : le (fin false m e) (fin false k g) ≡ leb (size (fin false m e)) z = below_or_same a c ∙ in_units (m * up e) (k * up g) (down e) (down g) (size (fin false m e)) z (down_pos e) (down_pos g) (whole false m e t) v.1 in
    ap (λ (p : Bool). le (fin false m e) (fin false k g) && p) (apart c a) ∙ and_true (le (fin false m e) (fin false k g)) ∙ above
within_exact (fin true m e) (fin false k g) z t v =
    let a = m * up e * down g in
    let c = k * up g * down e in
    ap (λ (p : Bool). p && le (fin true k g) (fin true m e)) (apart a c)
    ∙ below_or_same' a c
    ∙ in_units (m * up e) (k * up g) (down e) (down g) (size (fin true m e)) z (down_pos e) (down_pos g) (whole true m e t) v.1

-- The code's test of a sum against a weight above zero is the definition's.
pub sums_exact : (s w : Float) → T (fits binary32 s) → Number w → 0 < P w → le s (mul binary64 most w) && le (neg (mul binary64 most w)) s ≡ sums s w
sums_exact s w t h g = within_exact s (mul binary64 most w) (151 * size w) t (product_exact w h g)
