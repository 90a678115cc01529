-- A larger exact value rounds to a number that is no smaller, whatever the signs. So what lies between two numbers rounds to a number between them.
use Rattle.std.specs.Prelude.{◌≡◌, ◌⊎◌, ℕ, ◌+◌, ◌-◌, ◌*◌, ◌≤◌, ◌<◌, T, Float}
use Rattle.std.proofs.Common.{sym, ap, ap₂, ◌∙◌, subst, inl, inr, le_of_eq, le_trans, lt_of_le_of_lt, mul_comm, mul-le-mul_right, mul-le-mul_left, arith, lit<}
use Rattle.std.proofs.Math.Nat.{mul-sub, sub-zero, zero-sub}
use Rattle.std.specs.Float.{binary32}
use Rattle.std.specs.Float.Ieee.{mul}
use Rattle.std.specs.Float.Ieee.Scale.{finite}
use Rattle.rounding.specs.Units.{U, limit, P, N, Number, Value, In, rnd, Rounding}
use Rattle.rounding.specs.Laws.Rnd.{rnd_mono}
use Rattle.rounding.specs.Laws.Operations.{mul_rounds}
use Rattle.rounding.specs.Laws.Whole.{U_pos, sides, P-kept, N-kept, P-limit, N-limit}

-- (p - n) / v is at most (q - m) / w
abbrev pub AtMost : ℕ → ℕ → ℕ → ℕ → ℕ → ℕ → Type 0
AtMost p n v q m w = p * w + m * v ≤ q * v + n * w

scaled : (p n w : ℕ) → (p - n) * w ≡ p * w - n * w
scaled p n w = mul_comm (p - n) w ∙ mul-sub w p n ∙ ap₂ ◌-◌ (mul_comm w p) (mul_comm w n)

shift : (a b c d : ℕ) → a + d ≤ c + b → a - b ≤ c - d
shift a b c d h = omega arith

plus_mono : (p n v q m w : ℕ) → 0 < v → 0 < w → AtMost p n v q m w → rnd (p - n) v ≤ rnd (q - m) w
plus_mono p n v q m w C D h =
    rnd_mono (p - n) v (q - m) w C D
    (le_trans (le_of_eq (scaled p n w)) (le_trans (shift (p * w) (n * w) (q * v) (m * v) h) (le_of_eq (sym (scaled q m v)))))

turn : (p n v q m w : ℕ) → AtMost p n v q m w → AtMost m q w n p v
turn p n v q m w h = omega arith

minus_mono : (p n v q m w : ℕ) → 0 < v → 0 < w → AtMost p n v q m w → rnd (m - q) w ≤ rnd (n - p) v
minus_mono p n v q m w C D h = plus_mono m q w n p v D C (turn p n v q m w h)

-- a rounding that is a number has its value
pub known : {r : Float} {p n v : ℕ} → Rounding r p n v → T (finite r) → Value r (rnd (p - n) v) (rnd (n - p) v)
known r t = let u = r.under t in r.value u.0 u.1

-- ---- rounding keeps the order
pub rounding_mono : (x y : Float) (p n v q m w : ℕ) → 0 < v → 0 < w
    → Value x (rnd (p - n) v) (rnd (n - p) v) → Value y (rnd (q - m) w) (rnd (m - q) w) → AtMost p n v q m w → P x + N y ≤ P y + N x
rounding_mono x y p n v q m w C D a b h =
    let up = plus_mono p n v q m w C D h in
    let down = minus_mono p n v q m w C D h in
    let xp = a.plus in
    let xn = a.minus in
    let yp = b.plus in
    let yn = b.minus in
    omega arith

-- a number is its own rounding
pub itself : (x : Float) → Number x → Rounding x (P x) (N x) 1
itself x h =
    let plus : rnd (P x - N x) 1 ≡ P x = first (sides x h).one in
    let minus : rnd (N x - P x) 1 ≡ N x = second (sides x h).one in
    record {
      value = λ (a : rnd (P x - N x) 1 < limit) (b : rnd (N x - P x) 1 < limit). record { number = h; plus = sym plus; minus = sym minus };
      under = λ (t : T (finite x)). (subst (λ (z : ℕ). z < limit) (sym plus) (P-limit x h), subst (λ (z : ℕ). z < limit) (sym minus) (N-limit x h));
    }
  where
    first : (P x ≡ 0) ⊎ (N x ≡ 0) → rnd (P x - N x) 1 ≡ P x
    first (inl e) = ap (λ (z : ℕ). rnd z 1) (ap (λ (z : ℕ). z - N x) e ∙ zero-sub (N x) ∙ sym e) ∙ P-kept x h
    first (inr e) = ap (λ (z : ℕ). rnd z 1) (ap (λ (z : ℕ). P x - z) e ∙ sub-zero (P x)) ∙ P-kept x h

    second : (P x ≡ 0) ⊎ (N x ≡ 0) → rnd (N x - P x) 1 ≡ N x
    second (inl e) = ap (λ (z : ℕ). rnd z 1) (ap (λ (z : ℕ). N x - z) e ∙ sub-zero (N x)) ∙ N-kept x h
    second (inr e) = ap (λ (z : ℕ). rnd z 1) (ap (λ (z : ℕ). z - P x) e ∙ zero-sub (P x) ∙ sym e) ∙ N-kept x h

-- ---- what lies between two roundings that are numbers rounds to a number between them
pub sandwich : (lo hi r : Float) (a b c p n v d e f : ℕ) → 0 < c → 0 < v → 0 < f
    → Rounding lo a b c → T (finite lo) → Rounding hi d e f → T (finite hi) → Rounding r p n v
    → AtMost a b c p n v → AtMost p n v d e f → In lo hi r
sandwich lo hi r a b c p n v d e f C D F L l H h R low high =
    let vl = known L l in
    let vh = known H h in
    let vr = R.value (lt_of_le_of_lt (plus_mono p n v d e f D F high) (H.under h).0) (lt_of_le_of_lt (minus_mono a b c p n v C D low) (L.under l).1) in
    record {
      number = vr.number;
      above = rounding_mono lo r a b c p n v C D vl vr low;
      below = rounding_mono r hi p n v d e f D F vr vh high;
    }

by_one_lem : (p n v q m : ℕ) → p * v + m ≤ q + n * v → AtMost p n 1 q m v
by_one_lem p n v q m h = omega arith

by_one' : (p n v q m : ℕ) → q + n * v ≤ p * v + m → AtMost q m v p n 1
by_one' p n v q m h = omega arith

-- an exact value (p - n) / v between two numbers rounds to a number between them
pub in_real : (lo hi r : Float) (p n v : ℕ) → 0 < v → Number lo → Number hi → Rounding r p n v
    → P lo * v + n ≤ p + N lo * v → p + N hi * v ≤ P hi * v + n → In lo hi r
in_real lo hi r p n v D l h R low high =
    sandwich lo hi r (P lo) (N lo) 1 p n v (P hi) (N hi) 1 (lit< tt) D (lit< tt) (itself lo l) l.real (itself hi h) h.real R
    (by_one_lem (P lo) (N lo) v p n low) (by_one' (P hi) (N hi) v p n high)

-- ---- a product by a number that is not below zero keeps the order of the other factor
pub scaled_between : (t lo hi x : Float) → Number t → N t ≡ 0 → Number lo → Number hi → In lo hi x
    → T (finite (mul binary32 t lo)) → T (finite (mul binary32 t hi)) → In (mul binary32 t lo) (mul binary32 t hi) (mul binary32 t x)
scaled_between t lo hi x n e l h i f g =
    sandwich (mul binary32 t lo) (mul binary32 t hi) (mul binary32 t x) (P t * P lo + N t * N lo) (P t * N lo + N t * P lo) U (P t * P x + N t * N x) (P t * N x + N t * P x) U
    (P t * P hi + N t * N hi) (P t * N hi + N t * P hi) U U_pos U_pos U_pos (mul_rounds t lo n l) f (mul_rounds t hi n h) g (mul_rounds t x n i.number)
    (order lo x i.above) (order x hi i.below)
  where
    order : (u w : Float) → P u + N w ≤ P w + N u → AtMost (P t * P u + N t * N u) (P t * N u + N t * P u) U (P t * P w + N t * N w) (P t * N w + N t * P w) U
    order u w k =
        subst (λ (z : ℕ). AtMost (P t * P u + z * N u) (P t * N u + z * P u) U (P t * P w + z * N w) (P t * N w + z * P w) U) (sym e)
        (times (P t) (P u) (N u) (P w) (N w) U (mul-le-mul_left (P t) k))
      where
        times : (a p n q m o : ℕ) → a * (p + m) ≤ a * (q + n) → AtMost (a * p + 0 * n) (a * n + 0 * p) o (a * q + 0 * m) (a * m + 0 * q) o
        times a p n q m o j = let z : a * (p + m) * o ≤ a * (q + n) * o = mul-le-mul_right o j in omega arith
