-- How the kinds of a number are told by operations: `self_difference`, `reciprocal_sign`, `turned`.
use Rattle.std.specs.Prelude.{◌≡◌, Bool, true, ◌&&◌, cond, ℕ, zero, suc, ◌+◌, ◌-◌, ◌<◌, ◌⊎◌, ℤ, pos, T, ltb, eqb, Float}
use Rattle.std.proofs.Math.Path.{refl}
use Rattle.std.proofs.Common.{sym, ap, ap₂, ◌∙◌, subst, inl, inr, add-zero, zero-add, lt_irrefl, arith, lit<, lt-ltb, ne_eqb}
use Rattle.std.proofs.Math.Bool.{false}
use Rattle.std.proofs.Math.Nat.{sub-zero, zero-sub}
use Rattle.std.proofs.Math.Dec.{leb-suc-zero, eqb-suc-zero}
use Rattle.std.specs.Float.{nan, inf, fin, binary32}
use Rattle.std.specs.Float.Ieee.{sub, add, neg, div, lt, eq, fits, of_bits}
use Rattle.std.specs.Float.Ieee.Scale.{finite}
use Rattle.std.specs.Float.Ieee.Bits.{of_bits-fits}
use Rattle.rounding.specs.Units.{limit, size, P, N, Number, Value, rnd}
use Rattle.floats.specs.Choice.{larger}
use Rattle.floats.specs.Kinds.{magnitude, is_negative_zero}
use Rattle.rounding.specs.Laws.Rnd.{rnd_zero}
use Rattle.rounding.specs.Laws.Whole.{limit_pos, sides, P-kept, N-kept, P-limit, N-limit}
use Rattle.rounding.specs.Laws.Same.{same_number, some_size, zero_exponent}
use Rattle.rounding.specs.Laws.Operations.{sub_rounds, neg_value}
use Rattle.rounding.specs.Laws.Order.{lt_units, eq_units}

-- a test that is known to be true has passed
pub passed : {b : Bool} → b ≡ true → T b
passed e = subst (λ (b : Bool). T b) (sym e) tt

abbrev pub nought : Float
nought = of_bits binary32 0x0000_0000

pub nought_value : Value nought 0 0
unfolding P N size of_bits
nought_value = record { number = record { real = tt; held = of_bits-fits binary32 0 }; plus = refl; minus = refl }

-- x - x is 0 exactly where x is a number
pub self_difference : (x : Float) → T (fits binary32 x) → eq (sub binary32 x x) nought ≡ finite x
unfolding sub add neg eq of_bits
self_difference nan t = refl
self_difference (inf true) t = refl
self_difference (inf false) t = refl
self_difference (fin s m e) t =
    let x = fin s m e in
    let n : Number x = record { real = tt; held = t } in
    let r = sub_rounds x x n n in
    let none : rnd (P x + N x - (N x + P x)) 1 ≡ 0 = ap (λ (z : ℕ). rnd z 1) (gone (P x) (N x)) ∙ rnd_zero 1 (lit< tt) in
    let none' : rnd (N x + P x - (P x + N x)) 1 ≡ 0 = ap (λ (z : ℕ). rnd z 1) (gone (N x) (P x)) ∙ rnd_zero 1 (lit< tt) in
    let v = r.value (subst (λ (z : ℕ). z < limit) (sym none) limit_pos) (subst (λ (z : ℕ). z < limit) (sym none') limit_pos) in
    eq_units (sub binary32 x x) nought v.number nought_value.number
    ∙ ap₂ (λ (a b : ℕ). eqb (a + N nought) (P nought + b)) (v.plus ∙ none) (v.minus ∙ none')
    ∙ ap₂ (λ (a b : ℕ). eqb (0 + a) (b + 0)) nought_value.minus nought_value.plus
  where
    gone : (a b : ℕ) → a + b - (b + a) ≡ 0
    gone a b = omega arith

-- ---- 0 - x is x on the other side of zero
turned : (x : Float) → Number x → Value (sub binary32 nought x) (N x) (P x)
turned x n =
    let o = nought_value in
    let p : P nought + N x - (N nought + P x) ≡ N x - P x = ap₂ (λ (a b : ℕ). a + N x - (b + P x)) o.plus o.minus ∙ bare (N x) (P x) in
    let q : N nought + P x - (P nought + N x) ≡ P x - N x = ap₂ (λ (a b : ℕ). a + P x - (b + N x)) o.minus o.plus ∙ bare (P x) (N x) in
    let s = (sides x n).one in
    let p' : rnd (P nought + N x - (N nought + P x)) 1 ≡ N x = ap (λ (z : ℕ). rnd z 1) (p ∙ first s) ∙ N-kept x n in
    let q' : rnd (N nought + P x - (P nought + N x)) 1 ≡ P x = ap (λ (z : ℕ). rnd z 1) (q ∙ second s) ∙ P-kept x n in
    let v = (sub_rounds nought x o.number n).value (subst (λ (z : ℕ). z < limit) (sym p') (N-limit x n)) (subst (λ (z : ℕ). z < limit) (sym q') (P-limit x n)) in
    record { number = v.number; plus = v.plus ∙ p'; minus = v.minus ∙ q' }
  where
    bare : (a b : ℕ) → 0 + a - (0 + b) ≡ a - b
    bare a b = ap₂ ◌-◌ (zero-add a) (zero-add b)

    first : (P x ≡ 0) ⊎ (N x ≡ 0) → N x - P x ≡ N x
    first (inl e) = ap (λ (z : ℕ). N x - z) e ∙ sub-zero (N x)
    first (inr e) = ap (λ (z : ℕ). z - P x) e ∙ zero-sub (P x) ∙ sym e

    second : (P x ≡ 0) ⊎ (N x ≡ 0) → P x - N x ≡ P x
    second (inl e) = ap (λ (z : ℕ). z - N x) e ∙ zero-sub (N x) ∙ sym e
    second (inr e) = ap (λ (z : ℕ). P x - z) e ∙ sub-zero (P x)

-- the larger of 0 - x and x is x without its sign
some_below : (z : ℕ) → 0 < z → ltb (0 + 0) (z + z) ≡ true
some_below z h = lt-ltb 0 (z + z) (omega arith)

none_above : (z : ℕ) → ltb (z + z) (0 + 0) ≡ false
none_above z = leb-suc-zero (z + z)

positive : (m : ℕ) (e : ℤ) → T (fits binary32 (fin false (suc m) e)) → larger (sub binary32 nought (fin false (suc m) e)) (fin false (suc m) e) ≡ fin false (suc m) e
unfolding larger P N
positive m e t =
    let x = fin false (suc m) e in
    let n : Number x = record { real = tt; held = t } in
    let y = sub binary32 nought x in
    let v = turned x n in
    let below : lt y x ≡ true =
    lt_units y x v.number n ∙ ap₂ (λ (a b : ℕ). ltb (a + 0) (size x + b)) v.plus v.minus ∙ some_below (size x) (some_size false m e t)
    in
    ap (λ (b : Bool). cond b x y) below

negative : (m : ℕ) (e : ℤ) → T (fits binary32 (fin true (suc m) e)) → larger (sub binary32 nought (fin true (suc m) e)) (fin true (suc m) e) ≡ fin false (suc m) e
unfolding larger neg P N
negative m e t =
    let x = fin true (suc m) e in
    let n : Number x = record { real = tt; held = t } in
    let y = sub binary32 nought x in
    let v = turned x n in
    let o = neg_value x n in
    let below : lt y x ≡ false = lt_units y x v.number n ∙ ap₂ (λ (a b : ℕ). ltb (a + size x) (0 + b)) v.plus v.minus ∙ none_above (size x) in
    let some : 0 < P y + N y = subst (λ (z : ℕ). 0 < z) (sym (ap₂ ◌+◌ v.plus v.minus ∙ add-zero (size x))) (some_size true m e t) in
    ap (λ (b : Bool). cond b x y) below ∙ same_number y (fin false (suc m) e) v.number o.number v.plus v.minus some

pub larger_side : (x : Float) → T (fits binary32 x) → larger (sub binary32 nought x) x ≡ magnitude x
unfolding larger magnitude sub add neg lt of_bits
larger_side nan t = refl
larger_side (inf true) t = refl
larger_side (inf false) t = refl
larger_side (fin s zero e) t = subst (λ (d : ℤ). larger (sub binary32 nought (fin s zero d)) (fin s zero d) ≡ fin false zero d) (sym (zero_exponent s e t)) (closed s)
  where
    closed : (s : Bool) → larger (sub binary32 nought (fin s zero (pos 0))) (fin s zero (pos 0)) ≡ fin false zero (pos 0)
    closed true = unfold larger sub add neg lt of_bits in refl
    closed false = unfold larger sub add neg lt of_bits in refl
larger_side (fin false (suc m) e) t = positive m e t
larger_side (fin true (suc m) e) t = negative m e t

-- ---- a zero with a sign: it is zero, and 1 / x is below zero
apart : (s : Bool) (m : ℕ) (e : ℤ) → 0 < size (fin s (suc m) e) → P (fin s (suc m) e) + 0 ≡ 0 + N (fin s (suc m) e) → ⊥
unfolding P N
apart true m e h g = lt_irrefl 0 (subst (λ (z : ℕ). 0 < z) (sym (g ∙ zero-add (size (fin true (suc m) e)))) h)
apart false m e h g = lt_irrefl 0 (subst (λ (z : ℕ). 0 < z) (sym (add-zero (size (fin false (suc m) e))) ∙ g) h)

no_zero : (s : Bool) (m : ℕ) (e : ℤ) → T (fits binary32 (fin s (suc m) e)) → eq (fin s (suc m) e) nought ≡ false
no_zero s m e t =
    let x = fin s (suc m) e in
    let n : Number x = record { real = tt; held = t } in
    eq_units x nought n nought_value.number
    ∙ ap₂ (λ (a b : ℕ). eqb (P x + a) (b + N x)) nought_value.minus nought_value.plus
    ∙ ne_eqb (P x + 0) (0 + N x) (apart s m e (some_size s m e t))

no_sign : (s : Bool) {b : Bool} → b ≡ false → s && b ≡ false
no_sign true h = h
no_sign false h = refl

pub reciprocal_sign : (x : Float) → T (fits binary32 x)
    → eq x nought && lt (div binary32 (of_bits binary32 0x3f80_0000) x) nought ≡ is_negative_zero x
unfolding eq lt div of_bits is_negative_zero
reciprocal_sign nan t = refl
reciprocal_sign (inf s) t = refl
reciprocal_sign (fin s zero e) t =
    subst (λ (d : ℤ). eq (fin s zero d) nought && lt (div binary32 (of_bits binary32 0x3f80_0000) (fin s zero d)) nought ≡ (s && true)) (sym (zero_exponent s e t)) (closed s)
  where
    closed : (s : Bool) → eq (fin s zero (pos 0)) nought && lt (div binary32 (of_bits binary32 0x3f80_0000) (fin s zero (pos 0))) nought ≡ (s && true)
    closed true = unfold eq lt div of_bits in refl
    closed false = unfold eq lt div of_bits in refl
reciprocal_sign (fin s (suc m) e) t = ap (λ (b : Bool). b && lt (div binary32 (of_bits binary32 0x3f80_0000) (fin s (suc m) e)) nought) (no_zero s m e t) ∙ sym (no_sign s (eqb-suc-zero m))
