-- The comparisons of two numbers are those of their units.
use Rattle.std.specs.Prelude.{◌≡◌, refl, Bool, true, false, not, ◌&&◌, ◌||◌, ℕ, ◌+◌, ◌*◌, ◌≤◌, ◌<◌, ℤ, T, ltb, leb, eqb, Float}
use Rattle.std.proofs.Common.{sym, ap, ap₂, ◌∙◌, subst, inl, inr, le_of_eq, lt_of_lt_of_le, lt_of_le_of_lt, add-mul, mul-lt-mul_of_pos_right, lt_of_mul-lt-mul_right, add-zero, zero-add, zero-mul, add_comm, le_of_lt, eq-or-lt_of_le, arith, ltb→lt, lt→ltb, leb→le, le→leb, eqb→eq, nltb→le}
use Rattle.std.proofs.Math.Nat.{mul-pos, eq_of_mul-eq-mul_right}
use Rattle.std.proofs.Math.Dec.{leb-suc-zero}
use Rattle.std.specs.Float.{nan, inf, fin, binary32}
use Rattle.std.specs.Float.Ieee.{up, down, lt, le, eq, fits}
use Rattle.std.specs.Float.Ieee.Fits.{down_pos, eq→eqb, and_i, and_l, and_r}
use Rattle.rounding.specs.Units.{U, size, P, N, Number, In}
use Rattle.rounding.specs.Laws.Whole.{U_pos}
use Rattle.rounding.specs.Laws.Operations.{over_first, over_second}

-- two tests that pass together are one
pub same_test : (p q : Bool) → (T p → T q) → (T q → T p) → p ≡ q
same_test true true f g = refl
same_test true false f g = absurd (f tt)
same_test false true f g = absurd (g tt)
same_test false false f g = refl

-- a / c and b / c are X and Y units
module _ (a b c X Y : ℕ) (C : 0 < c) (ea : a * U ≡ X * c) (eb : b * U ≡ Y * c) where
  lt_same : ltb a b ≡ ltb X Y
  lt_same =
      same_test (ltb a b) (ltb X Y)
      (λ (t : T (ltb a b)). lt→ltb X Y (lt_of_mul-lt-mul_right c (lt_of_le_of_lt (le_of_eq (sym ea)) (lt_of_lt_of_le (mul-lt-mul_of_pos_right (ltb→lt a b t) U_pos) (le_of_eq eb)))))
      (λ (t : T (ltb X Y)). lt→ltb a b (lt_of_mul-lt-mul_right U (lt_of_le_of_lt (le_of_eq ea) (lt_of_lt_of_le (mul-lt-mul_of_pos_right (ltb→lt X Y t) C) (le_of_eq (sym eb))))))

  eq_same : eqb a b ≡ eqb X Y
  eq_same =
      same_test (eqb a b) (eqb X Y)
      (λ (t : T (eqb a b)). eq→eqb (eq_of_mul-eq-mul_right c C X Y (sym ea ∙ ap (λ (x : ℕ). x * U) (eqb→eq a b t) ∙ eb)))
      (λ (t : T (eqb X Y)). eq→eqb (eq_of_mul-eq-mul_right U U_pos a b (ea ∙ ap (λ (x : ℕ). x * c) (eqb→eq X Y t) ∙ sym eb)))

  both_over : (a + b) * U ≡ (X + Y) * c
  both_over = add-mul a b U ∙ ap (λ (x : ℕ). x + b * U) ea ∙ ap (λ (x : ℕ). X * c + x) eb ∙ sym (add-mul X Y c)

none_below : (x : ℕ) → false ≡ ltb x 0
none_below x = sym (leb-suc-zero x)

-- ---- the two numbers of a comparison over one denominator, in units
module _ (s : Bool) (m : ℕ) (e : ℤ) (t : Bool) (n : ℕ) (d : ℤ) (h : Number (fin s m e)) (k : Number (fin t n d)) where
  a : ℕ
  a = m * up e * down d

  b : ℕ
  b = n * up d * down e

  c : ℕ
  c = down e * down d

  c_pos : 0 < c
  unfolding c
  c_pos = mul-pos (down_pos e) (down_pos d)

  is_a : a * U ≡ size (fin s m e) * c
  unfolding a c
  is_a = over_first s m e d h.held

  is_b : b * U ≡ size (fin t n d) * c
  unfolding b c
  is_b = over_second t n d e k.held

  a<b : ltb a b ≡ ltb (size (fin s m e)) (size (fin t n d))
  a<b = lt_same a b c (size (fin s m e)) (size (fin t n d)) c_pos is_a is_b

  b<a : ltb b a ≡ ltb (size (fin t n d)) (size (fin s m e))
  b<a = lt_same b a c (size (fin t n d)) (size (fin s m e)) c_pos is_b is_a

  a=b : eqb a b ≡ eqb (size (fin s m e)) (size (fin t n d))
  a=b = eq_same a b c (size (fin s m e)) (size (fin t n d)) c_pos is_a is_b

  a=0 : eqb a 0 ≡ eqb (size (fin s m e)) 0
  a=0 = eq_same a 0 c (size (fin s m e)) 0 c_pos is_a (zero-mul U ∙ sym (zero-mul c))

  some : ltb 0 (a + b) ≡ ltb 0 (size (fin s m e) + size (fin t n d))
  some = lt_same 0 (a + b) c 0 (size (fin s m e) + size (fin t n d)) c_pos (zero-mul U ∙ sym (zero-mul c)) (both_over a b c (size (fin s m e)) (size (fin t n d)) c_pos is_a is_b)

-- with nothing added after each number, or before it
after : (f : ℕ → ℕ → Bool) (x y : ℕ) → f x y ≡ f (x + 0) (y + 0)
after f x y = ap₂ f (sym (add-zero x)) (sym (add-zero y))

before : (f : ℕ → ℕ → Bool) (x y : ℕ) → f x y ≡ f (0 + x) (0 + y)
before f x y = ap₂ f (sym (zero-add x)) (sym (zero-add y))

pub lt_units : (x y : Float) → Number x → Number y → lt x y ≡ ltb (P x + N y) (P y + N x)
unfolding lt P N a b
lt_units nan y h k = absurd h.real
lt_units (inf s) y h k = absurd h.real
lt_units (fin s m e) nan h k = absurd k.real
lt_units (fin s m e) (inf t) h k = absurd k.real
lt_units (fin false m e) (fin false n d) h k = a<b false m e false n d h k ∙ after ltb (size (fin false m e)) (size (fin false n d))
lt_units (fin false m e) (fin true n d) h k = none_below (size (fin false m e) + size (fin true n d))
lt_units (fin true m e) (fin false n d) h k = some true m e false n d h k ∙ ap (λ (x : ℕ). ltb 0 x) (add_comm (size (fin true m e)) (size (fin false n d)))
lt_units (fin true m e) (fin true n d) h k = b<a true m e true n d h k ∙ before ltb (size (fin true n d)) (size (fin true m e))

and_true : (p : Bool) → p && true ≡ p
and_true true = refl
and_true false = refl

-- two sizes that are both nothing, or one sum that is nothing
nothing : (X Y : ℕ) → eqb X Y && eqb X 0 ≡ eqb (X + Y) 0
nothing X Y =
    same_test (eqb X Y && eqb X 0) (eqb (X + Y) 0)
    (λ (t : T (eqb X Y && eqb X 0)).
    let p = eqb→eq X Y (and_l (eqb X Y) (eqb X 0) t) in
    let q = eqb→eq X 0 (and_r (eqb X Y) (eqb X 0) t) in
    let r : X + Y ≡ 0 = omega arith in
    eq→eqb r)
    (λ (t : T (eqb (X + Y) 0)).
    let p = eqb→eq (X + Y) 0 t in
    let q : X ≡ Y = omega arith in
    let r : X ≡ 0 = omega arith in
    and_i (eqb X Y) (eqb X 0) (eq→eqb q) (eq→eqb r))

turned : (X Y : ℕ) → eqb X Y ≡ eqb Y X
turned X Y = same_test (eqb X Y) (eqb Y X) (λ (t : T (eqb X Y)). eq→eqb (sym (eqb→eq X Y t))) (λ (t : T (eqb Y X)). eq→eqb (sym (eqb→eq Y X t)))

pub eq_units : (x y : Float) → Number x → Number y → eq x y ≡ eqb (P x + N y) (P y + N x)
unfolding eq P N a b
eq_units nan y h k = absurd h.real
eq_units (inf s) y h k = absurd h.real
eq_units (fin s m e) nan h k = absurd k.real
eq_units (fin s m e) (inf t) h k = absurd k.real
eq_units (fin false m e) (fin false n d) h k =
    and_true (eqb (m * up e * down d) (n * up d * down e)) ∙ a=b false m e false n d h k ∙ after eqb (size (fin false m e)) (size (fin false n d))
eq_units (fin false m e) (fin true n d) h k =
    ap₂ ◌&&◌ (a=b false m e true n d h k) (a=0 false m e true n d h k) ∙ nothing (size (fin false m e)) (size (fin true n d))
eq_units (fin true m e) (fin false n d) h k =
    ap₂ ◌&&◌ (a=b true m e false n d h k) (a=0 true m e false n d h k)
    ∙ nothing (size (fin true m e)) (size (fin false n d))
    ∙ turned (size (fin true m e) + size (fin false n d)) 0
    ∙ ap (λ (x : ℕ). eqb 0 x) (add_comm (size (fin true m e)) (size (fin false n d)))
eq_units (fin true m e) (fin true n d) h k =
    and_true (eqb (m * up e * down d) (n * up d * down e))
    ∙ a=b true m e true n d h k
    ∙ turned (size (fin true m e)) (size (fin true n d))
    ∙ before eqb (size (fin true n d)) (size (fin true m e))

either : (p q : ℕ) → ltb p q || eqb p q ≡ leb p q
either p q =
    same_test (ltb p q || eqb p q) (leb p q)
    (λ (t : T (ltb p q || eqb p q)). le→leb p q (go (ltb p q) (eqb p q) (ltb→lt p q) (eqb→eq p q) t))
    (λ (t : T (leb p q)). elim (eq-or-lt_of_le (leb→le p q t)) [ inl e ↦ right (ltb p q) (eqb p q) (eq→eqb e) | inr l ↦ left (ltb p q) (eqb p q) (lt→ltb p q l) ])
  where
    go : (x y : Bool) → (T x → p < q) → (T y → p ≡ q) → T (x || y) → p ≤ q
    go true y f g t = le_of_lt (f tt)
    go false y f g t = le_of_eq (g t)

    right : (x y : Bool) → T y → T (x || y)
    right true y t = tt
    right false y t = t

    left : (x y : Bool) → T x → T (x || y)
    left true y t = tt
    left false y t = absurd t

pub le_units : (x y : Float) → Number x → Number y → le x y ≡ leb (P x + N y) (P y + N x)
unfolding le
le_units x y h k = ap₂ ◌||◌ (lt_units x y h k) (eq_units x y h k) ∙ either (P x + N y) (P y + N x)

-- ---- a comparison that passed, as an order of units; and back
pub le→units : (x y : Float) → Number x → Number y → T (le x y) → P x + N y ≤ P y + N x
le→units x y h k t = leb→le (P x + N y) (P y + N x) (subst (λ (b : Bool). T b) (le_units x y h k) t)

pub units→le : (x y : Float) → Number x → Number y → P x + N y ≤ P y + N x → T (le x y)
units→le x y h k g = subst (λ (b : Bool). T b) (sym (le_units x y h k)) (le→leb (P x + N y) (P y + N x) g)

pub lt→units : (x y : Float) → Number x → Number y → T (lt x y) → P x + N y < P y + N x
lt→units x y h k t = ltb→lt (P x + N y) (P y + N x) (subst (λ (b : Bool). T b) (lt_units x y h k) t)

pub units→lt : (x y : Float) → Number x → Number y → P x + N y < P y + N x → T (lt x y)
units→lt x y h k g = subst (λ (b : Bool). T b) (sym (lt_units x y h k)) (lt→ltb (P x + N y) (P y + N x) g)

-- a comparison that failed
pub not-lt→units : (x y : Float) → Number x → Number y → T (not (lt x y)) → P y + N x ≤ P x + N y
not-lt→units x y h k t = nltb→le (P x + N y) (P y + N x) (subst (λ (b : Bool). T (not b)) (lt_units x y h k) t)

-- ---- a range that was tested, as a box
pub le_box : (lo hi x : Float) → Number lo → Number hi → Number x → T (le lo x) → T (le x hi) → In lo hi x
le_box lo hi x l h n a b = record { number = n; above = le→units lo x l n a; below = le→units x hi n h b }

-- only a number lies between two numbers
pub between : (lo hi x : Float) → Number lo → Number hi → T (fits binary32 x) → T (le lo x) → T (le x hi) → Number x
unfolding le lt eq
between lo hi nan l h t a b = absurd (no_le lo a)
  where
    no_le : (z : Float) → T (le z nan) → ⊥
    no_le nan u = u
    no_le (inf s) u = u
    no_le (fin s m e) u = u
between nan hi (inf s) l h t a b = absurd l.real
between (inf r) hi (inf s) l h t a b = absurd l.real
between (fin r m e) nan (inf s) l h t a b = absurd h.real
between (fin r m e) (inf q) (inf s) l h t a b = absurd h.real
between (fin r m e) (fin q n d) (inf true) l h t a b = absurd a
between (fin r m e) (fin q n d) (inf false) l h t a b = absurd b
between lo hi (fin s m e) l h t a b = record { real = tt; held = t }
