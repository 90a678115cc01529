-- The interval evaluator is right: where each variable lies in its box and the test passes, the value of the expression lies in its box.
use Rattle.std.specs.Prelude.{◌≡◌, ◌⊎◌, Bool, ◌&&◌, List, [], ◌∷◌, ℕ, zero, suc, ◌+◌, ◌*◌, ◌≤◌, ◌<◌, T, get_or}
use Rattle.std.proofs.Common.{sym, subst, inl, inr, le_refl, mul-le-mul_right, mul-le-mul_left, arith, lit<}
use Rattle.std.specs.Float.Ieee.{Float, add, sub, mul, div, neg, lt, fits, of_bits}
use Rattle.std.specs.Float.{nan, binary32}
use Rattle.std.specs.Float.Ieee.Fits.{and_l, and_r}
use Rattle.std.specs.Float.Ieee.Scale.{finite}
use Rattle.floats.specs.Choice as Choice
use Rattle.rounding.specs.Units.{U, P, N, Number, In, Rounding}
use Rattle.intervals.specs.Interval.{Expr, variable, constant, sum, difference, product, quotient, larger, smaller, eval, Box, nowhere, sum_box, difference_box, corners, finite_corners, box, finite_box, bounded, Boxed, AllBoxed}
use Rattle.rounding.specs.Laws.Whole.{U_pos, sides}
use Rattle.rounding.specs.Laws.Operations.{add_rounds, neg_value, mul_rounds, div_rounds}
use Rattle.rounding.specs.Laws.Order.{lt→units}
use Rattle.floats.specs.Laws.Kinds.{nought_value}
use Rattle.rounding.specs.Laws.Between.{AtMost, known, sandwich}
use Rattle.intervals.specs.Laws.Choice.{Leq, leq_trans, Greater, Lesser, larger_is, smaller_is}

-- ---- a rounding that is a number, and whose exact value is at most (p - n) / v; or at least
record Under (l : Float) (p n v : ℕ) : Type 0 where
  pub a : ℕ
  pub b : ℕ
  pub c : ℕ
  pub some : 0 < c
  pub rounding : Rounding l a b c
  pub real : T (finite l)
  pub order : AtMost a b c p n v

record Over (h : Float) (p n v : ℕ) : Type 0 where
  pub a : ℕ
  pub b : ℕ
  pub c : ℕ
  pub some : 0 < c
  pub rounding : Rounding h a b c
  pub real : T (finite h)
  pub order : AtMost p n v a b c

meet : (lo hi l h r : Float) (p n v : ℕ) → 0 < v → Rounding r p n v → Under l p n v → Over h p n v → Leq lo l → Leq h hi → In lo hi r
meet lo hi l h r p n v D R u o first last =
    let i = sandwich l h r u.a u.b u.c p n v o.a o.b o.c u.some D o.some u.rounding u.real o.rounding o.real R u.order o.order in
    record { number = i.number; above = leq_trans lo l r first i.above; below = leq_trans r h hi i.below last }

-- ---- sums and differences: the ends are the roundings of the ends
sum_boxed : (a b : Box) (x y : Float) → Boxed a x → Boxed b y → T (finite (sum_box a b).low) → T (finite (sum_box a b).high) → Boxed (sum_box a b) (add binary32 x y)
unfolding sum_box
sum_boxed a b x y p q s t =
    let l = add_rounds a.low b.low p.low_number q.low_number in
    let h = add_rounds a.high b.high p.high_number q.high_number in
    let r = add_rounds x y p.inside.number q.inside.number in
    let xl = p.inside.above in
    let xh = p.inside.below in
    let yl = q.inside.above in
    let yh = q.inside.below in
    record {
      low_number = (known l s).number;
      high_number = (known h t).number;
      inside =
          sandwich (add binary32 a.low b.low) (add binary32 a.high b.high) (add binary32 x y) (P a.low + P b.low) (N a.low + N b.low) 1 (P x + P y) (N x + N y) 1
          (P a.high + P b.high) (N a.high + N b.high) 1 (lit< tt) (lit< tt) (lit< tt) l s h t r (omega arith) (omega arith);
    }

-- x - y is x + -y, and -y lies in the box turned round zero
neg_boxed : (b : Box) (y : Float) → Boxed b y → Boxed (record { low = neg b.high; high = neg b.low }) (neg y)
neg_boxed b y q =
    let l = neg_value b.low q.low_number in
    let h = neg_value b.high q.high_number in
    let v = neg_value y q.inside.number in
    let lp = l.plus in
    let ln = l.minus in
    let hp = h.plus in
    let hn = h.minus in
    let vp = v.plus in
    let vn = v.minus in
    let above = q.inside.above in
    let below = q.inside.below in
    record { low_number = h.number; high_number = l.number; inside = record { number = v.number; above = omega arith; below = omega arith } }

difference_boxed : (a b : Box) (x y : Float) → Boxed a x → Boxed b y → T (finite (difference_box a b).low) → T (finite (difference_box a b).high)
    → Boxed (difference_box a b) (sub binary32 x y)
unfolding difference_box sum_box sub
difference_boxed a b x y p q s t = sum_boxed a (record { low = neg b.high; high = neg b.low }) x (neg y) p (neg_boxed b y q) s t

-- ---- one of the four corners of two boxes
data Corner (R : Float → Float → Type 0) (a b : Box) : Type 0 where
  low_low : R a.low b.low → Corner R a b
  low_high : R a.low b.high → Corner R a b
  high_low : R a.high b.low → Corner R a b
  high_high : R a.high b.high → Corner R a b

-- the operation f, whose four corners are numbers, has a corner that is under its value and one that is over it
module _ (f : Float → Float → Float) (a b : Box) (r : Float) (p n v : ℕ) (D : 0 < v) (R : Rounding r p n v)
    (ll : Number (f a.low b.low)) (lh : Number (f a.low b.high)) (hl : Number (f a.high b.low)) (hh : Number (f a.high b.high)) where
  corners_boxed : Corner (λ (u w : Float). Under (f u w) p n v) a b → Corner (λ (u w : Float). Over (f u w) p n v) a b → Boxed (corners f a b) r
  unfolding corners
  corners_boxed under over = record { low_number = least.number; high_number = greatest.number; inside = go_low under }
    where
      p1 : Float
      p1 = f a.low b.low

      p2 : Float
      p2 = f a.low b.high

      p3 : Float
      p3 = f a.high b.low

      p4 : Float
      p4 = f a.high b.high

      less1 : Lesser p1 p2 (Choice.smaller p1 p2)
      less1 = smaller_is p1 p2 ll lh

      less2 : Lesser p3 p4 (Choice.smaller p3 p4)
      less2 = smaller_is p3 p4 hl hh

      least : Lesser (Choice.smaller p1 p2) (Choice.smaller p3 p4) (Choice.smaller (Choice.smaller p1 p2) (Choice.smaller p3 p4))
      least = smaller_is (Choice.smaller p1 p2) (Choice.smaller p3 p4) less1.number less2.number

      more1 : Greater p1 p2 (Choice.larger p1 p2)
      more1 = larger_is p1 p2 ll lh

      more2 : Greater p3 p4 (Choice.larger p3 p4)
      more2 = larger_is p3 p4 hl hh

      greatest : Greater (Choice.larger p1 p2) (Choice.larger p3 p4) (Choice.larger (Choice.larger p1 p2) (Choice.larger p3 p4))
      greatest = larger_is (Choice.larger p1 p2) (Choice.larger p3 p4) more1.number more2.number

      lo : Float
      lo = Choice.smaller (Choice.smaller p1 p2) (Choice.smaller p3 p4)

      hi : Float
      hi = Choice.larger (Choice.larger p1 p2) (Choice.larger p3 p4)

      go_high : (l : Float) → Under l p n v → Leq lo l → Corner (λ (u w : Float). Over (f u w) p n v) a b → In lo hi r
      go_high l u g (low_low o) = meet lo hi l p1 r p n v D R u o g (leq_trans p1 (Choice.larger p1 p2) hi more1.first greatest.first)
      go_high l u g (low_high o) = meet lo hi l p2 r p n v D R u o g (leq_trans p2 (Choice.larger p1 p2) hi more1.second greatest.first)
      go_high l u g (high_low o) = meet lo hi l p3 r p n v D R u o g (leq_trans p3 (Choice.larger p3 p4) hi more2.first greatest.second)
      go_high l u g (high_high o) = meet lo hi l p4 r p n v D R u o g (leq_trans p4 (Choice.larger p3 p4) hi more2.second greatest.second)

      go_low : Corner (λ (u w : Float). Under (f u w) p n v) a b → In lo hi r
      go_low (low_low u) = go_high p1 u (leq_trans lo (Choice.smaller p1 p2) p1 least.first less1.first) over
      go_low (low_high u) = go_high p2 u (leq_trans lo (Choice.smaller p1 p2) p2 least.first less1.second) over
      go_low (high_low u) = go_high p3 u (leq_trans lo (Choice.smaller p3 p4) p3 least.second less2.first) over
      go_low (high_high u) = go_high p4 u (leq_trans lo (Choice.smaller p3 p4) p4 least.second less2.second) over

-- ---- products, by the sides of zero
-- u times w is at most x times y
abbrev Product≤ : Float → Float → Float → Float → Type 0
Product≤ u w x y = P u * P w + N u * N w + (P x * N y + N x * P y) ≤ P x * P y + N x * N y + (P u * N w + N u * P w)

up_by : (pu nu px nx py : ℕ) → pu + nx ≤ px + nu → pu * py + nu * 0 + (px * 0 + nx * py) ≤ px * py + nx * 0 + (pu * 0 + nu * py)
up_by pu nu px nx py h = let m : (pu + nx) * py ≤ (px + nu) * py = mul-le-mul_right py h in omega arith

down_by : (pu nu px nx ny : ℕ) → px + nu ≤ pu + nx → pu * 0 + nu * ny + (px * ny + nx * 0) ≤ px * 0 + nx * ny + (pu * ny + nu * 0)
down_by pu nu px nx ny h = let m : (px + nu) * ny ≤ (pu + nx) * ny = mul-le-mul_right ny h in omega arith

-- the second factor is not below zero, or not above it
times_up : (u x y : Float) → N y ≡ 0 → Leq u x → Product≤ u y x y
times_up u x y e h =
    subst (λ (z : ℕ). P u * P y + N u * z + (P x * z + N x * P y) ≤ P x * P y + N x * z + (P u * z + N u * P y)) (sym e) (up_by (P u) (N u) (P x) (N x) (P y) h)

times_down : (u x y : Float) → P y ≡ 0 → Leq x u → Product≤ u y x y
times_down u x y e h =
    subst (λ (z : ℕ). P u * z + N u * N y + (P x * N y + N x * z) ≤ P x * z + N x * N y + (P u * N y + N u * z)) (sym e) (down_by (P u) (N u) (P x) (N x) (N y) h)

swapped : (u w x y : Float) → Product≤ w u y x → Product≤ u w x y
swapped u w x y h = omega arith

product_trans : (u w x y s t : Float) → Product≤ u w x y → Product≤ x y s t → Product≤ u w s t
product_trans u w x y s t h k = omega arith

module _ (a b : Box) (x y : Float) (p : Boxed a x) (q : Boxed b y) where
  -- with the first factor fixed at u
  fixed_low : (u : Float) → Number u → Product≤ u b.low u y ⊎ Product≤ u b.high u y
  fixed_low u h = go (sides u h).one
    where
      go : (P u ≡ 0) ⊎ (N u ≡ 0) → Product≤ u b.low u y ⊎ Product≤ u b.high u y
      go (inl e) = inr (swapped u b.high u y (times_down b.high y u e q.inside.below))
      go (inr e) = inl (swapped u b.low u y (times_up b.low y u e q.inside.above))

  fixed_high : (u : Float) → Number u → Product≤ u y u b.low ⊎ Product≤ u y u b.high
  fixed_high u h = go (sides u h).one
    where
      go : (P u ≡ 0) ⊎ (N u ≡ 0) → Product≤ u y u b.low ⊎ Product≤ u y u b.high
      go (inl e) = inl (swapped u y u b.low (times_down y b.low u e q.inside.above))
      go (inr e) = inr (swapped u y u b.high (times_up y b.high u e q.inside.below))

  product_low : Corner (λ (u w : Float). Product≤ u w x y) a b
  product_low = go (sides y q.inside.number).one
    where
      at_low : Product≤ a.low y x y → Product≤ a.low b.low a.low y ⊎ Product≤ a.low b.high a.low y → Corner (λ (u w : Float). Product≤ u w x y) a b
      at_low h (inl k) = low_low (product_trans a.low b.low a.low y x y k h)
      at_low h (inr k) = low_high (product_trans a.low b.high a.low y x y k h)

      at_high : Product≤ a.high y x y → Product≤ a.high b.low a.high y ⊎ Product≤ a.high b.high a.high y → Corner (λ (u w : Float). Product≤ u w x y) a b
      at_high h (inl k) = high_low (product_trans a.high b.low a.high y x y k h)
      at_high h (inr k) = high_high (product_trans a.high b.high a.high y x y k h)

      go : (P y ≡ 0) ⊎ (N y ≡ 0) → Corner (λ (u w : Float). Product≤ u w x y) a b
      go (inl e) = at_high (times_down a.high x y e p.inside.below) (fixed_low a.high p.high_number)
      go (inr e) = at_low (times_up a.low x y e p.inside.above) (fixed_low a.low p.low_number)

  product_high : Corner (λ (u w : Float). Product≤ x y u w) a b
  product_high = go (sides y q.inside.number).one
    where
      at_low : Product≤ x y a.low y → Product≤ a.low y a.low b.low ⊎ Product≤ a.low y a.low b.high → Corner (λ (u w : Float). Product≤ x y u w) a b
      at_low h (inl k) = low_low (product_trans x y a.low y a.low b.low h k)
      at_low h (inr k) = low_high (product_trans x y a.low y a.low b.high h k)

      at_high : Product≤ x y a.high y → Product≤ a.high y a.high b.low ⊎ Product≤ a.high y a.high b.high → Corner (λ (u w : Float). Product≤ x y u w) a b
      at_high h (inl k) = high_low (product_trans x y a.high y a.high b.low h k)
      at_high h (inr k) = high_high (product_trans x y a.high y a.high b.high h k)

      go : (P y ≡ 0) ⊎ (N y ≡ 0) → Corner (λ (u w : Float). Product≤ x y u w) a b
      go (inl e) = at_low (times_down x a.low y e p.inside.above) (fixed_high a.low p.low_number)
      go (inr e) = at_high (times_up x a.high y e p.inside.below) (fixed_high a.high p.high_number)

-- what holds of each corner is known of the one that was picked
module _ (a b : Box) (G R S : Float → Float → Type 0) (ll : G a.low b.low) (lh : G a.low b.high) (hl : G a.high b.low) (hh : G a.high b.high) where
  each_corner : ((u w : Float) → G u w → R u w → S u w) → Corner R a b → Corner S a b
  each_corner f (low_low r) = low_low (f a.low b.low ll r)
  each_corner f (low_high r) = low_high (f a.low b.high lh r)
  each_corner f (high_low r) = high_low (f a.high b.low hl r)
  each_corner f (high_high r) = high_high (f a.high b.high hh r)

four : (c d e f : Bool) → T (c && d && e && f) → T c × T d × T e × T f
four c d e f t =
    let def = and_l (c && d && e) f t in
    let de = and_l (c && d) e def in
    (and_l c d de, and_r c d de, and_r (c && d) e def, and_r (c && d && e) f t)

record Factors (u w : Float) : Type 0 where
  pub first : Number u
  pub second : Number w
  pub real : T (finite (mul binary32 u w))

product_boxed : (a b : Box) (x y : Float) → Boxed a x → Boxed b y → T (finite_corners (mul binary32) a b) → Boxed (corners (mul binary32) a b) (mul binary32 x y)
unfolding finite_corners
product_boxed a b x y p q t =
    let f = mul binary32 in
    let fine = four (finite (f a.low b.low)) (finite (f a.low b.high)) (finite (f a.high b.low)) (finite (f a.high b.high)) t in
    let ll : Factors a.low b.low = record { first = p.low_number; second = q.low_number; real = fine.0 } in
    let lh : Factors a.low b.high = record { first = p.low_number; second = q.high_number; real = fine.1 } in
    let hl : Factors a.high b.low = record { first = p.high_number; second = q.low_number; real = fine.2 } in
    let hh : Factors a.high b.high = record { first = p.high_number; second = q.high_number; real = fine.3 } in
    let pr = P x * P y + N x * N y in
    let nr = P x * N y + N x * P y in
    corners_boxed f a b (f x y) pr nr U U_pos (mul_rounds x y p.inside.number q.inside.number) (number ll) (number lh) (number hl) (number hh)
    (each_corner a b Factors (λ (u w : Float). Product≤ u w x y) (λ (u w : Float). Under (f u w) pr nr U) ll lh hl hh under (product_low a b x y p q))
    (each_corner a b Factors (λ (u w : Float). Product≤ x y u w) (λ (u w : Float). Over (f u w) pr nr U) ll lh hl hh over (product_high a b x y p q))
  where
    number : {u w : Float} → Factors u w → Number (mul binary32 u w)
    number {u} {w} g = (known (mul_rounds u w g.first g.second) g.real).number

    scale : (k i j l m : ℕ) → i + m ≤ k + j → i * l + m * l ≤ k * l + j * l
    scale k i j l m h = let z : (i + m) * l ≤ (k + j) * l = mul-le-mul_right l h in omega arith

    under : (u w : Float) → Factors u w → Product≤ u w x y → Under (mul binary32 u w) (P x * P y + N x * N y) (P x * N y + N x * P y) U
    under u w g h =
        record {
          a = P u * P w + N u * N w;
          b = P u * N w + N u * P w;
          c = U;
          some = U_pos;
          rounding = mul_rounds u w g.first g.second;
          real = g.real;
          order = scale (P x * P y + N x * N y) (P u * P w + N u * N w) (P u * N w + N u * P w) U (P x * N y + N x * P y) h;
        }

    over : (u w : Float) → Factors u w → Product≤ x y u w → Over (mul binary32 u w) (P x * P y + N x * N y) (P x * N y + N x * P y) U
    over u w g h =
        record {
          a = P u * P w + N u * N w;
          b = P u * N w + N u * P w;
          c = U;
          some = U_pos;
          rounding = mul_rounds u w g.first g.second;
          real = g.real;
          order = scale (P u * P w + N u * N w) (P x * P y + N x * N y) (P x * N y + N x * P y) U (P u * N w + N u * P w) h;
        }

-- ---- quotients by what is above zero
abbrev Quotient≤ : Float → Float → Float → Float → Type 0
Quotient≤ u w x y = AtMost (P u * U) (N u * U) (P w) (P x * U) (N x * U) (P y)

-- in whole numbers: the four corners, by the side of zero that the end is on
low_up : (pa px nx o py pd : ℕ) → pa + nx ≤ px + 0 → py ≤ pd → pa * o * py + nx * o * pd ≤ px * o * pd + 0 * o * py
low_up pa px nx o py pd h k =
    let m : (pa + nx) * (o * pd) ≤ (px + 0) * (o * pd) = mul-le-mul_right (o * pd) h in
    let j : pa * o * py ≤ pa * o * pd = mul-le-mul_left (pa * o) k in
    omega arith

low_down : (na px nx o py pc : ℕ) → 0 + nx ≤ px + na → pc ≤ py → 0 * o * py + nx * o * pc ≤ px * o * pc + na * o * py
low_down na px nx o py pc h k =
    let m : (0 + nx) * (o * pc) ≤ (px + na) * (o * pc) = mul-le-mul_right (o * pc) h in
    let j : na * o * pc ≤ na * o * py = mul-le-mul_left (na * o) k in
    omega arith

high_up : (pb px nx o py pc : ℕ) → px + 0 ≤ pb + nx → pc ≤ py → px * o * pc + 0 * o * py ≤ pb * o * py + nx * o * pc
high_up pb px nx o py pc h k =
    let m : (px + 0) * (o * pc) ≤ (pb + nx) * (o * pc) = mul-le-mul_right (o * pc) h in
    let j : pb * o * pc ≤ pb * o * py = mul-le-mul_left (pb * o) k in
    omega arith

high_down : (nb px nx o py pd : ℕ) → px + nb ≤ 0 + nx → py ≤ pd → px * o * pd + nb * o * py ≤ 0 * o * py + nx * o * pd
high_down nb px nx o py pd h k =
    let m : (px + nb) * (o * pd) ≤ (0 + nx) * (o * pd) = mul-le-mul_right (o * pd) h in
    let j : nb * o * py ≤ nb * o * pd = mul-le-mul_left (nb * o) k in
    omega arith

module _ (a b : Box) (x y : Float) (p : Boxed a x) (q : Boxed b y) (up_low : P b.low ≤ P y) (up_high : P y ≤ P b.high) where
  quotient_low : Corner (λ (u w : Float). Quotient≤ u w x y) a b
  quotient_low = go (sides a.low p.low_number).one
    where
      go : (P a.low ≡ 0) ⊎ (N a.low ≡ 0) → Corner (λ (u w : Float). Quotient≤ u w x y) a b
      go (inl e) =
          low_low (subst (λ (z : ℕ). AtMost (z * U) (N a.low * U) (P b.low) (P x * U) (N x * U) (P y)) (sym e)
          (low_down (N a.low) (P x) (N x) U (P y) (P b.low) (subst (λ (z : ℕ). z + N x ≤ P x + N a.low) e p.inside.above) up_low))
      go (inr e) =
          low_high (subst (λ (z : ℕ). AtMost (P a.low * U) (z * U) (P b.high) (P x * U) (N x * U) (P y)) (sym e)
          (low_up (P a.low) (P x) (N x) U (P y) (P b.high) (subst (λ (z : ℕ). P a.low + N x ≤ P x + z) e p.inside.above) up_high))

  quotient_high : Corner (λ (u w : Float). Quotient≤ x y u w) a b
  quotient_high = go (sides a.high p.high_number).one
    where
      go : (P a.high ≡ 0) ⊎ (N a.high ≡ 0) → Corner (λ (u w : Float). Quotient≤ x y u w) a b
      go (inl e) =
          high_high (subst (λ (z : ℕ). AtMost (P x * U) (N x * U) (P y) (z * U) (N a.high * U) (P b.high)) (sym e)
          (high_down (N a.high) (P x) (N x) U (P y) (P b.high) (subst (λ (z : ℕ). P x + N a.high ≤ z + N x) e p.inside.below) up_high))
      go (inr e) =
          high_low (subst (λ (z : ℕ). AtMost (P x * U) (N x * U) (P y) (P a.high * U) (z * U) (P b.low)) (sym e)
          (high_up (P a.high) (P x) (N x) U (P y) (P b.low) (subst (λ (z : ℕ). P x + z ≤ P a.high + N x) e p.inside.below) up_low))

-- a number above zero has nothing below it
clear : (y : Float) → Number y → 0 < P y → N y ≡ 0
clear y h g = go (sides y h).one
  where
    go : (P y ≡ 0) ⊎ (N y ≡ 0) → N y ≡ 0
    go (inl e) = absurd (no (P y) e g)
      where
        no : (z : ℕ) → z ≡ 0 → 0 < z → ⊥
        no z i j = omega arith
    go (inr e) = e

record Divisor (b : Box) (y : Float) : Type 0 where
  pub low_some : 0 < P b.low
  pub some : 0 < P y
  pub high_some : 0 < P b.high
  pub up_low : P b.low ≤ P y
  pub up_high : P y ≤ P b.high

divisor : (b : Box) (y : Float) → Boxed b y → T (lt (of_bits binary32 0) b.low) → Divisor b y
divisor b y q t =
    let l = lt→units (of_bits binary32 0) b.low nought_value.number q.low_number t in
    let zp = nought_value.plus in
    let zn = nought_value.minus in
    let first : 0 < P b.low = omega arith in
    let none = clear b.low q.low_number first in
    let i = q.inside.above in
    let j = q.inside.below in
    let second : 0 < P y = omega arith in
    let none' = clear y q.inside.number second in
    record { low_some = first; some = second; high_some = omega arith; up_low = omega arith; up_high = omega arith }

record Terms (u w : Float) : Type 0 where
  pub first : Number u
  pub second : Number w
  pub some : 0 < P w
  pub real : T (finite (div binary32 u w))

quotient_boxed : (a b : Box) (x y : Float) → Boxed a x → Boxed b y → T (lt (of_bits binary32 0) b.low) → T (finite_corners (div binary32) a b)
    → Boxed (corners (div binary32) a b) (div binary32 x y)
unfolding finite_corners
quotient_boxed a b x y p q g t =
    let f = div binary32 in
    let d = divisor b y q g in
    let fine = four (finite (f a.low b.low)) (finite (f a.low b.high)) (finite (f a.high b.low)) (finite (f a.high b.high)) t in
    let ll : Terms a.low b.low = record { first = p.low_number; second = q.low_number; some = d.low_some; real = fine.0 } in
    let lh : Terms a.low b.high = record { first = p.low_number; second = q.high_number; some = d.high_some; real = fine.1 } in
    let hl : Terms a.high b.low = record { first = p.high_number; second = q.low_number; some = d.low_some; real = fine.2 } in
    let hh : Terms a.high b.high = record { first = p.high_number; second = q.high_number; some = d.high_some; real = fine.3 } in
    corners_boxed f a b (f x y) (P x * U) (N x * U) (P y) d.some (div_rounds x y p.inside.number q.inside.number d.some) (number ll) (number lh) (number hl) (number hh)
    (each_corner a b Terms (λ (u w : Float). Quotient≤ u w x y) (λ (u w : Float). Under (f u w) (P x * U) (N x * U) (P y)) ll lh hl hh under (quotient_low a b x y p q d.up_low d.up_high))
    (each_corner a b Terms (λ (u w : Float). Quotient≤ x y u w) (λ (u w : Float). Over (f u w) (P x * U) (N x * U) (P y)) ll lh hl hh over (quotient_high a b x y p q d.up_low d.up_high))
  where
    number : {u w : Float} → Terms u w → Number (div binary32 u w)
    number {u} {w} g = (known (div_rounds u w g.first g.second g.some) g.real).number

    under : (u w : Float) → Terms u w → Quotient≤ u w x y → Under (div binary32 u w) (P x * U) (N x * U) (P y)
    under u w g h = record { a = P u * U; b = N u * U; c = P w; some = g.some; rounding = div_rounds u w g.first g.second g.some; real = g.real; order = h }

    over : (u w : Float) → Terms u w → Quotient≤ x y u w → Over (div binary32 u w) (P x * U) (N x * U) (P y)
    over u w g h = record { a = P u * U; b = N u * U; c = P w; some = g.some; rounding = div_rounds u w g.first g.second g.some; real = g.real; order = h }

-- ---- the greater and the lesser of two
larger_boxed : (a b : Box) (x y : Float) → Boxed a x → Boxed b y
    → Boxed (record { low = Choice.larger a.low b.low; high = Choice.larger a.high b.high }) (Choice.larger x y)
larger_boxed a b x y p q =
    let l = larger_is a.low b.low p.low_number q.low_number in
    let h = larger_is a.high b.high p.high_number q.high_number in
    let m = larger_is x y p.inside.number q.inside.number in
    let r = Choice.larger x y in
    let hi = Choice.larger a.high b.high in
    record {
      low_number = l.number;
      high_number = h.number;
      inside =
          record {
            number = m.number;
            above = l.least r (leq_trans a.low x r p.inside.above m.first) (leq_trans b.low y r q.inside.above m.second);
            below = m.least hi (leq_trans x a.high hi p.inside.below h.first) (leq_trans y b.high hi q.inside.below h.second);
          };
    }

smaller_boxed : (a b : Box) (x y : Float) → Boxed a x → Boxed b y
    → Boxed (record { low = Choice.smaller a.low b.low; high = Choice.smaller a.high b.high }) (Choice.smaller x y)
smaller_boxed a b x y p q =
    let l = smaller_is a.low b.low p.low_number q.low_number in
    let h = smaller_is a.high b.high p.high_number q.high_number in
    let m = smaller_is x y p.inside.number q.inside.number in
    let r = Choice.smaller x y in
    let lo = Choice.smaller a.low b.low in
    record {
      low_number = l.number;
      high_number = h.number;
      inside =
          record {
            number = m.number;
            above = m.greatest lo (leq_trans lo a.low x l.first p.inside.above) (leq_trans lo b.low y l.second q.inside.above);
            below = h.greatest r (leq_trans r x a.high m.first p.inside.below) (leq_trans r y b.high m.second q.inside.below);
          };
    }

-- ---- the whole
look_up : (bs : List Box) (xs : List Float) (i : ℕ) → AllBoxed bs xs → T (finite (get_or bs i nowhere).low) → Boxed (get_or bs i nowhere) (get_or xs i nan)
look_up [] xs i h t = absurd t
look_up (b ∷ bs) [] i h t = absurd h
look_up (b ∷ bs) (x ∷ xs) zero h t = h.0
look_up (b ∷ bs) (x ∷ xs) (suc i) h t = look_up bs xs i h.1 t

pub interval : (bs : List Box) (xs : List Float) → AllBoxed bs xs → (e : Expr) → T (bounded bs e) → Boxed (box bs e) (eval xs e)
unfolding bounded box eval finite_box
interval bs xs h (variable i) t = look_up bs xs i h t
interval bs xs h (constant c) t =
    let n : Number c = record { real = and_l (finite c) (fits binary32 c) t; held = and_r (finite c) (fits binary32 c) t } in
    record { low_number = n; high_number = n; inside = record { number = n; above = le_refl (P c + N c); below = le_refl (P c + N c) } }
interval bs xs h (sum a b) t =
    let ab = and_l (bounded bs a && bounded bs b) (finite_box (sum_box (box bs a) (box bs b))) t in
    let fine = and_r (bounded bs a && bounded bs b) (finite_box (sum_box (box bs a) (box bs b))) t in
    let r = sum_box (box bs a) (box bs b) in
    sum_boxed (box bs a) (box bs b) (eval xs a) (eval xs b) (interval bs xs h a (and_l (bounded bs a) (bounded bs b) ab)) (interval bs xs h b (and_r (bounded bs a) (bounded bs b) ab))
    (and_l (finite r.low) (finite r.high) fine) (and_r (finite r.low) (finite r.high) fine)
interval bs xs h (difference a b) t =
    let ab = and_l (bounded bs a && bounded bs b) (finite_box (difference_box (box bs a) (box bs b))) t in
    let fine = and_r (bounded bs a && bounded bs b) (finite_box (difference_box (box bs a) (box bs b))) t in
    let r = difference_box (box bs a) (box bs b) in
    difference_boxed (box bs a) (box bs b) (eval xs a) (eval xs b) (interval bs xs h a (and_l (bounded bs a) (bounded bs b) ab)) (interval bs xs h b (and_r (bounded bs a) (bounded bs b) ab))
    (and_l (finite r.low) (finite r.high) fine) (and_r (finite r.low) (finite r.high) fine)
interval bs xs h (product a b) t =
    let ab = and_l (bounded bs a && bounded bs b) (finite_corners (mul binary32) (box bs a) (box bs b)) t in
    product_boxed (box bs a) (box bs b) (eval xs a) (eval xs b) (interval bs xs h a (and_l (bounded bs a) (bounded bs b) ab)) (interval bs xs h b (and_r (bounded bs a) (bounded bs b) ab))
    (and_r (bounded bs a && bounded bs b) (finite_corners (mul binary32) (box bs a) (box bs b)) t)
interval bs xs h (quotient a b) t =
    let g = lt (of_bits binary32 0) (box bs b).low in
    let k = finite_corners (div binary32) (box bs a) (box bs b) in
    let ab = and_l (bounded bs a && bounded bs b) (g && k) t in
    let gk = and_r (bounded bs a && bounded bs b) (g && k) t in
    quotient_boxed (box bs a) (box bs b) (eval xs a) (eval xs b) (interval bs xs h a (and_l (bounded bs a) (bounded bs b) ab)) (interval bs xs h b (and_r (bounded bs a) (bounded bs b) ab))
    (and_l g k gk) (and_r g k gk)
interval bs xs h (larger a b) t =
    larger_boxed (box bs a) (box bs b) (eval xs a) (eval xs b) (interval bs xs h a (and_l (bounded bs a) (bounded bs b) t)) (interval bs xs h b (and_r (bounded bs a) (bounded bs b) t))
interval bs xs h (smaller a b) t =
    smaller_boxed (box bs a) (box bs b) (eval xs a) (eval xs b) (interval bs xs h a (and_l (bounded bs a) (bounded bs b) t)) (interval bs xs h b (and_r (bounded bs a) (bounded bs b) t))
