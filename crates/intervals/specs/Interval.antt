-- Expressions over f32, and the box in which the result lies where each variable lies in a box of its own. Rounding keeps the order,
-- so the ends of the box are worked out by the very operations of the expression. Definitions only; `Laws.Interval` proves it.
use Rattle.std.specs.Prelude.{Bool, ◌&&◌, List, [], ◌∷◌, ℕ, get_or, Float}
use Rattle.std.specs.Float.{nan, binary32}
use Rattle.std.specs.Float.Ieee.{add, sub, mul, div, lt, fits, of_bits}
use Rattle.std.specs.Float.Ieee.Scale.{finite}
use Rattle.floats.specs.Choice as Choice
use Rattle.rounding.specs.Units.{Number, In}

pub data Expr : Type 0 where
  variable : ℕ → Expr
  constant : Float → Expr
  sum difference product quotient larger smaller : Expr → Expr → Expr

-- the value of an expression, each operation rounded
unfoldable pub eval : List Float → Expr → Float
eval xs (variable i) = get_or xs i nan
eval xs (constant c) = c
eval xs (sum a b) = add binary32 (eval xs a) (eval xs b)
eval xs (difference a b) = sub binary32 (eval xs a) (eval xs b)
eval xs (product a b) = mul binary32 (eval xs a) (eval xs b)
eval xs (quotient a b) = div binary32 (eval xs a) (eval xs b)
eval xs (larger a b) = Choice.larger (eval xs a) (eval xs b)
eval xs (smaller a b) = Choice.smaller (eval xs a) (eval xs b)

-- a clamp is a larger and then a smaller
abbrev pub clamped : Expr → Expr → Expr → Expr
clamped x low high = smaller (larger x low) high

pub record Box : Type 0 where
  pub low : Float
  pub high : Float

-- where there is no variable there is no box
abbrev pub nowhere : Box
nowhere = record { low = nan; high = nan }

-- ---- the box of each operation
unfoldable pub sum_box : Box → Box → Box
sum_box a b = record { low = add binary32 a.low b.low; high = add binary32 a.high b.high }

unfoldable pub difference_box : Box → Box → Box
difference_box a b = record { low = sub binary32 a.low b.high; high = sub binary32 a.high b.low }

-- of any signs: between the least and the greatest of the four corners
unfoldable pub corners : (Float → Float → Float) → Box → Box → Box
corners f a b =
    let p = f a.low b.low in
    let q = f a.low b.high in
    let r = f a.high b.low in
    let s = f a.high b.high in
    record { low = Choice.smaller (Choice.smaller p q) (Choice.smaller r s); high = Choice.larger (Choice.larger p q) (Choice.larger r s) }

unfoldable pub finite_corners : (Float → Float → Float) → Box → Box → Bool
finite_corners f a b = finite (f a.low b.low) && finite (f a.low b.high) && finite (f a.high b.low) && finite (f a.high b.high)

unfoldable pub box : List Box → Expr → Box
unfolding sum_box difference_box corners
box bs (variable i) = get_or bs i nowhere
box bs (constant c) = record { low = c; high = c }
box bs (sum a b) = sum_box (box bs a) (box bs b)
box bs (difference a b) = difference_box (box bs a) (box bs b)
box bs (product a b) = corners (mul binary32) (box bs a) (box bs b)
box bs (quotient a b) = corners (div binary32) (box bs a) (box bs b)
box bs (larger a b) = record { low = Choice.larger (box bs a).low (box bs b).low; high = Choice.larger (box bs a).high (box bs b).high }
box bs (smaller a b) = record { low = Choice.smaller (box bs a).low (box bs b).low; high = Choice.smaller (box bs a).high (box bs b).high }

unfoldable pub finite_box : Box → Bool
finite_box b = finite b.low && finite b.high

-- ---- the test: no end of a box is infinite, and what is divided by is above zero
unfoldable pub bounded : List Box → Expr → Bool
unfolding box sum_box difference_box finite_corners finite_box
bounded bs (variable i) = finite (get_or bs i nowhere).low
bounded bs (constant c) = finite c && fits binary32 c
bounded bs (sum a b) = bounded bs a && bounded bs b && finite_box (sum_box (box bs a) (box bs b))
bounded bs (difference a b) = bounded bs a && bounded bs b && finite_box (difference_box (box bs a) (box bs b))
bounded bs (product a b) = bounded bs a && bounded bs b && finite_corners (mul binary32) (box bs a) (box bs b)
bounded bs (quotient a b) = bounded bs a && bounded bs b && (lt (of_bits binary32 0) (box bs b).low && finite_corners (div binary32) (box bs a) (box bs b))
bounded bs (larger a b) = bounded bs a && bounded bs b
bounded bs (smaller a b) = bounded bs a && bounded bs b

-- x lies in a box whose ends are numbers
pub record Boxed (b : Box) (x : Float) : Type 0 where
  pub low_number : Number b.low
  pub high_number : Number b.high
  pub inside : In b.low b.high x

-- each variable lies in its box
abbrev pub AllBoxed : List Box → List Float → Type 0
AllBoxed [] xs = Unit {0}
AllBoxed (b ∷ bs) [] = ⊥
AllBoxed (b ∷ bs) (x ∷ xs) = Boxed b x × AllBoxed bs xs
