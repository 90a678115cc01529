-- Larger, smaller and clamp by units: which of two numbers is chosen, and between which ends a clamped value lies.
use Rattle.std.specs.Prelude.{Bool, true, false, not, cond, ◌+◌, ◌≤◌, ◌<◌, T, Float}
use Rattle.std.proofs.Common.{le_refl, le_of_lt, arith}
use Rattle.std.specs.Float.{nan, inf, fin, binary32}
use Rattle.std.specs.Float.Ieee.{lt, fits, is_nan}
use Rattle.rounding.specs.Units.{P, N, Number, In}
use Rattle.floats.specs.Choice.{larger, smaller, clamp}
use Rattle.rounding.specs.Laws.Order.{lt→units, not-lt→units}

-- x is not above y
abbrev pub Leq : Float → Float → Type 0
Leq x y = P x + N y ≤ P y + N x

pub leq_trans : (x y z : Float) → Leq x y → Leq y z → Leq x z
leq_trans x y z a b = omega arith

-- z is the greater of two numbers, whichever it is
pub record Greater (x y z : Float) : Type 0 where
  pub number : Number z
  pub first : Leq x z
  pub second : Leq y z
  pub least : (u : Float) → Leq x u → Leq y u → Leq z u

pub record Lesser (x y z : Float) : Type 0 where
  pub number : Number z
  pub first : Leq z x
  pub second : Leq z y
  pub greatest : (u : Float) → Leq u x → Leq u y → Leq u z

pub larger_is : (x y : Float) → Number x → Number y → Greater x y (larger x y)
unfolding larger
larger_is x y h k = go (lt x y) (lt→units x y h k) (not-lt→units x y h k)
  where
    go : (b : Bool) → (T b → P x + N y < P y + N x) → (T (not b) → P y + N x ≤ P x + N y) → Greater x y (cond b y x)
    go true f g = record { number = k; first = le_of_lt (f tt); second = le_refl (P y + N y); least = λ (u : Float) (p : Leq x u) (q : Leq y u). q }
    go false f g = record { number = h; first = le_refl (P x + N x); second = g tt; least = λ (u : Float) (p : Leq x u) (q : Leq y u). p }

pub smaller_is : (x y : Float) → Number x → Number y → Lesser x y (smaller x y)
unfolding smaller
smaller_is x y h k = go (lt y x) (lt→units y x k h) (not-lt→units y x k h)
  where
    go : (b : Bool) → (T b → P y + N x < P x + N y) → (T (not b) → P x + N y ≤ P y + N x) → Lesser x y (cond b y x)
    go true f g = record { number = k; first = le_of_lt (f tt); second = le_refl (P y + N y); greatest = λ (u : Float) (p : Leq u x) (q : Leq u y). q }
    go false f g = record { number = h; first = le_refl (P x + N x); second = g tt; greatest = λ (u : Float) (p : Leq u x) (q : Leq u y). p }

-- ---- clamped between two numbers in order
clamp_number : (x lo hi : Float) → Number x → Number lo → Number hi → Leq lo hi → In lo hi (clamp x lo hi)
unfolding clamp
clamp_number x lo hi n l h o =
    let up = larger_is x lo n l in
    let down = smaller_is (larger x lo) hi up.number h in
    record { number = down.number; above = down.greatest lo up.second o; below = down.second }

-- of anything but a NaN
pub clamp_in : (x lo hi : Float) → T (fits binary32 x) → T (not (is_nan x)) → Number lo → Number hi → Leq lo hi → In lo hi (clamp x lo hi)
unfolding clamp larger smaller lt is_nan
clamp_in nan lo hi t u l h o = absurd u
clamp_in (fin s m e) lo hi t u l h o = clamp_number (fin s m e) lo hi (record { real = tt; held = t }) l h o
clamp_in (inf s) nan hi t u l h o = absurd l.real
clamp_in (inf s) (inf r) hi t u l h o = absurd l.real
clamp_in (inf s) (fin r m e) nan t u l h o = absurd h.real
clamp_in (inf s) (fin r m e) (inf q) t u l h o = absurd h.real
clamp_in (inf true) (fin r m e) (fin q n d) t u l h o =
    let lo = fin r m e in
    let down = smaller_is lo (fin q n d) l h in
    record { number = down.number; above = down.greatest lo (le_refl (P lo + N lo)) o; below = down.second }
clamp_in (inf false) (fin r m e) (fin q n d) t u l h o = record { number = h; above = o; below = le_refl (P (fin q n d) + N (fin q n d)) }
