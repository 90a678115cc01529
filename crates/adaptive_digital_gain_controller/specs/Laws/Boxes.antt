-- In which box each setting, each figure and each field of a state lies, where its test passed.
use Rattle.std.specs.Prelude.{◌≡◌, ℕ, ◌+◌, ◌≤◌, Bool, true, false, not, ◌||◌, T, ◌⊎◌, [], ◌∷◌, Float}
use Rattle.std.proofs.Common.{inl, inr, arith}
use Rattle.std.specs.Float.{binary32}
use Rattle.std.specs.Float.Ieee.{of_bits, le, lt, eq, fits}
use Rattle.std.specs.Float.Ieee.Scale.{finite}
use Rattle.rounding.specs.Units.{P, N, Number, Value, In}
use Rattle.rounding.specs.Laws.Whole.{sides}
use Rattle.rounding.specs.Laws.Order.{between, le_box}
use Rattle.rounding.specs.Laws.Exact.{constant_number}
use Rattle.floats.specs.Kinds.{is_negative_zero}
use Rattle.floats.specs.Laws.Kinds.{passed, nought_value}
use Rattle.lists.specs.Tests.{each_of}
use Rattle.intervals.specs.Interval.{Box, Boxed}
use Rattle.units.specs.Ranges.{closed, above}
use Rattle.units.specs.Figures as Figures
use Rattle.units.specs.Settings as Settings
use Rattle.units.specs.declared.settings.Settings.{Settings as Set}
use Rattle.adaptive_digital_gain_controller.specs.Controller.{accepted}
use Rattle.adaptive_digital_gain_controller.specs.Range.{zero, HeldSettings, HeldInfo}
use Rattle.adaptive_digital_gain_controller.specs.declared.Info.{Info}

-- what is below is at or below
lt_le : (x y : Float) → T (lt x y) → T (le x y)
unfolding le
lt_le x y t = or_left (lt x y) (eq x y) t
  where
    or_left : (a b : Bool) → T a → T (a || b)
    or_left true b t = tt
    or_left false b t = absurd t

-- the box between two constants
abbrev pub from_to : ℕ → ℕ → Box
from_to a b = record { low = of_bits binary32 a; high = of_bits binary32 b }

module _ (a b : ℕ) (l : T (finite (of_bits binary32 a))) (h : T (finite (of_bits binary32 b))) (x : Float) where
  -- What lies between two constants lies in their box.
  pub boxed : In (of_bits binary32 a) (of_bits binary32 b) x → Boxed (from_to a b) x
  boxed i = record { low_number = constant_number a l; high_number = constant_number b h; inside = i }

  -- A figure from one constant to another lies in their box.
  pub closed_box : T (fits binary32 x) → closed (of_bits binary32 a) x (of_bits binary32 b) ≡ true → Boxed (from_to a b) x
  closed_box t c =
      let low = of_bits binary32 a in
      let high = of_bits binary32 b in
      let both = each_of (le low x ∷ le x high ∷ []) c in
      let p = passed (both 0) in
      let q = passed (both 1) in
      boxed (le_box low high x (constant_number a l) (constant_number b h) (between low high x (constant_number a l) (constant_number b h) t p q) p q)

  -- So does one above the first.
  pub above_box : T (fits binary32 x) → above (of_bits binary32 a) x (of_bits binary32 b) ≡ true → Boxed (from_to a b) x
  above_box t c =
      let low = of_bits binary32 a in
      let high = of_bits binary32 b in
      let both = each_of (lt low x ∷ le x high ∷ []) c in
      let p = lt_le low x (passed (both 0)) in
      let q = passed (both 1) in
      boxed (le_box low high x (constant_number a l) (constant_number b h) (between low high x (constant_number a l) (constant_number b h) t p q) p q)

  -- And so does a setting.
  pub setting_box : T (fits binary32 x) → Settings.setting (of_bits binary32 a) x (of_bits binary32 b) ≡ true → Boxed (from_to a b) x
  setting_box t c = closed_box t (each_of (closed (of_bits binary32 a) x (of_bits binary32 b) ∷ not (is_negative_zero x) ∷ []) c 0)

-- a number that has no units below zero, and at most c above it
pub record Above (c : ℕ) (x : Float) : Type 0 where
  pub number : Number x
  pub none : N x ≡ 0
  pub most : P x ≤ c

-- A number from 0 to one of c units has none below zero, and at most c above it.
pub from_zero : (hi x : Float) (c : ℕ) → Value hi c 0 → In zero hi x → Above c x
from_zero hi x c v i =
    let z = nought_value in
    let none = clear (P x) (N x) (P zero) (N zero) (sides x i.number).one z.plus z.minus i.above in
    record { number = i.number; none = none; most = most (P x) (N x) (P hi) (N hi) c v.plus v.minus none i.below }
  where
    clear : (p n q m : ℕ) → (p ≡ 0) ⊎ (n ≡ 0) → q ≡ 0 → m ≡ 0 → q + n ≤ p + m → n ≡ 0
    clear p n q m (inl i) j k l = omega arith
    clear p n q m (inr i) j k l = i

    most : (p n q m c : ℕ) → q ≡ c → m ≡ 0 → n ≡ 0 → p + m ≤ q + n → p ≤ c
    most p n q m c i j k l = omega arith

-- where the settings lie
pub record InSettings (s : Set) : Type 0 where
  pub headroom : Boxed (from_to 0x0000_0000 0x4248_0000) s.headroom.0
  pub largest : Boxed (from_to 0x0000_0000 0x4248_0000) s.largest.0
  pub initial : Boxed (from_to 0x0000_0000 0x4248_0000) s.initial.0
  pub change : Boxed (from_to 0x3c23_d70a 0x42c8_0000) s.change
  pub noise : Boxed (from_to 0xc2b4_0000 0x0000_0000) s.noise.0

-- Settings that are accepted lie in their ranges.
pub in_settings : (s : Set) → HeldSettings s → Settings.accepted s ≡ true → InSettings s
unfolding Settings.accepted of_bits
in_settings s t h =
    let p = each_of (_ ∷ _ ∷ _ ∷ _ ∷ _ ∷ []) h in
    record {
      headroom = setting_box 0x0000_0000 0x4248_0000 tt tt s.headroom.0 t.headroom (p 0);
      largest = above_box 0x0000_0000 0x4248_0000 tt tt s.largest.0 t.largest (p 1);
      initial = setting_box 0x0000_0000 0x4248_0000 tt tt s.initial.0 t.initial (p 2);
      change = setting_box 0x3c23_d70a 0x42c8_0000 tt tt s.change t.change (p 3);
      noise = setting_box 0xc2b4_0000 0x0000_0000 tt tt s.noise.0 t.noise (p 4);
    }

-- where the figures lie
pub record InFigures (i : Info) : Type 0 where
  pub level : Boxed (from_to 0xc316_0000 0x4248_0000) i.level.0
  pub noise : Boxed (from_to 0xc316_0000 0x4248_0000) i.noise.0
  pub headroom : Boxed (from_to 0x0000_0000 0x42c8_0000) i.headroom.0
  pub envelope : Boxed (from_to 0xc316_0000 0x42c8_0000) i.envelope.0

-- Figures that are accepted lie in their ranges.
pub in_figures : (i : Info) → HeldInfo i → accepted i ≡ true → InFigures i
unfolding accepted of_bits
in_figures i k h =
    let p = each_of (Figures.probability i.probability ∷ _ ∷ _ ∷ _ ∷ _ ∷ []) h in
    record {
      level = closed_box 0xc316_0000 0x4248_0000 tt tt i.level.0 k.level (p 1);
      noise = closed_box 0xc316_0000 0x4248_0000 tt tt i.noise.0 k.noise (p 2);
      headroom = above_box 0x0000_0000 0x42c8_0000 tt tt i.headroom.0 k.headroom (p 3);
      envelope = closed_box 0xc316_0000 0x42c8_0000 tt tt i.envelope.0 k.envelope (p 4);
    }
