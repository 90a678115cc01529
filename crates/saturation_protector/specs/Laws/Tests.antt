-- What a state that passes has, and that a level is a number. Laws.
-- Assumes nothing.
use Rattle.std.specs.Prelude.{◌≡◌, refl, Bool, true, false, cond, [], ◌∷◌, ◌≤◌, ◌%◌, leb, eqb, Float}
use Rattle.std.proofs.Common.{sym, ◌∙◌, leb-true, eqb-true, le-leb, eq-eqb}
use Rattle.std.proofs.lemmas.Bool.{false≢true}
use Rattle.std.specs.Float.{nan, inf, fin}
use Rattle.std.specs.Float.Ieee.{of_bits, le, lt, eq}
use Rattle.std.specs.Float.Ieee.Scale.{finite}
use Rattle.lists.specs.Tests.{each_of, ◌and◌}
use Rattle.units.specs.Figures.{level, headroom}
use Rattle.units.specs.Settings.{threshold}
use Rattle.floats.specs.Choice.{larger}
use Rattle.saturation_protector_buffer.specs.Ring as Ring
use Rattle.saturation_protector.specs.Peaks as Peaks
use Rattle.saturation_protector.specs.Peaks.{all_levels, time, longest}
use Rattle.saturation_protector.specs.Protector as Protector
use Rattle.saturation_protector.specs.declared.Peaks.{Peaks as State}
use Rattle.saturation_protector.specs.declared.Protector.{Protector as Whole}

-- ---- levels
no_nan : level nan ≡ false
unfolding le lt eq of_bits
no_nan = refl

no_infinity : (s : Bool) → level (inf s) ≡ false
unfolding le lt eq of_bits
no_infinity true = refl
no_infinity false = refl

-- A level from -150 to 50 is a number.
pub level_finite : (x : Float) → level x ≡ true → finite x ≡ true
level_finite nan h = absurd (false≢true (sym no_nan ∙ h))
level_finite (inf s) h = absurd (false≢true (sym (no_infinity s) ∙ h))
level_finite (fin s m e) h = refl

-- The larger of two levels is a level.
pub larger_level : (x y : Float) → level x ≡ true → level y ≡ true → level (larger x y) ≡ true
unfolding larger
larger_level x y h k = go (lt x y)
  where
    go : (b : Bool) → level (cond b y x) ≡ true
    go true = k
    go false = h

-- ---- the state of the peaks
pub record Passed (s : State) : Type 0 where
  pub ring : Ring.passes s.ring ≡ true
  pub headroom : headroom s.headroom ≡ true
  pub stored : all_levels (Ring.slots s.ring) ≡ true
  pub largest : level s.largest ≡ true
  pub time : time s.elapsed ≡ true

-- What a state that passes has.
pub passed : (s : State) → Peaks.passes s ≡ true → Passed s
unfolding Peaks.passes
passed s h =
    let p = each_of (_ ∷ _ ∷ _ ∷ _ ∷ _ ∷ []) h in
    record { ring = p 0; headroom = p 1; stored = p 2; largest = p 3; time = p 4 }

-- And what has all five passes.
pub passing : (s : State) → Passed s → Peaks.passes s ≡ true
unfolding Peaks.passes
passing s p = p.ring and p.headroom and p.stored and p.largest and p.time

-- The time of a state that passes is at most 400 ms,
pub time_most : (s : State) → Peaks.passes s ≡ true → s.elapsed ≤ longest
time_most s h = leb-true s.elapsed longest (each_of (leb s.elapsed longest ∷ eqb (s.elapsed % 10) 0 ∷ []) (passed s h).time 0)

-- and in tens.
pub time_tens : (s : State) → Peaks.passes s ≡ true → s.elapsed % 10 ≡ 0
time_tens s h = eqb-true (s.elapsed % 10) 0 (each_of (leb s.elapsed longest ∷ eqb (s.elapsed % 10) 0 ∷ []) (passed s h).time 1)

-- ---- the protector
pub record PassedWhole (s : Whole) : Type 0 where
  pub initial : headroom s.initial ≡ true
  pub threshold : threshold s.threshold ≡ true
  pub count : s.count ≤ s.threshold
  pub headroom : headroom s.headroom ≡ true
  pub preliminary : Peaks.passes s.preliminary ≡ true
  pub reliable : Peaks.passes s.reliable ≡ true
  pub alike : s.preliminary.ring.capacity ≡ s.reliable.ring.capacity

-- What a protector that passes has.
pub passed_whole : (s : Whole) → Protector.passes s ≡ true → PassedWhole s
unfolding Protector.passes
passed_whole s h =
    let p = each_of (_ ∷ _ ∷ _ ∷ _ ∷ _ ∷ _ ∷ _ ∷ []) h in
    record {
      initial = p 0;
      threshold = p 1;
      count = leb-true s.count s.threshold (p 2);
      headroom = p 3;
      preliminary = p 4;
      reliable = p 5;
      alike = eqb-true s.preliminary.ring.capacity s.reliable.ring.capacity (p 6);
    }

-- And what has all seven passes.
pub passing_whole : (s : Whole) → PassedWhole s → Protector.passes s ≡ true
unfolding Protector.passes
passing_whole s p = p.initial and p.threshold and le-leb s.count s.threshold p.count and p.headroom and p.preliminary and p.reliable
    and eq-eqb s.preliminary.ring.capacity s.reliable.ring.capacity p.alike
