-- A state that passes goes on passing: the headroom stays from 12 to 25, slots and largest peak from -150 to 50, and the time from 0 to 400 in tens. Laws.
-- Assumes nothing.
use Rattle.std.specs.Prelude.{◌≡◌, refl, Bool, true, false, cond, ℕ, ◌+◌, ◌%◌, ltb, Float}
use Rattle.std.proofs.Common.{arith, ltb-false, le-leb, eq-eqb}
use Rattle.std.proofs.Math.Seq.{take-set-lt}
use Rattle.std.specs.Float.Ieee.{binary32, sub}
use Rattle.lists.specs.Tests.{◌and◌}
use Rattle.rounding.specs.Units.{In}
use Rattle.floats.specs.Choice.{larger}
use Rattle.floats.specs.Laws.Kinds.{passed as so}
use Rattle.units.specs.Figures.{level, headroom}
use Rattle.saturation_protector_buffer.specs.Ring as Ring
use Rattle.saturation_protector_buffer.specs.Laws.Passing as Rings
use Rattle.saturation_protector_buffer.specs.declared.Ring.{Ring as Stored}
use Rattle.saturation_protector.specs.Peaks.{lowest, longest, frame_time, least, most, time, all_levels, oldest_or, starting, restarted, passes, advanced}
use Rattle.saturation_protector.specs.declared.Peaks.{Peaks}
use Rattle.saturation_protector.specs.Laws.Tests.{passed, passing, level_finite, larger_level, time_tens}
use Rattle.saturation_protector.specs.Laws.Rings.{pushed_when_passes}
use Rattle.saturation_protector.specs.Laws.Levels.{levels_set, empty_levels, lowest_level, items_levels, oldest_level, either_level}
use Rattle.saturation_protector.specs.Laws.Nan.{sub_real, finite_real}
use Rattle.saturation_protector.specs.Laws.Range.{nearer_in, in_headroom}

-- The state at the start passes.
pub starting_passes : (h : Float) (n : ℕ) → headroom h ≡ true → Ring.is_capacity n ≡ true → passes (starting h n) ≡ true
unfolding starting
starting_passes h n p c =
    passing (starting h n) (record { ring = Rings.empty_passes n c; headroom = p; stored = empty_levels n; largest = lowest_level; time = refl })

-- A state that passes does so after a reset.
pub restarted_passes : (h : Float) (s : Peaks) → headroom h ≡ true → passes s ≡ true → passes (restarted h s) ≡ true
unfolding restarted Ring.reset
restarted_passes h s p q =
    let was = passed s q in
    passing (restarted h s)
    (record { headroom = p; ring = Rings.reset_passes s.ring was.ring; stored = was.stored; largest = lowest_level; time = refl })

module _ (peak speech_level : Float) (s : Peaks) (h : passes s ≡ true) (p : level peak ≡ true) (l : level speech_level ≡ true) where
  -- the largest peak with this one in it, whether it is pushed, and the ring and the largest peak after that
  abbrev new : Float
  new = larger s.largest peak

  abbrev due : Bool
  due = ltb longest (s.elapsed + frame_time)

  abbrev ring : Stored
  ring = cond due (Ring.push s.ring new) s.ring

  abbrev largest : Float
  largest = cond due lowest new

  new_level : level new ≡ true
  new_level = larger_level s.largest peak (passed s h).largest p

  push_levels : all_levels (Ring.slots (Ring.push s.ring new)) ≡ true
  unfolding Ring.push
  push_levels =
      rw (take-set-lt s.ring.capacity s.ring.stored s.ring.place new (Rings.within s.ring (passed s h).ring).place)
      (levels_set (Ring.slots s.ring) s.ring.place new (passed s h).stored new_level)

  ring_levels : all_levels (Ring.slots ring) ≡ true
  ring_levels = go due
    where
      go : (b : Bool) → all_levels (Ring.slots (cond b (Ring.push s.ring new) s.ring)) ≡ true
      go true = push_levels
      go false = (passed s h).stored

  largest_level_lem : level largest ≡ true
  largest_level_lem = either_level due lowest new lowest_level new_level

  -- The headroom after a frame lies from 12 to 25.
  pub advanced_in : In least most (advanced peak speech_level s).headroom
  unfolding advanced
  advanced_in =
      let oldest = oldest_or (Ring.items ring) largest in
      let o = level_finite oldest (oldest_level (Ring.items ring) largest (items_levels ring ring_levels) largest_level_lem) in
      nearer_in s.headroom (sub binary32 oldest speech_level) (passed s h).headroom
      (sub_real oldest speech_level (so o) (finite_real speech_level (so (level_finite speech_level l))))

  later : time (cond due 0 (s.elapsed + frame_time)) ≡ true
  later = go due refl
    where
      go : (b : Bool) → due ≡ b → time (cond b 0 (s.elapsed + frame_time)) ≡ true
      go true e = refl
      go false e =
          let tens = time_tens s h in
          le-leb (s.elapsed + frame_time) longest (ltb-false longest (s.elapsed + frame_time) e) and eq-eqb ((s.elapsed + frame_time) % 10) 0 (omega arith)

  -- A state that passes, advanced by a peak and a level of the speech from -150 to 50, passes again.
  pub advanced_passes : passes (advanced peak speech_level s) ≡ true
  unfolding advanced
  advanced_passes =
      passing (advanced peak speech_level s)
      (record {
        headroom = in_headroom (advanced peak speech_level s).headroom advanced_in;
        ring = pushed_when_passes due s.ring new (passed s h).ring (level_finite new new_level);
        stored = ring_levels;
        largest = largest_level_lem;
        time = later;
      })
