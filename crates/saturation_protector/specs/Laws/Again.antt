-- "Every state from a new or accepted call passes": of each call, and the headroom that is told lies in its range. Laws.
-- Assumes nothing.
use Rattle.std.specs.Prelude.{◌≡◌, refl, Bool, true, false, ◌&&◌, cond, [], ◌∷◌, ℕ, ◌≤◌, Float}
use Rattle.std.proofs.Common.{arith}
use Rattle.lists.specs.Tests.{each_of}
use Rattle.units.specs.Figures.{probability, level, headroom}
use Rattle.units.specs.Settings.{threshold}
use Rattle.units.specs.Replies.{done}
use Rattle.units.specs.Laws.Replies.{none_refused}
use Rattle.runs.specs.Runs.{speech, longer, turned}
use Rattle.runs.specs.Laws.Counts.{longer_most}
use Rattle.saturation_protector_buffer.specs.Ring as Ring
use Rattle.saturation_protector_buffer.specs.Ring.{is_capacity}
use Rattle.saturation_protector.specs.Peaks as Peaks
use Rattle.saturation_protector.specs.Protector.{passes, fresh, again, analyzed}
use Rattle.saturation_protector.specs.Calls.{made, figures, stepped, reset, told}
use Rattle.saturation_protector.specs.declared.Peaks.{Peaks as State}
use Rattle.saturation_protector.specs.declared.Protector.{Protector}
use Rattle.saturation_protector.specs.Laws.Tests.{passed, passed_whole, passing_whole}
use Rattle.saturation_protector.specs.Laws.Frames.{preliminary_of, turned_to, analyzed_turned}
use Rattle.saturation_protector.specs.Laws.Passing.{starting_passes, restarted_passes, advanced_passes}
use Rattle.saturation_protector.specs.Laws.Capacity.{turned_alike}

-- ---- the steps
-- A protector at the start passes.
pub fresh_passes : (initial : Float) (t n : ℕ) → headroom initial ≡ true → threshold t ≡ true → is_capacity n ≡ true → passes (fresh initial t n) ≡ true
unfolding fresh
fresh_passes initial t n h k c =
    let start = starting_passes initial n h c in
    passing_whole (fresh initial t n)
    (record { initial = h; threshold = k; count = omega arith; headroom = h; preliminary = start; reliable = start; alike = refl })

-- A protector that passes does so after a reset.
pub again_passes : (s : Protector) → passes s ≡ true → passes (again s) ≡ true
unfolding again Peaks.restarted Ring.reset
again_passes s h =
    let p = passed_whole s h in
    passing_whole (again s)
    (record {
      initial = p.initial;
      threshold = p.threshold;
      count = omega arith;
      headroom = p.initial;
      preliminary = restarted_passes s.initial s.preliminary p.initial p.preliminary;
      reliable = restarted_passes s.initial s.reliable p.initial p.reliable;
      alike = p.alike;
    })

either_state : (b : Bool) (x y : State) → Peaks.passes x ≡ true → Peaks.passes y ≡ true → Peaks.passes (cond b x y) ≡ true
either_state true x y h k = h
either_state false x y h k = k

either_headroom : (b : Bool) (x y : Float) → headroom x ≡ true → headroom y ≡ true → headroom (cond b x y) ≡ true
either_headroom true x y h k = h
either_headroom false x y h k = k

either_count : (b : Bool) (t count : ℕ) → count ≤ t → cond b (longer t count) 0 ≤ t
either_count true t count h = longer_most t count h
either_count false t count h = omega arith

-- A protector that passes does so after a frame of a peak and a level of the speech from -150 to 50, whatever the probability.
pub analyzed_passes : (s : Protector) (p peak speech_level : Float) → passes s ≡ true → level peak ≡ true → level speech_level ≡ true
    → passes (analyzed s p peak speech_level) ≡ true
unfolding turned_to turned preliminary_of
analyzed_passes s p peak speech_level h k l =
    let was = passed_whole s h in
    let b = speech p in
    let turn = turned b s.threshold s.count in
    let preliminary : Peaks.passes (preliminary_of b peak speech_level s) ≡ true =
    either_state b (Peaks.advanced peak speech_level s.preliminary) (cond turn.throw s.reliable s.preliminary)
    (advanced_passes peak speech_level s.preliminary was.preliminary k l)
    (either_state turn.throw s.reliable s.preliminary was.reliable was.preliminary) in
    rw (analyzed_turned s p peak speech_level)
    (passing_whole (turned_to b peak speech_level s)
    (record {
      initial = was.initial;
      threshold = was.threshold;
      count = either_count b s.threshold s.count was.count;
      headroom =
          either_headroom turn.publish (preliminary_of b peak speech_level s).headroom s.headroom
          (passed (preliminary_of b peak speech_level s) preliminary).headroom was.headroom;
      preliminary = preliminary;
      reliable = either_state turn.keep s.preliminary s.reliable was.preliminary was.reliable;
      alike = turned_alike s b peak speech_level h;
    }))

-- ---- the calls: where the reply is 0, the state that comes out passes
-- A new protector that is not refused passes.
pub made_passes : (initial : Float) (t n : ℕ) → (made initial t n).reply ≡ done → passes (made initial t n).protector ≡ true
unfolding made
made_passes initial t n h =
    let k = none_refused true (threshold t && is_capacity n) (headroom initial) true h in
    let both = each_of (threshold t ∷ is_capacity n ∷ []) k.1 in
    rw (k.1, k.2) (fresh_passes initial t n k.2 (both 0) (both 1))

-- An accepted frame is one of figures in their ranges, of a protector that passes.
pub accepted : (s : Protector) (p peak speech_level : Float) → (stepped s p peak speech_level).reply ≡ done
    → (passes s ≡ true) × (figures p peak speech_level ≡ true)
unfolding stepped
accepted s p peak speech_level h = let k = none_refused true (passes s) (figures p peak speech_level) true h in (k.1, k.2)

-- What an accepted frame hands back.
pub stepped_analyzed : (s : Protector) (p peak speech_level : Float) → passes s ≡ true → figures p peak speech_level ≡ true
    → (stepped s p peak speech_level).protector ≡ analyzed s p peak speech_level
unfolding stepped
stepped_analyzed s p peak speech_level h k = rw (h, k) refl

-- After a frame that is not refused the protector passes.
pub stepped_passes : (s : Protector) (p peak speech_level : Float) → (stepped s p peak speech_level).reply ≡ done
    → passes (stepped s p peak speech_level).protector ≡ true
stepped_passes s p peak speech_level h =
    let k = accepted s p peak speech_level h in
    let q = each_of (probability p ∷ level peak ∷ level speech_level ∷ []) k.1 in
    rw (stepped_analyzed s p peak speech_level k.0 k.1) (analyzed_passes s p peak speech_level k.0 (q 1) (q 2))

-- After a reset that is not refused the protector passes.
pub reset_passes : (s : Protector) → (reset s).reply ≡ done → passes (reset s).protector ≡ true
unfolding reset
reset_passes s h =
    let k = (none_refused true (passes s) true true h).1 in
    rw k (again_passes s k)

-- A headroom that is told and not refused lies above 0 and to 100.
pub headroom_in_range : (s : Protector) → (told s).reply ≡ done → headroom (told s).headroom.0 ≡ true
unfolding told
headroom_in_range s h =
    let k = (none_refused true (passes s) true true h).1 in
    rw k (passed_whole s k).headroom
