-- Document 01's example of the peaks, of the protector: of a new one and of one that was reset. Laws.
-- Assumes nothing.
use Rattle.std.specs.Prelude.{◌≡◌, refl, Bool, true, false, ◌&&◌, cond, List, [], ◌∷◌, ℕ, ◌≤◌, length, Float}
use Rattle.std.proofs.Common.{◌∙◌, arith}
use Rattle.std.proofs.lemmas.Bool.{false≢true}
use Rattle.lists.specs.Each.{Each}
use Rattle.lists.specs.Tests.{◌and◌}
use Rattle.units.specs.Figures.{headroom}
use Rattle.units.specs.Settings.{threshold}
use Rattle.units.specs.Replies.{done}
use Rattle.units.specs.Laws.Replies.{none_refused}
use Rattle.saturation_protector_buffer.specs.Rings as Rings
use Rattle.saturation_protector_buffer.specs.Ring as Ring
use Rattle.saturation_protector_buffer.specs.Laws.Pushes.{push_items, last_short}
use Rattle.saturation_protector_buffer.specs.Laws.Passing as Ringing
use Rattle.saturation_protector_buffer.specs.Laws.History.{SoundRing, empty_sound, reset_sound}
use Rattle.saturation_protector_buffer.specs.declared.Ring.{Ring as Stored}
use Rattle.saturation_protector.specs.Peaks.{lowest, starting, restarted}
use Rattle.saturation_protector.specs.Protector.{passes, nothing, fresh, again}
use Rattle.saturation_protector.specs.Calls.{made, reset}
use Rattle.saturation_protector.specs.History.{Figures, InRange, Speech, heard, largest_of}
use Rattle.saturation_protector.specs.declared.Protector.{Protector}
use Rattle.saturation_protector.specs.Laws.Pushes.{forty_wait, forty_first_pushes}
use Rattle.saturation_protector.specs.Laws.Again.{made_passes, reset_passes}
use Rattle.saturation_protector.specs.Laws.Tests.{passed, passed_whole}
use Rattle.saturation_protector.proofs.Joined.{heard_preliminary}

-- a protector whose preliminary state starts: no items, the lowest level as the largest peak, and no time passed
pub record Starts (s : Protector) : Type 0 where
  pub state : passes s ≡ true
  pub sound : SoundRing s.preliminary.ring
  pub items : Ring.items s.preliminary.ring ≡ []
  pub largest : s.preliminary.largest ≡ lowest
  pub elapsed : s.preliminary.elapsed ≡ 0

-- a push into a ring without items
first_item : (r : Stored) (v : Float) → SoundRing r → Ring.items r ≡ [] → Ring.items (Ring.push r v) ≡ v ∷ []
unfolding Ring.items Ring.push
first_item r v s h =
    push_items r.capacity r.stored r.place r.size v s ∙ rw h (last_short r.capacity (v ∷ []) (omega (arith, s.inside)))

module _ (s : Protector) (start : Starts s) (fs : List Figures) (ranges : Each InRange fs) (speech : Each Speech fs) where
  -- "40 speech frames push nothing"
  pub forty_push_nothing : length fs ≤ 40 → Ring.items (heard s fs).preliminary.ring ≡ []
  forty_push_nothing h =
      rw (heard_preliminary s fs start.state ranges speech, (forty_wait s.preliminary fs start.elapsed h).ring) start.items

  -- "the 41st pushes": the one item is the largest of the 41 peaks, where one is above the lowest level
  pub forty_first_pushes_one : length fs ≡ 41 → Ring.items (heard s fs).preliminary.ring ≡ largest_of lowest fs ∷ []
  forty_first_pushes_one h =
      rw (heard_preliminary s fs start.state ranges speech, (forty_first_pushes s.preliminary fs start.elapsed h).ring, start.largest)
      (first_item s.preliminary.ring (largest_of lowest fs) start.sound start.items)

-- A new protector starts, of any capacity.
pub made_starts : (initial : Float) (t n : ℕ) → (made initial t n).reply ≡ done → Starts (made initial t n).protector
unfolding made fresh starting Ring.empty Ring.items Rings.items
made_starts initial t n h =
    let k = none_refused true (threshold t && Ring.is_capacity n) (headroom initial) true h in
    let p = made_passes initial t n h in
    go (threshold t && Ring.is_capacity n && headroom initial) (k.1 and k.2) p
  where
    go : (b : Bool) → b ≡ true → passes (cond b (fresh initial t n) nothing) ≡ true → Starts (cond b (fresh initial t n) nothing)
    go true e p =
        let ring = (Ringing.passed (Ring.empty n) (passed (starting initial n) (passed_whole (fresh initial t n) p).preliminary).ring).capacity in
        record { state = p; sound = empty_sound n ring; items = refl; largest = refl; elapsed = refl }
    go false e p = absurd (false≢true e)

-- A protector that was reset starts; that its ring's storage is long enough is what the borrow checker knows of an array.
pub reset_starts : (s : Protector) → s.preliminary.ring.capacity ≤ length s.preliminary.ring.stored → (reset s).reply ≡ done → Starts (reset s).protector
unfolding reset again restarted Ring.reset Ring.items Rings.items
reset_starts s long h = let k = (none_refused true (passes s) true true h).1 in go (passes s) k (reset_passes s h) (passed s.preliminary (passed_whole s k).preliminary).ring
  where
    go : (b : Bool) → b ≡ true → passes (cond b (again s) s) ≡ true → Ring.passes s.preliminary.ring ≡ true → Starts (cond b (again s) s)
    go true e p r = record { state = p; sound = reset_sound s.preliminary.ring r long; items = refl; largest = refl; elapsed = refl }
    go false e p r = absurd (false≢true e)
