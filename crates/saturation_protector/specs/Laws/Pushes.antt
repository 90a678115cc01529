-- When the largest peak is pushed: after 400 ms and not before, of any state and any number of frames. Document 01's example of the peaks. Laws.
-- Assumes nothing.
use Rattle.std.specs.Prelude.{◌≡◌, refl, List, [], ◌∷◌, ℕ, ◌+◌, ◌*◌, ◌≤◌, ◌<◌, length, Float}
use Rattle.std.proofs.Common.{ap, ◌∙◌, arith, lt-ltb, le-ltb}
use Rattle.floats.specs.Choice.{larger}
use Rattle.runs.specs.Histories.{advanced_by}
use Rattle.saturation_protector_buffer.specs.Ring as Ring
use Rattle.saturation_protector_buffer.specs.declared.Ring.{Ring as Stored}
use Rattle.saturation_protector.specs.Peaks.{lowest, longest, frame_time, advanced}
use Rattle.saturation_protector.specs.History.{Figures, frames, largest_of}
use Rattle.saturation_protector.specs.declared.Peaks.{Peaks}

-- r is s with frames more, but with nothing pushed: the ring of s, this peak as the largest one, and so many milliseconds more
pub record Waited (s r : Peaks) (peak : Float) (more : ℕ) : Type 0 where
  pub ring : r.ring ≡ s.ring
  pub largest : r.largest ≡ peak
  pub elapsed : r.elapsed ≡ s.elapsed + more

-- r is s with frames more, after the last of which this peak was pushed, and largest peak and time start anew
pub record Pushed (s r : Peaks) (peak : Float) : Type 0 where
  pub ring : r.ring ≡ Ring.push s.ring peak
  pub largest : r.largest ≡ lowest
  pub elapsed : r.elapsed ≡ 0

-- A frame that ends within 400 ms of the last push pushes nothing.
pub one_waits : (s : Peaks) (peak level : Float) → s.elapsed + frame_time ≤ longest → Waited s (advanced peak level s) (larger s.largest peak) 10
unfolding advanced
one_waits s peak level h =
    let no = le-ltb longest (s.elapsed + frame_time) h in
    record { ring = rw no refl; largest = rw no refl; elapsed = rw no refl }

-- One that ends later pushes.
pub one_pushes : (s : Peaks) (peak level : Float) → longest < s.elapsed + frame_time → Pushed s (advanced peak level s) (larger s.largest peak)
unfolding advanced
one_pushes s peak level h =
    let yes = lt-ltb longest (s.elapsed + frame_time) h in
    record { ring = rw yes refl; largest = rw yes refl; elapsed = rw yes refl }

-- Frames that end within 400 ms of the last push push nothing: the ring is as it was, and the largest peak is that of all.
pub frames_wait : (s : Peaks) (fs : List Figures) → s.elapsed + 10 * length fs ≤ longest
    → Waited s (advanced_by s (frames fs)) (largest_of s.largest fs) (10 * length fs)
unfolding advanced_by frames largest_of
frames_wait s [] h = record { ring = refl; largest = refl; elapsed = omega arith }
frames_wait s (f ∷ fs) h =
    let next = advanced f.peak f.level s in
    let one = one_waits s f.peak f.level (omega arith) in
    let now = one.elapsed in
    let rest = frames_wait next fs (omega arith) in
    let then = rest.elapsed in
    record {
      ring = rest.ring ∙ one.ring;
      largest = rest.largest ∙ ap (λ (x : Float). largest_of x fs) one.largest;
      elapsed = omega arith;
    }

-- The first frame that ends later pushes the largest peak of all since the last push.
pub frames_push : (s : Peaks) (fs : List Figures) → s.elapsed ≤ longest → s.elapsed + 10 * length fs ≡ 410
    → Pushed s (advanced_by s (frames fs)) (largest_of s.largest fs)
unfolding advanced_by frames largest_of
frames_push s [] h e = absurd (omega arith)
frames_push s (f ∷ []) h e = one_pushes s f.peak f.level (omega arith)
frames_push s (f ∷ g ∷ fs) h e =
    let next = advanced f.peak f.level s in
    let one = one_waits s f.peak f.level (omega arith) in
    let now = one.elapsed in
    let rest = frames_push next (g ∷ fs) (omega arith) (omega arith) in
    record {
      ring = rest.ring ∙ ap (λ (r : Stored). Ring.push r (largest_of next.largest (g ∷ fs))) one.ring ∙ ap (λ (x : Float). Ring.push s.ring (largest_of x (g ∷ fs))) one.largest;
      largest = rest.largest;
      elapsed = rest.elapsed;
    }

-- ---- "Peaks: 40 speech frames push nothing, the 41st pushes."
-- Of a state that starts: up to 40 frames leave the ring as it was, and take 10 ms each.
pub forty_wait : (s : Peaks) (fs : List Figures) → s.elapsed ≡ 0 → length fs ≤ 40
    → Waited s (advanced_by s (frames fs)) (largest_of s.largest fs) (10 * length fs)
forty_wait s fs e h = frames_wait s fs (omega arith)

-- The 41st pushes the largest peak of the 41, or where the state started from, and the time starts anew.
pub forty_first_pushes : (s : Peaks) (fs : List Figures) → s.elapsed ≡ 0 → length fs ≡ 41
    → Pushed s (advanced_by s (frames fs)) (largest_of s.largest fs)
forty_first_pushes s fs e h = frames_push s fs (omega arith) (omega arith)
