-- Two histories that differ only in speech runs that are shorter than the threshold and closed by a non-speech frame or a gap. Which runs these are is
-- said by the events alone; "a refused frame is not counted and does not end a speech run". A gap is never changed. Definitions only.
use Rattle.std.specs.Prelude.{◌≡◌, Bool, true, false, ◌&&◌, cond, List, [], ◌∷◌, ℕ, suc, ◌+◌, ltb}
use Rattle.runs.specs.Runs.{speech}
use Rattle.units.specs.Figures.{accepted}
use Rattle.units.specs.declared.figures.Figures.{Figures}
use Rattle.chain.specs.declared.Chain.{Chain}
use Rattle.histories.specs.Histories.{Sound, Event, frame, is_speech, takes, only_taken, next}

-- how many speech frames come first
unfoldable pub ahead : List Event → ℕ
unfolding is_speech
ahead [] = 0
ahead (e ∷ es) = cond (is_speech e) (suc (ahead es)) 0

-- whether a non-speech frame or a gap ends them
unfoldable pub ends : List Event → Bool
unfolding is_speech
ends [] = false
ends (e ∷ es) = cond (is_speech e) (ends es) true

-- how long the run is after an event
unfoldable pub grown : ℕ → ℕ → Event → ℕ
unfolding takes is_speech
grown n k e = cond (takes n e) (cond (is_speech e) (k + 1) 0) k

-- behind k adjacent speech frames, e is a speech frame of a run that is shorter than the threshold and closed
unfoldable pub in_short : ℕ → ℕ → ℕ → Event → List Event → Bool
unfolding takes is_speech only_taken ahead ends
in_short n t k e es = takes n e && is_speech e && ends (only_taken n es) && ltb (k + 1 + ahead (only_taken n es)) t

-- "change probability, level and peak of their frames to those of any accepted non-speech frame": from f to g
pub record Silent (f g : Figures) : Type 0 where
  pub silent : speech g.probability ≡ false
  pub taken : accepted g ≡ true
  pub noise : g.noise ≡ f.noise
  pub envelope : g.envelope ≡ f.envelope

-- and the sound stays
pub data Silenced : Event → Event → Type 0 where
  silenced : {f g : Figures} {s : Sound} → Silent f g → Silenced (frame f s) (frame g s)

-- Behind k adjacent speech frames the second history is the first, but for frames of short closed runs: any of them, and so any choice of runs too.
pub data Changed (n t : ℕ) : ℕ → List Event → List Event → Type 0 where
  end : {k : ℕ} → Changed n t k [] []
  same : {k : ℕ} {e : Event} {es ds : List Event} → Changed n t (grown n k e) es ds → Changed n t k (e ∷ es) (e ∷ ds)
  other : {k : ℕ} {e d : Event} {es ds : List Event} → in_short n t k e es ≡ true → Silenced e d → Changed n t (grown n k e) es ds
      → Changed n t k (e ∷ es) (d ∷ ds)

-- whether a changed run is open after an event, by whether the run with this event in it has been changed
unfoldable pub opens : ℕ → Bool → Event → Bool
unfolding takes is_speech
opens n touched e = cond (takes n e) (touched && is_speech e) touched

-- Wherever no changed run is open, the two chains are the same: after each event of the two histories.
unfoldable pub States : {n t k : ℕ} {es ds : List Event} → Bool → Chain → Chain → Changed n t k es ds → Type 0
unfolding opens next
States touched a b end = Unit {0}
States {n} touched a b (same {e = e} w) =
    let going = opens n touched e in
    (going ≡ false → next a e ≡ next b e) × States going (next a e) (next b e) w
States {n} touched a b (other {e = e} {d = d} short quiet w) =
    let going = opens n true e in
    (going ≡ false → next a e ≡ next b d) × States going (next a e) (next b d) w
