-- From steps to calls, refused ones included: two histories that differ only in short closed runs hand out the same, event by event, and lead to the same
-- chains wherever no changed run is open. Laws.
-- Assumes nothing.
use Rattle.std.specs.Prelude.{◌≡◌, Bool, ◌&&◌, cond, List, [], ◌∷◌, ℕ, ◌+◌, ◌<◌, eqb, length}
use Rattle.std.proofs.Math.Path.{refl, ap}
use Rattle.std.proofs.Common.{sym, ◌∙◌, ltb-true}
use Rattle.std.proofs.Math.Bool.{true, false}
use Rattle.std.proofs.lemmas.Bool.{false≢true}
use Rattle.lists.specs.Each.{Each}
use Rattle.lists.specs.Tests.{each_of, ◌and◌}
use Rattle.frames.specs.Shape.{is_shape}
use Rattle.units.specs.Figures.{accepted}
use Rattle.chain.specs.Chain.{published}
use Rattle.chain.specs.declared.Chain.{Chain}
use Rattle.histories.specs.Histories.{Event, is_speech, takes, only_taken, next, Out, out, outputs}
use Rattle.histories.specs.Held.{HeldEvent, ReadyAt}
use Rattle.histories.specs.Changes.{ahead, ends, grown, in_short, Silenced, silenced, Changed, end, same, other, opens, States}
use Rattle.histories.specs.Laws.Steps.{step_of}
use Rattle.histories.specs.Laws.Ground.{run_after_lem}
use Rattle.histories.specs.Laws.NoTrace.{Close, Alike, same_step, other_step}
use Rattle.histories.specs.Laws.Calls.{next_is, out_is, next_refused, out_refused, out_figures, next_ready}

-- A frame that was silenced is taken as the frame was.
silenced_taken : (n : ℕ) {e d : Event} → takes n e ≡ true → Silenced e d → takes n d ≡ true
unfolding takes
silenced_taken n h (silenced {f = f} {g = g} {s = s} q) =
    let p = each_of (is_shape s.channels s.samples (length s.buffer) ∷ eqb s.samples n ∷ accepted f ∷ _ ∷ []) h in
    (p 0 and p 1 and q.taken and p 3)

-- Where no changed run is open, two chains that are close are the same.
closed_same : (t k : ℕ) (o : Bool) (es : List Event) (a b : Chain) → Close t k o es a b → o ≡ false → a ≡ b
closed_same t k false es a b c shut = c.0
closed_same t k true es a b c shut = absurd (false≢true (sym shut))

first_and_rest : {x y : Out} {xs ys : List Out} → x ≡ y → xs ≡ ys → x ∷ xs ≡ y ∷ ys
first_and_rest p q = rw (p, q)

module _ (n t : ℕ) (two : 1 < t) where
  -- what an event each leaves of two chains: the same came out, and they are close
  abbrev Leaves : ℕ → Bool → Event → Event → List Event → Chain → Chain → Type 0
  Leaves k o e d es a b = (out a e ≡ out b d) × Close t k o (only_taken n es) (next a e) (next b d)

  module _ (k : ℕ) (o : Bool) (e : Event) (es : List Event) (a b : Chain) (r : ReadyAt n a) (q : ReadyAt n b) (close : Close t k o (only_taken n (e ∷ es)) a b) where
    -- the calls of two events that are taken are their steps
    called : (j : ℕ) (p : Bool) (d : Event) → takes n e ≡ true → takes n d ≡ true → Alike t j p (only_taken n es) (step_of a e) (step_of b d) → Leaves j p e d es a b
    called j p d h g x = (out_is n a r e h ∙ x.0 ∙ sym (out_is n b q d g), rw (next_is n a r e h, next_is n b q d g) x.1)

    -- the same event to both
    same_call : published a ≡ published b → Leaves (grown n k e) (opens n o e) e e es a b
    unfolding only_taken grown opens
    same_call shown = go (takes n e) refl close
      where
        go : (x : Bool) → takes n e ≡ x → Close t k o (cond x (e ∷ only_taken n es) (only_taken n es)) a b → Leaves (cond x (run_after_lem (is_speech e) k) k) (cond x (o && is_speech e) o) e e es a b
        go true h c = called (run_after_lem (is_speech e) k) (o && is_speech e) e h h (same_step t two k o e (only_taken n es) a b c)
        go false h c = (out_refused n a b e r q h shown, rw (next_refused n a r e h, next_refused n b q e h) c)

    -- a frame of a short closed run to the one, and the same silenced to the other
    other_call : (d : Event) → in_short n t k e es ≡ true → Silenced e d → Leaves (grown n k e) (opens n true e) e d es a b
    unfolding only_taken grown opens in_short
    other_call d short quiet =
        let p = each_of (takes n e ∷ is_speech e ∷ ends (only_taken n es) ∷ _ ∷ []) short in
        let c : Close t k o (e ∷ only_taken n es) a b = rw (p 0) at close in
        let left = called (k + 1) true d (p 0) (silenced_taken n (p 0) quiet)
        (other_step t two k o e d (only_taken n es) a b (p 1) (ltb-true (k + 1 + ahead (only_taken n es)) t (p 3)) (p 2) quiet c) in
        rw (p 0, p 1) left

  -- From chains that are close, the two histories hand out the same, and lead to the same chain wherever no changed run is open.
  pub no_difference : {k : ℕ} {es ds : List Event} (w : Changed n t k es ds) (o : Bool) (a b : Chain) → Close t k o (only_taken n es) a b → published a ≡ published b
      → ReadyAt n a → ReadyAt n b → Each HeldEvent es → Each HeldEvent ds → (outputs a es ≡ outputs b ds) × States o a b w
  unfolding outputs States Each
  no_difference end o a b c shown r q h g = (refl, tt)
  no_difference {k} (same {e = e} {es = es} {ds = ds} w) o a b c shown r q h g =
      let now = same_call k o e es a b r q c shown in
      let rest = no_difference w (opens n o e) (next a e) (next b e) now.1 (sym (out_figures a e) ∙ ap (λ (x : Out). x.figures) now.0 ∙ out_figures b e)
      (next_ready n a r e h.0) (next_ready n b q e g.0) h.1 g.1 in
      (first_and_rest now.0 rest.0, (closed_same t (grown n k e) (opens n o e) (only_taken n es) (next a e) (next b e) now.1, rest.1))
  no_difference {k} (other {e = e} {d = d} {es = es} {ds = ds} short quiet w) o a b c shown r q h g =
      let now = other_call k o e es a b r q c d short quiet in
      let rest = no_difference w (opens n true e) (next a e) (next b d) now.1 (sym (out_figures a e) ∙ ap (λ (x : Out). x.figures) now.0 ∙ out_figures b d)
      (next_ready n a r e h.0) (next_ready n b q d g.0) h.1 g.1 in
      (first_and_rest now.0 rest.0, (closed_same t (grown n k e) (opens n true e) (only_taken n es) (next a e) (next b d) now.1, rest.1))
