-- A history of accepted events and the same with frames of short closed runs changed, one event after the other: the same comes out, and the chains are
-- the same wherever no changed run is open. Laws over the steps; `Close` is what is kept from event to event.
-- Assumes nothing.
use Rattle.std.specs.Prelude.{◌≡◌, Bool, true, false, ◌&&◌, List, ◌∷◌, ℕ, suc, ◌+◌, ◌<◌}
use Rattle.std.proofs.Math.Path.{refl}
use Rattle.std.proofs.Common.{sym, ap, subst, ◌∙◌, arith}
use Rattle.std.proofs.lemmas.Bool.{false≢true}
use Rattle.chain.specs.declared.Chain.{Chain}
use Rattle.units.specs.declared.figures.Figures.{Figures}
use Rattle.histories.specs.Histories.{Sound, Event, frame, gap, is_speech}
use Rattle.histories.specs.Changes.{ahead, ends, Silenced, silenced}
use Rattle.histories.specs.Laws.Steps.{Step, step_of, Beside, step_stays, step_same, step_closes}
use Rattle.histories.specs.Laws.Ground.{Good, run_after_lem, step_good, closed_good, good_beside, beside_ground}

-- how two chains stand to each other before events, by whether a changed run is open: they are the same; or they are beside each other, and the run will
-- be closed below the threshold
abbrev pub Close : ℕ → ℕ → Bool → List Event → Chain → Chain → Type 0
Close t k false es a b = (a ≡ b) × Good t k a
Close t k true es a b = Beside t k a b × ((k + ahead es < t) × (ends es ≡ true))

-- what two steps leave before further events: the same came out, and the chains are close
abbrev pub Alike : ℕ → ℕ → Bool → List Event → Step → Step → Type 0
Alike t k o es x y = (x.out ≡ y.out) × Close t k o es x.chain y.chain

-- the events behind a speech frame
pub ahead_speech : (e : Event) (es : List Event) → is_speech e ≡ true → ahead (e ∷ es) ≡ suc (ahead es)
unfolding ahead
ahead_speech e es h = rw h refl

pub ends_speech : (e : Event) (es : List Event) → is_speech e ≡ true → ends (e ∷ es) ≡ ends es
unfolding ends
ends_speech e es h = rw h refl

module _ (t : ℕ) (two : 1 < t) where
  -- one more frame of a run that will be closed below the threshold: the second chain may get other figures
  runs_on : (k : ℕ) (f g : Figures) (s : Sound) (es : List Event) (a b : Chain) → Beside t k a b → is_speech (frame f s) ≡ true → k + 1 + ahead es < t → ends es ≡ true
      → f.noise ≡ g.noise → f.envelope ≡ g.envelope → Alike t (k + 1) true es (step_of a (frame f s)) (step_of b (frame g s))
  unfolding is_speech
  runs_on k f g s es a b n spoken few closed noise envelope =
      let below : k + 1 < t = omega (arith, few) in
      (step_same t k a b two n f g noise envelope s spoken below, (step_stays t k a b two n f g noise envelope s spoken below, (few, closed)))

  -- the same speech frame to two chains beside each other
  joins : (k : ℕ) (e : Event) (es : List Event) (a b : Chain) → Beside t k a b → is_speech e ≡ true → k + 1 + ahead es < t → ends es ≡ true → Alike t (k + 1) true es (step_of a e) (step_of b e)
  unfolding is_speech
  joins k (frame f s) es a b n spoken few closed = runs_on k f f s es a b n spoken few closed refl refl
  joins k gap es a b n spoken few closed = absurd (false≢true spoken)

  -- The same event to both chains.
  pub same_step : (k : ℕ) (o : Bool) (e : Event) (es : List Event) (a b : Chain) → Close t k o (e ∷ es) a b
      → Alike t (run_after_lem (is_speech e) k) (o && is_speech e) es (step_of a e) (step_of b e)
  same_step k false e es a b h =
      subst (λ (z : Chain). Alike t (run_after_lem (is_speech e) k) false es (step_of a e) (step_of z e)) h.0 (refl, (refl, step_good t k a two h.1 e))
  same_step k true e es a b h = go (is_speech e) refl
    where
      go : (x : Bool) → is_speech e ≡ x → Alike t (run_after_lem x k) x es (step_of a e) (step_of b e)
      go true spoken = joins k e es a b h.0 spoken (omega (arith, ahead_speech e es spoken, h.1.0)) (sym (ends_speech e es spoken) ∙ h.1.1)
      go false silent =
          let same = step_closes t k a b two h.0 e silent in
          (ap (λ (x : Step). x.out) same, (ap (λ (x : Step). x.chain) same, closed_good t a two (beside_ground t k a b h.0) e silent))

  -- A speech frame of a run that will be closed below the threshold to the one, and the same silenced to the other.
  pub other_step : (k : ℕ) (o : Bool) (e d : Event) (es : List Event) (a b : Chain) → is_speech e ≡ true → k + 1 + ahead es < t → ends es ≡ true → Silenced e d → Close t k o (e ∷ es) a b
      → Alike t (k + 1) true es (step_of a e) (step_of b d)
  other_step k o e d es a b spoken few closed (silenced {f = f} {g = g} {s = s} q) h = runs_on k f g s es a b (near o h) spoken few closed (sym q.noise) (sym q.envelope)
    where
      near : (x : Bool) → Close t k x (frame f s ∷ es) a b → Beside t k a b
      near false c = subst (Beside t k a) c.0 (good_beside t k a (omega (arith, few)) c.1)
      near true c = c.0
