-- What the states along two histories say of their end: every changed run is closed by then, so the chains are the same. Laws.
-- Assumes nothing.
use Rattle.std.specs.Prelude.{◌≡◌, Bool, ◌&&◌, List, [], ◌∷◌, ℕ}
use Rattle.std.proofs.Math.Path.{refl, sym}
use Rattle.std.proofs.Common.{◌∙◌}
use Rattle.std.proofs.Math.Bool.{true, false, cond}
use Rattle.std.proofs.lemmas.Bool.{false≢true}
use Rattle.lists.specs.Tests.{each_of}
use Rattle.chain.specs.declared.Chain.{Chain}
use Rattle.histories.specs.Histories.{Event, is_speech, takes, only_taken, next, after}
use Rattle.histories.specs.Changes.{ends, in_short, Changed, end, same, other, opens, States}
use Rattle.histories.specs.Laws.NoTrace.{ends_speech}

module _ (n : ℕ) where
  -- A changed run that is open before an event, and will be closed, will be closed if it is still open after the event.
  still_closes : (o : Bool) (e : Event) (es : List Event) → (o ≡ true → ends (only_taken n (e ∷ es)) ≡ true) → opens n o e ≡ true → ends (only_taken n es) ≡ true
  unfolding opens only_taken
  still_closes o e es will = go (takes n e) will
    where
      go : (b : Bool) → (o ≡ true → ends (cond b (e ∷ only_taken n es) (only_taken n es)) ≡ true) → cond b (o && is_speech e) o ≡ true → ends (only_taken n es) ≡ true
      go true h k = let p = each_of (o ∷ is_speech e ∷ []) k in sym (ends_speech e (only_taken n es) (p 1)) ∙ h (p 0)
      go false h k = h k

  nothing_ends : false ≡ ends (only_taken n [])
  unfolding ends only_taken
  nothing_ends = refl

  short_ends : (t k : ℕ) (e : Event) (es : List Event) → in_short n t k e es ≡ true → ends (only_taken n es) ≡ true
  unfolding in_short
  short_ends t k e es h = each_of (takes n e ∷ is_speech e ∷ ends (only_taken n es) ∷ _ ∷ []) h 2

  -- So where the chains are the same whenever no changed run is open, they are the same at the end.
  pub same_at_end : {t k : ℕ} {es ds : List Event} (w : Changed n t k es ds) (o : Bool) (a b : Chain) → (o ≡ false → a ≡ b) → (o ≡ true → ends (only_taken n es) ≡ true)
      → States o a b w → after a es ≡ after b ds
  unfolding States after
  same_at_end end o a b shut will s = by_open o shut will
    where
      by_open : (p : Bool) → (p ≡ false → a ≡ b) → (p ≡ true → ends (only_taken n []) ≡ true) → a ≡ b
      by_open false h k = h refl
      by_open true h k = absurd (false≢true (nothing_ends ∙ k refl))
  same_at_end (same {e = e} {es = es} w) o a b shut will s =
      same_at_end w (opens n o e) (next a e) (next b e) s.0 (still_closes o e es will) s.1
  same_at_end {t} (other {k = k} {e = e} {d = d} {es = es} short quiet w) o a b shut will s =
      same_at_end w (opens n true e) (next a e) (next b d) s.0 (λ (h : opens n true e ≡ true). short_ends t k e es short) s.1
