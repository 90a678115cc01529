-- From a new chain on, the estimator is confident as its own state says, and closing a run does not change that. Laws.
-- Assumes nothing.
use Rattle.std.specs.Prelude.{◌≡◌, Bool, ◌&&◌, ◌||◌, cond, List, [], ◌∷◌, ℕ, ◌≤◌, ◌<◌, eqb, Float}
use Rattle.std.proofs.Math.Path.{refl}
use Rattle.std.proofs.Common.{sym, ◌∙◌}
use Rattle.std.proofs.Math.Bool.{true, false}
use native.Mathlib.Omega.{arith}
use Rattle.std.proofs.Math.Dec.{leb, ltb}
use borrow.Author.Tests.{leb-true, ltb-true, ltb-false, eqb-true, lt-ltb, lt-leb, le-leb, ne_eqb, eq-eqb}
use Rattle.lists.specs.Each.{Each}
use Rattle.runs.specs.Runs.{Run, speech, advanced, closed, framed}
use Rattle.units.specs.declared.settings.Settings.{Settings}
use Rattle.speech_level_estimator.specs.Average as Average
use Rattle.speech_level_estimator.specs.Estimator as Level
use Rattle.speech_level_estimator.specs.declared.Average.{Average as State}
use Rattle.speech_level_estimator.specs.declared.Estimator.{Estimator}
use Rattle.speech_level_estimator.specs.Laws.Gaps.{interrupted_is_quiet}
use Rattle.chain.specs.Calls.{stepped, interrupted}
use Rattle.chain.specs.declared.Chain.{Chain}
use Rattle.histories.specs.Histories.{Event, frame, gap, takes, next, after}
use Rattle.histories.specs.Held.{HeldEvent, ReadyAt}
use Rattle.histories.specs.Laws.Parts.{nought, nought_silent, trusted_below}
use Rattle.histories.specs.Laws.Steps.{step_of}
use Rattle.histories.specs.Laws.Calls.{next_is, next_refused, next_ready}

-- an estimator that is confident as its own state says, and has no more time left in the preliminary state than in the reliable one
pub record Sure (e : Estimator) : Type 0 where
  pub says : e.confident ≡ Level.trusted e.threshold e.count e.preliminary.left e.reliable.left
  pub less : e.preliminary.left ≤ e.reliable.left

-- ---- closing a run
-- where no time is left of y, none is left of x
less_left : (b d : Bool) (x y : ℕ) → eqb x 0 ≡ b → eqb y 0 ≡ d → x ≤ y → b || false ≡ d || b
less_left true true x y p q h = refl
less_left true false x y p q h = refl
less_left false false x y p q h = refl
less_left false true x y p q h = sym p ∙ eq-eqb x 0 (omega (arith, eqb-true y 0 q))

module _ (t : ℕ) (r : Run State) (less : r.preliminary.left ≤ r.reliable.left) where
  -- it leaves both states alike, or as they were
  closed_less : (closed t r).preliminary.left ≤ (closed t r).reliable.left
  unfolding closed
  closed_less = go (ltb 1 t) (ltb 0 r.count) (ltb r.count t) refl (leb t r.count) refl
    where
      go : (two some below : Bool) → ltb r.count t ≡ below → (long : Bool) → leb t r.count ≡ long
          → (cond (two && some && below) r.reliable r.preliminary).left ≤ (cond (two && long) r.preliminary r.reliable).left
      go true true true p true q = absurd (omega (arith, ltb-true r.count t p, leb-true t r.count q))
      go true true true p false q = omega arith
      go true true false p true q = omega arith
      go true true false p false q = less
      go true false below p true q = omega arith
      go true false below p false q = less
      go false some below p long q = less

  -- what is trusted before it, and after it
  abbrev before : Bool
  before = Level.trusted t r.count r.preliminary.left r.reliable.left

  abbrev behind : Bool
  behind = Level.trusted t 0 (closed t r).preliminary.left (closed t r).reliable.left

  -- a run below the threshold, or none
  short_trusted : 1 < t → r.count < t → behind ≡ before
  unfolding closed
  short_trusted two h =
      trusted_below t 0 _ (closed t r).reliable.left two (omega (arith, two))
      ∙ rw (lt-ltb 1 t two, lt-leb t r.count h) (sym (trusted_below t r.count r.preliminary.left r.reliable.left two h))

  -- one that has reached it
  long_trusted : 1 < t → t ≤ r.count → behind ≡ before
  unfolding closed Level.trusted
  long_trusted two h =
      rw (ne_eqb t 1 (λ (e : t ≡ 1). omega (arith, two, e)), lt-ltb 1 t two, le-leb t r.count h, lt-leb t 0 (omega (arith, two)))
      (less_left (eqb r.preliminary.left 0) (eqb r.reliable.left 0) r.preliminary.left r.reliable.left refl refl less)

  -- with a threshold of 1 the preliminary state stays, and says it alone
  one_trusted : t ≡ 1 → behind ≡ before
  unfolding closed Level.trusted
  one_trusted e = rw e refl

  -- Closing a run does not change what is trusted.
  closed_trusted : 1 ≤ t → behind ≡ before
  closed_trusted some = go (ltb 1 t) refl (ltb r.count t) refl
    where
      go : (b : Bool) → ltb 1 t ≡ b → (d : Bool) → ltb r.count t ≡ d → behind ≡ before
      go true p true q = short_trusted (ltb-true 1 t p) (ltb-true r.count t q)
      go true p false q = long_trusted (ltb-true 1 t p) (ltb-false r.count t q)
      go false p d q = one_trusted (omega (arith, ltb-false 1 t p, some))

-- So an estimator that is confident as its own state says is as confident after a gap.
pub interrupted_confident : (e : Estimator) → 1 ≤ e.threshold → Sure e → (Level.interrupted e).confident ≡ e.confident
unfolding Level.interrupted closed
interrupted_confident e some h = closed_trusted e.threshold (Level.run e) h.less some ∙ sym h.says

-- ---- from a new chain on
-- A new estimator is so.
pub new_sure : (s : Settings) (t : ℕ) (initial : Float) → Sure (Level.fresh s t initial)
unfolding Level.fresh Average.starting Level.trusted
new_sure s t initial = record { says = go (eqb t 1) (leb t 0); less = omega arith }
  where
    go : (one none : Bool) → false ≡ cond one false (false || (none && false))
    go true none = refl
    go false true = refl
    go false false = refl

-- a frame takes time off the preliminary state, or closes the run
framed_less : (b : Bool) (rms p : Float) (t : ℕ) (r : Run State) → r.preliminary.left ≤ r.reliable.left
    → (framed b (Average.advanced rms p) t r).preliminary.left ≤ (framed b (Average.advanced rms p) t r).reliable.left
unfolding framed advanced Average.advanced
framed_less true rms p t r less = omega (arith, less)
framed_less false rms p t r less = closed_less t r less

updated_sure : (e : Estimator) (rms p : Float) → Sure e → Sure (Level.updated e rms p)
unfolding Level.updated
updated_sure e rms p h = record { says = refl; less = framed_less (speech p) rms p e.threshold (Level.run e) h.less }

step_sure : (c : Chain) (e : Event) → Sure c.estimator → Sure (step_of c e).chain.estimator
unfolding step_of stepped interrupted
step_sure c (frame f s) h = updated_sure c.estimator f.rms.0 f.probability h
step_sure c gap h = rw (interrupted_is_quiet c.estimator nought nought nought_silent) (updated_sure c.estimator nought nought h)

-- It stays so in every history of a chain that passes.
pub sure_after : (n : ℕ) (c : Chain) (es : List Event) → ReadyAt n c → Each HeldEvent es → Sure c.estimator → Sure (after c es).estimator
unfolding after Each
sure_after n c [] r held h = h
sure_after n c (e ∷ es) r held h = sure_after n (next c e) es (next_ready n c r e held.0) held.1 (go (takes n e) refl)
  where
    go : (b : Bool) → takes n e ≡ b → Sure (next c e).estimator
    go true taken = rw (next_is n c r e taken) (step_sure c e h)
    go false taken = rw (next_refused n c r e taken) h
