-- Two runs that differ only in a run shorter than the threshold: they publish nothing while it is open, and are the same once it is closed. Laws;
-- `Apart` is what is kept meanwhile.
-- Assumes nothing.
use Rattle.std.specs.Prelude.{◌≡◌, Bool, false, ℕ, ◌+◌, ◌<◌, ltb}
use Rattle.std.proofs.Math.Path.{refl}
use Rattle.std.proofs.Common.{sym, ap, ◌∙◌, arith, ltb-true, ltb-false}
use Rattle.std.proofs.Math.Bool.{true}
use Rattle.std.proofs.lemmas.Bool.{lt-leb}
use Rattle.runs.specs.Runs.{Run, advanced, closed, framed, published}
use Rattle.runs.specs.Histories.{Settled}
use Rattle.runs.specs.Laws.Counts.{longer_below}
use Rattle.runs.proofs.Short.{thrown, idle, framed_settled}

module _ {S : Type 0} (t : ℕ) where
  -- both have the same reliable state, and no run that has reached the threshold
  pub record Apart (r s : Run S) : Type 0 where
    pub same : r.reliable ≡ s.reliable
    pub first : r.count < t
    pub second : s.count < t
    pub first_settled : Settled r
    pub second_settled : Settled s

  -- A settled run that has not reached the threshold is apart from itself.
  pub apart_itself : (r : Run S) → Settled r → r.count < t → Apart r r
  apart_itself r s h = record { same = refl; first = h; second = h; first_settled = s; second_settled = s }

  -- A closed run that was below the threshold leaves the reliable state twice, and no run.
  pub closed_short : (r : Run S) → 1 < t → Settled r → r.count < t → closed t r ≡ record { preliminary = r.reliable; reliable = r.reliable; count = 0 }
  closed_short r two s h = go (ltb 0 r.count) refl
    where
      go : (b : Bool) → ltb 0 r.count ≡ b → closed t r ≡ record { preliminary = r.reliable; reliable = r.reliable; count = 0 }
      go true e = thrown t r two (ltb-true 0 r.count e) h
      go false e =
          let none : r.count ≡ 0 = omega (arith, ltb-false 0 r.count e) in
          idle t r two none ∙ rw (s.same none) refl

  -- Once both are closed, they are the same.
  pub apart_closed : (r s : Run S) → 1 < t → Apart r s → closed t r ≡ closed t s
  apart_closed r s two a =
      closed_short r two a.first_settled a.first ∙ rw a.same (sym (closed_short s two a.second_settled a.second))

  -- what a frame leaves of a run below the threshold: the reliable state, and a run that is still below it
  pub record Stays (r next : Run S) : Type 0 where
    pub reliable : next.reliable ≡ r.reliable
    pub count : next.count < t
    pub settled : Settled next

  -- Any frame leaves it so, a speech frame where the threshold is not reached by it.
  pub stays : (speech : Bool) (advance : S → S) (r : Run S) → 1 < t → Settled r → r.count < t → (speech ≡ true → r.count + 1 < t)
      → Stays r (framed speech advance t r)
  unfolding framed advanced
  stays true advance r two s h more =
      record { reliable = same; count = rw count (more refl); settled = framed_settled t true advance r two s }
    where
      same : (framed true advance t r).reliable ≡ r.reliable
      same = refl

      count : (framed true advance t r).count ≡ r.count + 1
      count = longer_below t r.count h
  stays false advance r two s h more =
      record { reliable = ap (λ (x : Run S). x.reliable) shut; count = omega (arith, two, ap (λ (x : Run S). x.count) shut); settled = framed_settled t false advance r two s }
    where
      shut : framed false advance t r ≡ record { preliminary = r.reliable; reliable = r.reliable; count = 0 }
      shut = closed_short r two s h

  -- Whatever frame each meets, they stay apart.
  pub apart_stays : (b c : Bool) (f g : S → S) (r s : Run S) → 1 < t → Apart r s → (b ≡ true → r.count + 1 < t) → (c ≡ true → s.count + 1 < t)
      → Apart (framed b f t r) (framed c g t s)
  apart_stays b c f g r s two a more other =
      let x = stays b f r two a.first_settled a.first more in
      let y = stays c g s two a.second_settled a.second other in
      record {
        same = x.reliable ∙ a.same ∙ sym y.reliable;
        first = x.count;
        second = y.count;
        first_settled = x.settled;
        second_settled = y.settled;
      }

-- Below the threshold nothing is published.
pub nothing_published_lem : (t : ℕ) (speech : Bool) (count : ℕ) → count < t → (speech ≡ true → count + 1 < t) → published speech t count ≡ false
unfolding published
nothing_published_lem t true count h more = rw (longer_below t count h) (lt-leb t (count + 1) (more refl))
nothing_published_lem t false count h more = refl
