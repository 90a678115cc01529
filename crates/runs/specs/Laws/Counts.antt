-- The count that is held at the threshold decides as one that is not held would. What the code is told is what the rule says. Laws.
-- Assumes nothing.
use Rattle.std.specs.Prelude.{◌≡◌, refl, Bool, true, false, ◌&&◌, cond, ℕ, ◌+◌, ◌≤◌, ◌<◌, ltb}
use Rattle.std.proofs.Common.{arith, ltb-true, ltb-false, lt-ltb, le-ltb, le-leb}
use Rattle.runs.specs.Runs.{longer, publishes, keeps, throws, Run, advanced, closed, framed, turned}

-- While the threshold is not reached, a run grows by one.
pub longer_below : (t count : ℕ) → count < t → longer t count ≡ count + 1
unfolding longer
longer_below t count h = rw (lt-ltb count t h) refl

-- At the threshold it is held.
pub longer_at : (t count : ℕ) → t ≤ count → longer t count ≡ count
unfolding longer
longer_at t count h = rw (le-ltb count t h) refl

-- It never passes the threshold.
pub longer_most : (t count : ℕ) → count ≤ t → longer t count ≤ t
unfolding longer
longer_most t count h = go (ltb count t) refl
  where
    go : (b : Bool) → ltb count t ≡ b → cond b (count + 1) count ≤ t
    go true e = omega (arith, ltb-true count t e)
    go false e = h

-- a count of n adjacent speech frames, held at the threshold
unfoldable pub held : ℕ → ℕ → ℕ
held t n = cond (ltb n t) n t

pub held_below : (t n : ℕ) → n < t → held t n ≡ n
unfolding held
held_below t n h = rw (lt-ltb n t h) refl

pub held_at : (t n : ℕ) → t ≤ n → held t n ≡ t
unfolding held
held_at t n h = rw (le-ltb n t h) refl

-- A held count of n frames, made longer, is a held count of one more.
pub held_longer : (t n : ℕ) → longer t (held t n) ≡ held t (n + 1)
held_longer t n = go (ltb n t) refl
  where
    last : (b : Bool) → ltb (n + 1) t ≡ b → n < t → n + 1 ≡ held t (n + 1)
    last true e h = rw (held_below t (n + 1) (ltb-true (n + 1) t e)) refl
    last false e h = rw (held_at t (n + 1) (ltb-false (n + 1) t e)) (omega (arith, ltb-false (n + 1) t e))

    go : (b : Bool) → ltb n t ≡ b → longer t (held t n) ≡ held t (n + 1)
    go true e = let h = ltb-true n t e in rw (held_below t n h, longer_below t n h) (last (ltb (n + 1) t) refl h)
    go false e =
        let h = ltb-false n t e in
        rw (held_at t n h, longer_at t t (omega arith), held_at t (n + 1) (omega arith)) refl

-- So it publishes, keeps and throws away exactly where a count that is not held does: the difference from the Rust shows nowhere.
pub held_publishes : (t n : ℕ) → publishes t (held t n) ≡ publishes t n
held_publishes t n = go (ltb n t) refl
  where
    go : (b : Bool) → ltb n t ≡ b → publishes t (held t n) ≡ publishes t n
    go true e = rw (held_below t n (ltb-true n t e)) refl
    go false e = let h = ltb-false n t e in rw (held_at t n h, le-leb t t (omega arith), le-leb t n h) refl

pub held_keeps : (t n : ℕ) → keeps t (held t n) ≡ keeps t n
held_keeps t n = rw (held_publishes t n) refl

pub held_throws : (t n : ℕ) → throws t (held t n) ≡ throws t n
held_throws t n = go (ltb n t) refl
  where
    never : (a b : Bool) → a && b && false ≡ false
    never true true = refl
    never true false = refl
    never false b = refl

    go : (b : Bool) → ltb n t ≡ b → throws t (held t n) ≡ throws t n
    go true e = rw (held_below t n (ltb-true n t e)) refl
    go false e =
        let h = ltb-false n t e in
        rw (held_at t n h, le-ltb t t (omega arith), le-ltb n t h, never (ltb 1 t) (ltb 0 t), never (ltb 1 t) (ltb 0 n)) refl

-- The two states after a frame, by what the code is told of it.
pub turned_framed : {S : Type 0} (speech : Bool) (advance : S → S) (t : ℕ) (r : Run S)
    → framed speech advance t r
    ≡ record {
      preliminary = cond speech (advance r.preliminary) (cond (turned speech t r.count).throw r.reliable r.preliminary);
      reliable = cond (turned speech t r.count).keep r.preliminary r.reliable;
      count = (turned speech t r.count).count;
    }
unfolding framed advanced closed turned
turned_framed true advance t r = refl
turned_framed false advance t r = refl

-- The count after a frame.
pub framed_count : {S : Type 0} (speech : Bool) (advance : S → S) (t : ℕ) (r : Run S) → (framed speech advance t r).count ≡ cond speech (longer t r.count) 0
unfolding framed advanced closed
framed_count true advance t r = refl
framed_count false advance t r = refl
