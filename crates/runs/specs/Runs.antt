-- Document 01's "Runs", once over the threshold t and over any kind of state. Definitions only.
use Rattle.std.specs.Prelude.{Bool, ◌&&◌, not, cond, ℕ, ◌+◌, leb, ltb, Float}
use Rattle.std.specs.Float.{binary32}
use Rattle.std.specs.Float.Ieee.{of_bits, le}
use Rattle.runs.specs.declared.Turn.{Turn}

-- "speech from probability 0.95": the f32 nearest to it
abbrev pub speech : Float → Bool
speech probability = le (of_bits binary32 0x3f73_3333) probability

-- "The run count is held at T": one more, up to there
unfoldable pub longer : ℕ → ℕ → ℕ
longer t count = cond (ltb count t) (count + 1) count

-- "from the T-th frame on, results are published": of the run with this frame in it
abbrev pub publishes : ℕ → ℕ → Bool
publishes t count = leb t count

-- "A non-speech frame keeps a run of T or more"; "with T = 1 it does neither"
abbrev pub keeps : ℕ → ℕ → Bool
keeps t count = ltb 1 t && leb t count

-- "and throws away a shorter one"; where no run is open there is none to throw away
abbrev pub throws : ℕ → ℕ → Bool
throws t count = ltb 1 t && ltb 0 count && ltb count t

-- the preliminary and the reliable state, and how many adjacent speech frames there are
pub record Run (S : Type 0) : Type 0 where
  pub preliminary : S
  pub reliable : S
  pub count : ℕ

-- "In a speech frame [the] preliminary [state] advance[s]"
unfoldable pub advanced : {S : Type 0} → (S → S) → ℕ → Run S → Run S
unfolding longer
advanced advance t r = record { preliminary = advance r.preliminary; reliable = r.reliable; count = longer t r.count }

-- "A non-speech frame keeps a run of T or more, and throws away a shorter one"; no run is open after it
unfoldable pub closed : {S : Type 0} → ℕ → Run S → Run S
closed t r =
    record {
      preliminary = cond (throws t r.count) r.reliable r.preliminary;
      reliable = cond (keeps t r.count) r.preliminary r.reliable;
      count = 0;
    }

-- a frame, by whether it is speech
unfoldable pub framed : {S : Type 0} → Bool → (S → S) → ℕ → Run S → Run S
unfolding advanced closed
framed speech advance t r = cond speech (advanced advance t r) (closed t r)

-- whether the results of a frame are published, of the run before it
unfoldable pub published : Bool → ℕ → ℕ → Bool
unfolding longer
published speech t count = speech && publishes t (longer t count)

-- what the code is told of a frame
unfoldable pub turned : Bool → ℕ → ℕ → Turn
unfolding longer published
turned speech t count =
    record {
      count = cond speech (longer t count) 0;
      keep = not speech && keeps t count;
      throw = not speech && throws t count;
      publish = published speech t count;
    }
