-- What becomes of the bytes of a frame. Definitions only.
use Rattle.std.specs.Prelude.{Bool, cond, ◌&&◌, List, ℕ, ◌*◌, eqb, length}
use Rattle.units.specs.Replies.{done, bad_shape}
use Rattle.units.specs.declared.figures.Figures.{Figures}
use Rattle.frames.specs.Shape.{is_shape}
use Rattle.chain.specs.Calls.{called}
use Rattle.chain.specs.declared.Chain.{Chain}
use Rattle.wav_format.specs.Samples.{heard_from, frame_written}

-- a reply's number, and the chain that goes on: the one that came in, where the frame is refused
pub record Levelled : Type 0 where
  pub reply : ℕ
  pub chain : Chain

-- what is answered, and the bytes
pub record Outcome : Type 0 where
  pub next : Levelled
  pub bytes : List ℕ

-- two bytes for each sample of a frame of this shape
unfoldable pub is_frame : List ℕ → ℕ → ℕ → Bool
unfolding is_shape
is_frame bytes channels samples =
    is_shape channels samples (channels * samples) && eqb (length bytes) (2 * (channels * samples))

-- a call that is refused: the chain and the bytes stay as they were
abbrev pub kept : Chain → List ℕ → ℕ → Outcome
kept chain bytes reply = record { next = record { reply = reply; chain = chain }; bytes = bytes }

-- read, levelled, written: the first that refuses says with what
unfoldable pub levelled : Chain → Figures → List ℕ → ℕ → ℕ → Outcome
unfolding is_frame heard_from called frame_written
levelled chain figures bytes channels samples =
    let step = called chain figures (heard_from bytes channels samples 0 (channels * samples)) channels samples in
    let written = frame_written step.frame channels samples bytes in
    cond (is_frame bytes channels samples)
    (cond (eqb step.told.reply done)
    (record { next = record { reply = written.reply; chain = step.told.chain }; bytes = written.out })
    (kept chain bytes step.told.reply))
    (kept chain bytes bad_shape)
