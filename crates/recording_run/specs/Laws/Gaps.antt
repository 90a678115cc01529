-- A gap takes no sound of a recording: not before a frame, and not behind the last one. Laws.
-- Assumes nothing.
use Rattle.std.specs.Prelude.{◌≡◌, ℕ, true, false, List, None, ◌==◌}
use Rattle.std.proofs.Math.Path.{refl}
use Rattle.std.proofs.Common.{sym, ◌∙◌}
use Rattle.std.proofs.lemmas.Bool.{false≢true}
use Rattle.units.specs.Replies.{done}
use Rattle.units.specs.declared.figures.Figures.{Figures}
use Rattle.chain.specs.Chain.{passes}
use Rattle.chain.specs.Calls.{interrupted, gap}
use Rattle.chain.specs.Laws.Frames.{either}
use Rattle.chain.specs.Laws.Gaps.{gap_taken}
use Rattle.strip_reader.specs.declared.Got.{Got}
use Rattle.strip_reader.specs.declared.Got.TheVariants as Came
use Rattle.recording_frame.specs.Levelling.{levelled}
use Rattle.recording_run.specs.Levelling.{framed, after_gap, gapped, entered}
use Rattle.recording_run.specs.Rest.{rested}
use Rattle.recording_run.specs.declared.levelling.Run.{Run}
use Rattle.recording_run.specs.declared.levelling.Turn.{Turn}

-- ---- before a frame, of which so many bytes were heard
module _ (run : Run) (n : ℕ) (bytes : List ℕ) (channels samples : ℕ) where
  -- A gap writes no byte of it,
  pub gap_writes_nothing : (entered Came.Gap run n bytes channels samples).turn.n ≡ 0
  unfolding entered gapped
  gap_writes_nothing = either (λ (t : Turn). t.n ≡ 0) ((gap run.chain).reply == done) refl refl

  -- leaves the bytes as they are,
  pub gap_bytes : (entered Came.Gap run n bytes channels samples).bytes ≡ bytes
  unfolding entered
  gap_bytes = refl

  -- as many are still to come,
  pub gap_left : (entered Came.Gap run n bytes channels samples).turn.run.left ≡ run.left
  unfolding entered gapped
  gap_left = either (λ (t : Turn). t.run.left ≡ run.left) ((gap run.chain).reply == done) refl refl

  -- and as many frames are levelled.
  pub gap_frames : (entered Came.Gap run n bytes channels samples).turn.run.frames ≡ run.frames
  unfolding entered gapped
  gap_frames = either (λ (t : Turn). t.run.frames ≡ run.frames) ((gap run.chain).reply == done) refl refl

  -- A chain that passes takes it: it has the next number, and the frame waits for its figures.
  pub gap_waits : passes run.chain ≡ true
      → (entered Came.Gap run n bytes channels samples).turn ≡ record { run = after_gap run (interrupted run.chain); told = None; n = 0; again = true }
  unfolding entered gapped
  gap_waits h = rw (gap_taken run.chain h)

  framed_waits_not : (figures : Figures) → (framed run n figures bytes channels samples).turn.again ≡ false
  unfolding framed
  framed_waits_not figures = either (λ (t : Turn). t.again ≡ false) ((levelled run.chain figures bytes channels samples).next.reply == done) refl refl

  -- A frame waits after a gap, and after nothing else.
  pub waits_for_gap : (got : Got) → (entered got run n bytes channels samples).turn.again ≡ true → got ≡ Came.Gap
  unfolding entered
  waits_for_gap Came.More e = absurd (false≢true e)
  waits_for_gap (Came.Head head) e = absurd (false≢true e)
  waits_for_gap (Came.Record figures) e = absurd (false≢true (sym (framed_waits_not figures) ∙ e))
  waits_for_gap Came.Gap e = refl
  waits_for_gap Came.End e = absurd (false≢true e)
  waits_for_gap (Came.Refused reply) e = absurd (false≢true e)

-- ---- behind the last frame
-- But for its chain and its number a run is as it was.
pub record Kept (before after : Run) : Type 0 where
  pub frames : after.frames ≡ before.frames
  pub left : after.left ≡ before.left
  pub more : after.more ≡ before.more
  pub well : after.well ≡ before.well
  pub refused : after.refused ≡ before.refused

module _ (run : Run) where
  same : Kept run run
  same = record { frames = refl; left = refl; more = refl; well = refl; refused = refl }

  -- Whatever comes out of the strip, the run keeps what it says of the sound,
  pub rest_kept : (got : Got) → Kept run (rested got run).run
  unfolding rested
  rest_kept Came.More = same
  rest_kept (Came.Head head) = same
  rest_kept (Came.Record figures) = same
  rest_kept Came.Gap = record { frames = refl; left = refl; more = refl; well = refl; refused = refl }
  rest_kept Came.End = same
  rest_kept (Came.Refused reply) = same

  -- and more is drawn after a gap, and after nothing else.
  pub rest_for_gap : (got : Got) → (rested got run).again ≡ true → got ≡ Came.Gap
  unfolding rested
  rest_for_gap Came.More e = absurd (false≢true e)
  rest_for_gap (Came.Head head) e = absurd (false≢true e)
  rest_for_gap (Came.Record figures) e = absurd (false≢true e)
  rest_for_gap Came.Gap e = refl
  rest_for_gap Came.End e = absurd (false≢true e)
  rest_for_gap (Came.Refused reply) e = absurd (false≢true e)
