-- The three ways through a frame. Laws.
-- Assumes nothing.
use Rattle.std.specs.Prelude.{◌≡◌, refl, Bool, true, false, ◌&&◌, List, [], ◌∷◌, ℕ, ◌*◌, eqb, leb, length, Float}
use Rattle.std.proofs.Common.{sym, ◌∙◌, arith, ne_eqb}
use Rattle.std.proofs.Math.Path.{ap}
use Rattle.std.proofs.Math.Bool.{cond}
use Rattle.lists.specs.Tests.{each_of, ◌and◌}
use Rattle.units.specs.Replies.{done, bad_shape}
use Rattle.units.specs.declared.figures.Figures.{Figures}
use Rattle.frames.specs.Shape.{is_samples, is_shape}
use Rattle.chain.specs.Calls.{Called, called}
use Rattle.chain.specs.declared.Chain.{Chain}
use Rattle.wav_format.specs.Samples.{FrameRead, heard_from, frame_read, frame_written}
use Rattle.wav_format.specs.Laws.Samples.{frame_heard}
use Rattle.recording_frame.specs.Levelling.{is_frame, kept, levelled}
use Rattle.recording_frame.specs.Steps.{room_for}

-- a choice by a reply
chosen : {A : Type 0} (reply : ℕ) (x y : A) → reply ≡ done → cond (eqb reply done) x y ≡ x
chosen reply x y h = ap (λ (n : ℕ). cond (eqb n done) x y) h

passed : {A : Type 0} (reply : ℕ) (x y : A) → (reply ≡ done → ⊥) → cond (eqb reply done) x y ≡ y
passed reply x y h = ap (λ (b : Bool). cond b x y) (ne_eqb reply done h)

-- the reader's reply tells its test
accepted : (b : Bool) → cond b done bad_shape ≡ done → b ≡ true
accepted true h = refl
accepted false h = absurd (omega arith)

refused_by : (b : Bool) → (cond b done bad_shape ≡ done → ⊥) → b ≡ false
refused_by true n = absurd (n refl)
refused_by false n = refl

-- two tests that pass together are the same
alike : (a b : Bool) → (a ≡ true → b ≡ true) → (b ≡ true → a ≡ true) → a ≡ b
alike true b f g = sym (f refl)
alike false true f g = g refl
alike false false f g = refl

-- ---- the room that a frame takes is its own
shape_small : (channels samples n : ℕ) → is_shape channels samples n ≡ true → leb channels 8 && leb samples 480 ≡ true
unfolding is_shape is_samples
shape_small channels samples n h =
    each_of (leb 1 channels ∷ leb channels 8 ∷ is_samples samples ∷ _ ∷ []) h 1
    and each_of (leb 40 samples ∷ leb samples 480 ∷ _ ∷ []) (each_of (leb 1 channels ∷ leb channels 8 ∷ is_samples samples ∷ _ ∷ []) h 2) 1

room_own : (channels samples n : ℕ) → is_shape channels samples n ≡ true → room_for channels samples ≡ channels * samples
unfolding room_for
room_own channels samples n h = ap (λ (b : Bool). cond b (channels * samples) 0) (shape_small channels samples n h)

module _ (bytes : List ℕ) (frame : List Float) (channels samples : ℕ) (long : length frame ≡ room_for channels samples) where
  -- the reader's test, of bytes and a frame
  abbrev readable : ℕ → Bool
  readable n = is_shape channels samples n && eqb (length bytes) (2 * n)

  own : (n : ℕ) → readable n ≡ true → length frame ≡ channels * samples
  own n h = long ∙ room_own channels samples n (each_of (is_shape channels samples n ∷ _ ∷ []) h 0)

  pub same_test : readable (length frame) ≡ is_frame bytes channels samples
  unfolding is_frame
  same_test =
      alike (readable (length frame)) (readable (channels * samples))
      (λ h. ap readable (sym (own (length frame) h)) ∙ h)
      (λ h. ap readable (own (channels * samples) h) ∙ h)

  -- what the reader answers is that test, and what it reads the frame of the definition
  reply_is : (frame_read bytes frame channels samples).reply ≡ cond (is_frame bytes channels samples) done bad_shape
  unfolding frame_read
  reply_is = ap (λ (b : Bool). cond b done bad_shape) same_test

  is_frame_lem : (frame_read bytes frame channels samples).reply ≡ done → is_frame bytes channels samples ≡ true
  is_frame_lem h = accepted (is_frame bytes channels samples) (sym reply_is ∙ h)

  no_frame : ((frame_read bytes frame channels samples).reply ≡ done → ⊥) → is_frame bytes channels samples ≡ false
  no_frame n = refused_by (is_frame bytes channels samples) (λ h. n (reply_is ∙ h))

  heard_is : (frame_read bytes frame channels samples).reply ≡ done → (frame_read bytes frame channels samples).frame ≡ heard_from bytes channels samples 0 (channels * samples)
  heard_is h =
      ap (λ (r : FrameRead). r.frame) (frame_heard bytes frame channels samples (same_test ∙ is_frame_lem h))
      ∙ ap (heard_from bytes channels samples 0) (own (length frame) (same_test ∙ is_frame_lem h))

  module _ (chain : Chain) (figures : Figures) where
    -- what the step answers on the frame that was read
    abbrev pub step : Called
    step = called chain figures (frame_read bytes frame channels samples).frame channels samples

    -- The bytes are no frame's,
    pub unread : ((frame_read bytes frame channels samples).reply ≡ done → ⊥)
        → levelled chain figures bytes channels samples ≡ kept chain bytes (frame_read bytes frame channels samples).reply
    unfolding levelled
    unread n = rw (no_frame n, reply_is, no_frame n)

    module _ (read : (frame_read bytes frame channels samples).reply ≡ done) where
      -- by the step on the frame of the definition
      by_step : levelled chain figures bytes channels samples
          ≡ cond (eqb step.told.reply done)
          (record {
            next = record { reply = (frame_written step.frame channels samples bytes).reply; chain = step.told.chain };
            bytes = (frame_written step.frame channels samples bytes).out;
          })
          (kept chain bytes step.told.reply)
      unfolding levelled
      by_step = rw (is_frame_lem read, heard_is read)

      -- or the chain refuses the frame,
      pub refused : (step.told.reply ≡ done → ⊥) → levelled chain figures bytes channels samples ≡ kept chain bytes step.told.reply
      refused n = by_step ∙ passed step.told.reply _ _ n

      -- or it is levelled, and what is written is the answer.
      pub taken : step.told.reply ≡ done
          → levelled chain figures bytes channels samples
          ≡ record {
            next = record { reply = (frame_written step.frame channels samples bytes).reply; chain = step.told.chain };
            bytes = (frame_written step.frame channels samples bytes).out;
          }
      taken d = by_step ∙ chosen step.told.reply _ _ d
