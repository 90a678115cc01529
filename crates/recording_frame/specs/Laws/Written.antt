-- Writing is never refused after the chain: what a step hands out is of full scale, and fits where it was read. Laws.
-- Assumes nothing.
use Rattle.std.specs.Prelude.{◌≡◌, refl, true, List, [], ◌∷◌, ◌++◌, ℕ, zero, suc, ◌+◌, ◌*◌, ◌-◌, ◌/◌, ◌%◌, T, ltb, pos, length, drop, Float}
use Rattle.std.proofs.Common.{sym, ◌∙◌, append-nil, le_of_eq, drop_of_length-le}
use Rattle.std.proofs.Math.Path.{ap}
use borrow.Author.Tests.{eqb-true}
use Rattle.std.specs.Float.{nan, binary32}
use Rattle.std.specs.Float.Ieee.{fits, of_bits, of_int, le}
use Rattle.std.specs.Float.Ieee.Bits.{is_true}
use Rattle.std.specs.Float.Ieee.Fits.{of_int-fits, neg-fits}
use Rattle.rounding.specs.Laws.Exact.{constant_number}
use Rattle.rounding.specs.Laws.Order.{units→le}
use Rattle.lists.specs.Each.{Each}
use Rattle.lists.specs.Tests.{each_of, ◌and◌}
use Rattle.units.specs.Output.{Put}
use Rattle.units.specs.Replies.{done}
use Rattle.units.specs.declared.figures.Figures.{Figures}
use Rattle.frames.specs.Shape.{is_shape}
use Rattle.gain_applier.specs.Range.{Held}
use Rattle.limiter.specs.Scale.{Fits16, FullScale}
use Rattle.chain.specs.Calls.{called}
use Rattle.chain.specs.Held.{HeldChain, HeldFigures}
use Rattle.chain.specs.Laws.Calls.{called_full_scale}
use Rattle.chain.specs.Laws.Frames.{either}
use Rattle.chain.specs.declared.Chain.{Chain}
use Rattle.wav_format.specs.Bytes.{little_at}
use Rattle.wav_format.specs.Samples.{sound_of, heard_from, full_scale, all_full_scale, bytes_from, frame_written}
use Rattle.wav_format.specs.Laws.Samples.{heard_length, frame_written_lem}
use Rattle.recording_frame.specs.Levelling.{Outcome, is_frame, levelled}
use Rattle.recording_frame.specs.Laws.Lengths.{called_long}

-- ---- a frame of full scale passes the writer's test
sample_full : (x : Float) → Fits16 x → full_scale x ≡ true
unfolding full_scale of_bits
sample_full x i =
    let low = of_bits binary32 0xc700_0000 in
    let high = of_bits binary32 0x46ff_fe00 in
    is_true (le low x) (units→le low x (constant_number 0xc700_0000 tt) i.number i.above)
    and is_true (le x high) (units→le x high i.number (constant_number 0x46ff_fe00 tt) i.below)

all_full : (xs : List Float) → FullScale xs → all_full_scale xs ≡ true
unfolding Each all_full_scale
all_full [] h = refl
all_full (x ∷ xs) h = sample_full x h.0 and all_full xs h.1

-- ---- what is read is f32
sound_held : (n : ℕ) → T (fits binary32 (sound_of n))
unfolding sound_of
sound_held n =
    either (λ (x : Float). T (fits binary32 x)) (ltb n 32768) (of_int-fits binary32 (pos n))
    (neg-fits binary32 (of_int binary32 (pos (65536 - n))) (of_int-fits binary32 (pos (65536 - n))))

nan_held : T (fits binary32 nan)
unfolding fits
nan_held = tt

heard_held : (bytes : List ℕ) (channels samples j k : ℕ) → Held (heard_from bytes channels samples j k)
unfolding heard_from
heard_held bytes channels samples j zero i = nan_held
heard_held bytes channels samples j (suc k) zero = sound_held (little_at bytes (2 * (j % samples * channels + j / samples)) 2)
heard_held bytes channels samples j (suc k) (suc i) = heard_held bytes channels samples (j + 1) k i

module _ (chain : Chain) (figures : Figures) (bytes : List ℕ) (channels samples : ℕ) (held : HeldChain chain) (given : HeldFigures figures)
    (frame : is_frame bytes channels samples ≡ true)
    (step : (called chain figures (heard_from bytes channels samples 0 (channels * samples)) channels samples).told.reply ≡ done) where
  -- the frame, and the levelled one
  abbrev heard : List Float
  heard = heard_from bytes channels samples 0 (channels * samples)

  abbrev after : List Float
  after = (called chain figures heard channels samples).frame

  long : length after ≡ channels * samples
  long = called_long chain figures heard channels samples ∙ heard_length bytes channels samples 0 (channels * samples)

  full : all_full_scale after ≡ true
  full =
      all_full after
      (called_full_scale chain figures heard channels samples held given (heard_held bytes channels samples 0 (channels * samples)) step)

  shape : is_shape channels samples (length after) ≡ true
  unfolding is_frame
  shape = ap (is_shape channels samples) long ∙ each_of (_ ∷ _ ∷ []) frame 0

  twice : length bytes ≡ 2 * length after
  unfolding is_frame
  twice =
      eqb-true (length bytes) (2 * (channels * samples)) (each_of (is_shape channels samples (channels * samples) ∷ _ ∷ []) frame 1)
      ∙ ap (λ (n : ℕ). 2 * n) (sym long)

  written : frame_written after channels samples bytes ≡ record { reply = done; out = bytes_from after channels samples 0 (length after) ++ drop (2 * length after) bytes }
  written = frame_written_lem after channels samples bytes shape full (le_of_eq (sym twice))

  is_taken : levelled chain figures bytes channels samples
      ≡ record { next = record { reply = (frame_written after channels samples bytes).reply; chain = (called chain figures heard channels samples).told.chain }; bytes = (frame_written after channels samples bytes).out }
  unfolding levelled
  is_taken = rw (frame, step)

  -- Where the bytes are a frame's and the step is done, the whole is done,
  pub never_refused : (levelled chain figures bytes channels samples).next.reply ≡ done
  never_refused = ap (λ (o : Outcome). o.next.reply) is_taken ∙ ap (λ (p : Put). p.reply) written

  -- and the bytes are those of the levelled frame, every one.
  pub levelled_bytes : (levelled chain figures bytes channels samples).bytes ≡ bytes_from after channels samples 0 (length after)
  levelled_bytes =
      ap (λ (o : Outcome). o.bytes) is_taken
      ∙ ap (λ (p : Put). p.out) written
      ∙ ap (λ (rest : List ℕ). bytes_from after channels samples 0 (length after) ++ rest) (drop_of_length-le bytes (le_of_eq twice))
      ∙ append-nil (bytes_from after channels samples 0 (length after))
