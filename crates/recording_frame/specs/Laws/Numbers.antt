-- What a frame is refused with is the number of a refusal. Laws.
-- Assumes nothing.
use Rattle.std.specs.Prelude.{◌≡◌, refl, Bool, true, false, ◌&&◌, cond, List, ℕ, ◌*◌, eqb, length, Result, Ok, Err, Float}
use Rattle.std.proofs.Common.{ap, ◌∙◌, ne_eqb}
use Rattle.units.specs.Replies.{done, bad_shape, no_room, refusal}
use Rattle.units.specs.Handed.{refusal_of, number_of, handed}
use Rattle.units.specs.Output.{put}
use Rattle.units.specs.Laws.Handed.{refused_not_done}
use Rattle.units.specs.declared.refusals.Refusal.{Refusal}
use Rattle.units.specs.declared.figures.Figures.{Figures}
use Rattle.frames.specs.Refusal.{frame_refusal}
use Rattle.chain.specs.Calls.{Called, refused, called}
use Rattle.chain.specs.Chain.{passes, samples_of}
use Rattle.chain.specs.Laws.Frames.{either}
use Rattle.units.specs.Figures.{accepted}
use Rattle.frames.specs.Samples.{largest_input, all_within}
use Rattle.frames.specs.Shape.{is_shape}
use Rattle.units.specs.declared.refusals.Refusal.TheVariants as R
use Rattle.chain.specs.declared.Chain.{Chain}
use Rattle.wav_format.specs.Samples.{heard_from, all_full_scale, frame_written}
use Rattle.recording_frame.specs.Levelling.{Outcome, is_frame, levelled}

-- a reply that refuses is its refusal's number
abbrev Named : ℕ → Type 0
Named r = (r ≡ done → ⊥) → number_of (refusal_of r) ≡ r

named_refusal : (shape setting figure sample : Bool) → Named (refusal shape setting figure sample)
unfolding refusal refusal_of number_of
named_refusal false setting figure sample n = refl
named_refusal true false figure sample n = refl
named_refusal true true false sample n = refl
named_refusal true true true false n = refl
named_refusal true true true true n = absurd (n refl)

named_room : (fits : Bool) → Named (cond fits done no_room)
unfolding refusal_of number_of
named_room true n = absurd (n refl)
named_room false n = refl

named_shape : Named bad_shape
unfolding refusal_of number_of
named_shape n = refl

named_either : (b : Bool) (r s : ℕ) → Named r → Named s → Named (cond b r s)
named_either true r s p q = p
named_either false r s p q = q

-- what is handed back of a number that refuses
pub its_refusal : {A : Type 0} (r : ℕ) (made : A) (e : Refusal) → Err e ≡ handed r made → e ≡ refusal_of r
unfolding handed
its_refusal r made e h =
    let shut = ne_eqb r done (refused_not_done r made e h) in
    let same : ◌≡◌ {A = Result _ Refusal} (Err e) (Err (refusal_of r)) = h ∙ ap (λ (b : Bool). cond b (Ok made) (Err (refusal_of r))) shut in
    cc same

-- and of a refusal's own
pub handed_number : {A : Type 0} (e : Refusal) (made : A) → Err e ≡ handed (number_of e) made
unfolding handed refusal_of number_of
handed_number R.Shape made = refl
handed_number R.Figure made = refl
handed_number R.Sample made = refl
handed_number R.Setting made = refl
handed_number R.Cut made = refl
handed_number R.Length made = refl
handed_number R.Version made = refl
handed_number R.Room made = refl
handed_number R.Unsaid made = refl

module _ (chain : Chain) (figures : Figures) (bytes : List ℕ) (channels samples : ℕ) where
  abbrev step : Called
  step = called chain figures (heard_from bytes channels samples 0 (channels * samples)) channels samples

  named_step : Named step.told.reply
  unfolding called refused frame_refusal
  named_step =
      let heard = heard_from bytes channels samples 0 (channels * samples) in
      named_refusal (is_shape channels samples (length heard) && eqb samples (samples_of chain)) (passes chain) (accepted figures) (all_within largest_input heard)

  named_written : Named (frame_written step.frame channels samples bytes).reply
  unfolding frame_written put
  named_written = named_either _ _ _ (named_room _) (named_refusal (is_shape channels samples (length step.frame)) true true (all_full_scale step.frame))

  named : Named (levelled chain figures bytes channels samples).next.reply
  unfolding levelled
  named =
      either (λ (o : Outcome). Named o.next.reply) (is_frame bytes channels samples)
      (either (λ (o : Outcome). Named o.next.reply) (eqb step.told.reply done) named_written named_step) named_shape

  -- so is a refusal of `levelled`
  pub levelled_number : {A : Type 0} (made : A) (e : Refusal) → Err e ≡ handed (levelled chain figures bytes channels samples).next.reply made
      → number_of e ≡ (levelled chain figures bytes channels samples).next.reply
  levelled_number made e h =
      let reply = (levelled chain figures bytes channels samples).next.reply in
      ap number_of (its_refusal reply made e h) ∙ named (refused_not_done reply made e h)
