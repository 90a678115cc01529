-- What `level_in` answers on each way through a frame. Assumes nothing.
use Rattle.std.proofs.Common.{◌≡◌, refl, sym, ap, ◌∙◌, List, length, ℕ, Result, Ok, Err}
use Rattle.std.specs.Prelude.{Float, IsErrAnd}
use Rattle.units.specs.Replies.{done}
use Rattle.units.specs.Handed.{number_of, handed}
use Rattle.units.specs.Laws.Handed.{refused_by, refused_not_done, number_not_done, passed_done, handed_done}
use Rattle.units.specs.declared.refusals.Refusal.{Refusal}
use Rattle.units.specs.declared.figures.Figures.{Figures}
use Rattle.chain.specs.Calls.{Called, Told, told, called}
use Rattle.chain.specs.declared.Chain.{Chain}
use Rattle.chain.specs.declared.Next.{Next}
use Rattle.wav_format.specs.Samples.{FrameRead, frame_read, frame_written}
use Rattle.recording_frame.specs.Levelling.{Outcome, levelled}
use Rattle.recording_frame.specs.Steps.{room_for}
use Rattle.recording_frame.specs.Laws.Numbers.{handed_number}
use Rattle.recording_frame.specs.Laws.Ways as laws

-- a call's two promises: its answer and the bytes
abbrev pub Answers : Outcome → Result Chain Refusal → List ℕ → Type 0
Answers o answer bytes = (answer ≡ handed o.next.reply o.next.chain) × (bytes ≡ o.bytes)

module _ (chain : Chain) (figures : Figures) (bytes : List ℕ) (frame : List Float) (channels samples : ℕ) (long : length frame ≡ room_for channels samples) where
  abbrev pub Meets : Result Chain Refusal → List ℕ → Type 0
  Meets = Answers (levelled chain figures bytes channels samples)

  by_way : (o : Outcome) (answer : Result Chain Refusal) (out : List ℕ) → levelled chain figures bytes channels samples ≡ o → Answers o answer out → Meets answer out
  by_way o answer out k p = (p.0 ∙ ap (λ (x : Outcome). handed x.next.reply x.next.chain) (sym k), p.1 ∙ ap (λ (x : Outcome). x.bytes) (sym k))

  abbrev pub read : FrameRead
  read = frame_read bytes frame channels samples

  -- the bytes are no frame's
  pub unread : (answer : Result Chain Refusal) (e : Refusal) → IsErrAnd answer (λ d. d ≡ e) → Err e ≡ handed read.reply (tt {0}) → Meets answer bytes
  unread answer e told h =
      by_way _ answer bytes (laws.unread bytes frame channels samples long chain figures (refused_not_done read.reply (tt {0}) e h)) (refused_by answer e read.reply (tt {0}) chain told h, refl)

  module _ (heard after : List Float) (step : Result Next Refusal) (a : Ok (tt {0}) ≡ handed read.reply (tt {0})) (b : heard ≡ read.frame)
      (t : told chain step ≡ (called chain figures heard channels samples).told) (f : after ≡ (called chain figures heard channels samples).frame) where
    abbrev done_read : read.reply ≡ done
    done_read = passed_done read.reply (tt {0}) (tt {0}) a

    -- what the step was called with is what was read
    abbrev known : Called
    known = called chain figures read.frame channels samples

    same_told : told chain step ≡ known.told
    same_told = t ∙ ap (λ (h : List Float). (called chain figures h channels samples).told) b

    same_frame : after ≡ known.frame
    same_frame = f ∙ ap (λ (h : List Float). (called chain figures h channels samples).frame) b

    -- the chain refuses the frame
    pub refused : (answer : Result Chain Refusal) (e : Refusal) → step ≡ Err e → IsErrAnd answer (λ d. d ≡ e) → Meets answer bytes
    unfolding told
    refused answer e w said =
        let number : number_of e ≡ known.told.reply = ap (λ (x : Told). x.reply) (ap (told chain) (sym w) ∙ same_told) in
        by_way _ answer bytes (laws.refused bytes frame channels samples long chain figures done_read (λ k. number_not_done e (number ∙ k)))
        (refused_by answer e (number_of e) chain chain said (handed_number e chain) ∙ ap (λ (n : ℕ). handed n chain) number, refl)

    module _ (next : Next) (w : step ≡ Ok next) where
      took : done ≡ known.told.reply
      unfolding told
      took = ap (λ (x : Told). x.reply) (ap (told chain) (sym w) ∙ same_told)

      goes : next.chain ≡ known.told.chain
      unfolding told
      goes = ap (λ (x : Told). x.chain) (ap (told chain) (sym w) ∙ same_told)

      -- it is levelled, and cannot be written
      pub unwritten : (answer : Result Chain Refusal) (e : Refusal) (out : List ℕ) → IsErrAnd answer (λ d. d ≡ e)
          → Err e ≡ handed (frame_written after channels samples bytes).reply (tt {0}) → out ≡ (frame_written after channels samples bytes).out → Meets answer out
      unwritten answer e out said h o =
          by_way _ answer out (laws.taken bytes frame channels samples long chain figures done_read (sym took)) (
            refused_by answer e _ (tt {0}) known.told.chain said (h ∙ ap (λ (x : List Float). handed (frame_written x channels samples bytes).reply (tt {0})) same_frame),
            o ∙ ap (λ (x : List Float). (frame_written x channels samples bytes).out) same_frame,
          )

      -- or it is, and the chain goes on
      pub written : (out : List ℕ) → Ok (tt {0}) ≡ handed (frame_written after channels samples bytes).reply (tt {0}) → out ≡ (frame_written after channels samples bytes).out
          → Meets (Ok next.chain) out
      written out h o =
          let done_written = passed_done _ (tt {0}) (tt {0}) (h ∙ ap (λ (x : List Float). handed (frame_written x channels samples bytes).reply (tt {0})) same_frame) in
          by_way _ (Ok next.chain) out (laws.taken bytes frame channels samples long chain figures done_read (sym took)) (
            ap Ok goes ∙ sym (handed_done (frame_written known.frame channels samples bytes).reply known.told.chain done_written),
            o ∙ ap (λ (x : List Float). (frame_written x channels samples bytes).out) same_frame,
          )
