-- Of a call over a lent frame: what it comes to where it is refused and where it is not, and that the state that comes out of an accepted one passes. Laws.
-- Assumes nothing.
use Rattle.std.specs.Prelude.{◌≡◌, Bool, true, ◌&&◌, List, [], ◌∷◌, ℕ, length, Float, Result, Err}
use Rattle.std.proofs.Math.Path.{refl, sym, ap, subst}
use Rattle.std.proofs.Common.{ap₂, ◌∙◌}
use Rattle.std.proofs.Math.Bool.{cond}
use borrow.Author.Tests.{ne_eqb}
use Rattle.std.proofs.Math.Dec.{eqb}
use Rattle.lists.specs.Tests.{each_of}
use Rattle.units.specs.Handed.{number_of, handed}
use Rattle.units.specs.Laws.Handed.{check_number, number_not_done}
use Rattle.units.specs.Replies.{done, refusal}
use Rattle.units.specs.declared.refusals.Refusal.{Refusal}
use Rattle.units.specs.Laws.Replies.{none_refused, refused_first}
use Rattle.frames.specs.Shape.{is_shape}
use Rattle.frames.specs.Samples.{largest_input, all_within}
use Rattle.frames.specs.Refusal.{frame_refusal}
use Rattle.frames.specs.Facts.{Taken, taken}
use Rattle.runs.specs.Runs.{speech}
use Rattle.gain_applier.specs.Applier as Applying
use Rattle.gain_applier.specs.Range.{Held}
use Rattle.speech_level_estimator.specs.Calls as Levels
use Rattle.speech_level_estimator.specs.declared.Estimator.{Estimator}
use Rattle.saturation_protector.specs.Calls as Headrooms
use Rattle.saturation_protector.specs.Protector as Headroom
use Rattle.saturation_protector.specs.Laws.Again as HeadroomAgain
use Rattle.saturation_protector.specs.declared.Protector.{Protector}
use Rattle.adaptive_digital_gain_controller.specs.Controller as Gain
use Rattle.adaptive_digital_gain_controller.specs.Calls as Gaining
use Rattle.adaptive_digital_gain_controller.specs.declared.Info.{Info}
use Rattle.adaptive_digital_gain_controller.specs.declared.Controller.{Controller}
use Rattle.adaptive_digital_gain_controller.specs.Calls.{Next as GainNext}
use Rattle.limiter.specs.Limiter as Limiting
use Rattle.limiter.specs.Scale.{FullScale}
use Rattle.limiter.specs.declared.Limiter.{Limiter}
use Rattle.units.specs.Figures.{accepted}
use Rattle.chain.specs.Chain.{passes, samples_of}
use Rattle.chain.specs.Answer.{non_speech, answer_of}
use Rattle.chain.specs.Calls.{informed, Stepped, stepped, Told, told, Called, refused, called}
use Rattle.chain.specs.Held.{HeldChain, HeldFigures, Ready}
use Rattle.chain.specs.Laws.Passing.{Passed, passed_all}
use Rattle.chain.specs.Laws.Steps.{fine, level_done, level_is, limiter_done, heard, safe, info, heard_figures, safe_figures, info_accepted, controller_is, frame_is, stepped_ready, stepped_full_scale}
use Rattle.chain.specs.declared.Chain.{Chain}
use Rattle.chain.specs.declared.Next.{Next}
use Rattle.units.specs.declared.figures.Figures.{Figures}

-- where those tests pass, the samples decide
alone : {a b d e f g : Bool} (w : Bool) → a ≡ true → b ≡ true → d ≡ true → e ≡ true → f ≡ true → g ≡ true → refusal a b d w ≡ refusal (e && true) f g w
alone w p q r s t u = rw (p, q, r, s, t, u)

-- the number of the controller's refusal is its reply
pub controller_number : (k : Controller) (i : Info) (frame : List Float) (channels samples : ℕ) (made : Controller) (e : Refusal)
    → Err e ≡ handed (Gaining.processed k i frame channels samples).next.reply made → number_of e ≡ (Gaining.processed k i frame channels samples).next.reply
unfolding Gaining.processed frame_refusal
controller_number k i frame channels samples made e h =
    check_number (is_shape channels samples (length frame) && true) (Gain.passes k) (Gain.accepted i) (all_within largest_input frame) made e h

-- what a call comes to, by whether it is accepted
unfoldable pub shown : ℕ → Bool → Stepped → Chain → List Float → Called
shown r b next c frame =
    record {
      told = record { reply = r; answer = cond b next.answer non_speech; chain = cond b next.chain c };
      frame = cond b next.frame frame;
    }

-- what a frame is refused with before its samples are looked at
abbrev pub early : Chain → Figures → ℕ → ℕ → ℕ → ℕ
early c f size channels samples = refusal (is_shape channels samples size && eqb samples (samples_of c)) (passes c) (accepted f) true

-- what an accepted call tells, by its parts
unfoldable pub ended : Float → Estimator → Protector → Controller → Limiter → Told
ended p e s g l = record { reply = done; answer = answer_of (speech p) e.threshold e.count e.level s.headroom; chain = record { estimator = e; protector = s; controller = g; limiter = l } }

ended_same : (p : Float) {e e' : Estimator} {s s' : Protector} {g g' : Controller} {l l' : Limiter} {x x' : List Float}
    → e ≡ e' → s ≡ s' → g ≡ g' → l ≡ l' → x ≡ x' → ◌≡◌ {A = Called} (record { told = ended p e s g l; frame = x }) (record { told = ended p e' s' g' l'; frame = x' })
ended_same p a b d f h = rw (a, b, d, f, h)

module _ (c : Chain) (f : Figures) (frame : List Float) (channels samples : ℕ) where
  called_is : called c f frame channels samples ≡ shown (refused c f frame channels samples) (eqb (refused c f frame channels samples) done) (stepped c f frame channels samples) c frame
  unfolding called shown
  called_is = refl

  -- A refused call changes nothing and answers N.
  pub called_refused : {r : ℕ} → refused c f frame channels samples ≡ r → (r ≡ done → ⊥) → called c f frame channels samples ≡ record { told = record { reply = r; answer = non_speech; chain = c }; frame = frame }
  unfolding shown
  called_refused {r} e n =
      called_is
      ∙ ap (λ (m : ℕ). shown m (eqb m done) (stepped c f frame channels samples) c frame) e
      ∙ ap (λ (b : Bool). shown r b (stepped c f frame channels samples) c frame) (ne_eqb r done n)

  -- An accepted call comes to the step.
  pub called_accepted : refused c f frame channels samples ≡ done → called c f frame channels samples ≡ shown done true (stepped c f frame channels samples) c frame
  called_accepted e = called_is ∙ ap (λ (m : ℕ). shown m (eqb m done) (stepped c f frame channels samples) c frame) e

  -- A frame whose shape, state or figures fail is refused with the first number that applies.
  pub refused_early : {r : ℕ} → r ≡ early c f (length frame) channels samples → (r ≡ done → ⊥)
      → called c f frame channels samples ≡ record { told = record { reply = r; answer = non_speech; chain = c }; frame = frame }
  unfolding refused frame_refusal
  refused_early {r} e n =
      let shape = is_shape channels samples (length frame) && eqb samples (samples_of c) in
      called_refused (refused_first shape (passes c) (accepted f) (all_within largest_input frame) (λ (z : early c f (length frame) channels samples ≡ done). n (e ∙ z)) ∙ sym e) n

  -- So what comes out of it is what came in, and full scale is promised of no refused frame.
  pub refused_all : {r : ℕ} → r ≡ early c f (length frame) channels samples → (r ≡ done → ⊥)
      → (record { reply = r; answer = non_speech; chain = c } ≡ (called c f frame channels samples).told) × ((frame ≡ (called c f frame channels samples).frame) × (r ≡ done → FullScale frame))
  refused_all {r} e n =
      let same = refused_early e n in
      (sym (ap (λ (z : Called). z.told) same), (sym (ap (λ (z : Called). z.frame) same), λ (h : r ≡ done). absurd (n h)))

  -- What a refusal tells is what the definition says of one.
  pub refused_told : (r : Result Next Refusal) (e : Refusal) → r ≡ Err e → number_of e ≡ early c f (length frame) channels samples → told c r ≡ (called c f frame channels samples).told
  unfolding told
  refused_told r e is k = rw is (refused_all k (number_not_done e)).0

  module _ (held : HeldChain c) (figures : HeldFigures f) (sound : Held frame) where
    module _ (ok : (called c f frame channels samples).told.reply ≡ done) where
      taken_it : refused c f frame channels samples ≡ done
      unfolding called
      taken_it = ok

      tests : Taken frame channels samples (eqb samples (samples_of c)) (passes c) (accepted f) largest_input
      unfolding refused
      tests = taken frame channels samples (eqb samples (samples_of c)) (passes c) (accepted f) largest_input taken_it

      -- After a frame that is not refused the chain passes, and its numbers are f32,
      pub called_ready : Ready (called c f frame channels samples).told.chain
      unfolding shown
      called_ready =
          subst (λ (z : Called). Ready z.told.chain) (sym (called_accepted taken_it))
          (stepped_ready c f (record { held = held; state = tests.settings }) figures tests.figures frame channels samples sound taken_it)

      -- so it passes,
      pub called_passes : passes (called c f frame channels samples).told.chain ≡ true
      called_passes = called_ready.state

      -- and what comes out is of full scale.
      pub called_full_scale : FullScale (called c f frame channels samples).frame
      unfolding shown
      called_full_scale =
          subst (λ (z : Called). FullScale z.frame) (sym (called_accepted taken_it))
          (stepped_full_scale c f (record { held = held; state = tests.settings }) figures tests.figures frame channels samples sound taken_it)

    -- where the first three tests pass neither the estimator nor the protector refuses
    module _ (z : early c f (length frame) channels samples ≡ done) where
      open_tests : (is_shape channels samples (length frame) && eqb samples (samples_of c) ≡ true) × (passes c ≡ true) × (accepted f ≡ true) × (true ≡ true)
      open_tests = none_refused (is_shape channels samples (length frame) && eqb samples (samples_of c)) (passes c) (accepted f) true z

      open_ready : Ready c
      open_ready = record { held = held; state = open_tests.1 }

      pub level_takes : (Levels.stepped c.estimator f.rms.0 f.probability).reply ≡ done
      level_takes = level_done c.estimator f.rms.0 f.probability (passed_all c open_tests.1).estimator (heard_figures c f open_ready figures open_tests.2)

      level_heard : (Levels.stepped c.estimator f.rms.0 f.probability).estimator ≡ heard c f
      level_heard = level_is c.estimator f.rms.0 f.probability (passed_all c open_tests.1).estimator (heard_figures c f open_ready figures open_tests.2)

      pub headroom_takes : (Headrooms.stepped c.protector f.probability f.peak.0 (Levels.stepped c.estimator f.rms.0 f.probability).estimator.level).reply ≡ done
      unfolding Headrooms.stepped
      headroom_takes =
          rw level_heard
          (fine (Headroom.passes c.protector) (Headrooms.figures f.probability f.peak.0 (heard c f).level) (passed_all c open_tests.1).protector
          (safe_figures c f open_ready figures open_tests.2))

    -- what the code's calls come to where the first three tests pass
    module _ (z : early c f (length frame) channels samples ≡ done) {first : Estimator} {second : Protector} {report : Info} {third : GainNext} {out : List Float}
        (p : first ≡ (Levels.stepped c.estimator f.rms.0 f.probability).estimator)
        (q : second ≡ (Headrooms.stepped c.protector f.probability f.peak.0 first.level).protector)
        (i : report ≡ informed first second f)
        (n : third ≡ (Gaining.processed c.controller report frame channels samples).next)
        (o : out ≡ (Gaining.processed c.controller report frame channels samples).frame) where
      all : (is_shape channels samples (length frame) && eqb samples (samples_of c) ≡ true) × (passes c ≡ true) × (accepted f ≡ true) × (true ≡ true)
      all = none_refused (is_shape channels samples (length frame) && eqb samples (samples_of c)) (passes c) (accepted f) true z

      ready : Ready c
      ready = record { held = held; state = all.1 }

      was : Passed c
      was = passed_all c all.1

      first_is : first ≡ heard c f
      first_is =
          p
          ∙ level_is c.estimator f.rms.0 f.probability was.estimator (heard_figures c f ready figures all.2)

      second_is : second ≡ safe c f
      second_is =
          q
          ∙ ap (λ (x : Estimator). (Headrooms.stepped c.protector f.probability f.peak.0 x.level).protector) first_is
          ∙ HeadroomAgain.stepped_analyzed c.protector f.probability f.peak.0 (heard c f).level was.protector (safe_figures c f ready figures all.2)

      info_is : report ≡ info c f
      info_is = i ∙ ap₂ (λ (x : Estimator) (y : Protector). informed x y f) first_is second_is

      third_is : third ≡ (Gaining.processed c.controller (info c f) frame channels samples).next
      third_is = n ∙ ap (λ (x : Info). (Gaining.processed c.controller x frame channels samples).next) info_is

      out_is : out ≡ (Gaining.processed c.controller (info c f) frame channels samples).frame
      out_is = o ∙ ap (λ (x : Info). (Gaining.processed c.controller x frame channels samples).frame) info_is

      own_reply : (Gaining.processed c.controller (info c f) frame channels samples).next.reply ≡ third.reply
      own_reply = ap (λ (x : GainNext). x.reply) (sym third_is)

      -- The reply is the controller's.
      pub reply_is : refused c f frame channels samples ≡ third.reply
      unfolding refused frame_refusal Gaining.processed
      reply_is =
          alone (all_within largest_input frame) all.0 all.1 all.2
          (each_of (is_shape channels samples (length frame) ∷ eqb samples (samples_of c) ∷ []) all.0 0) was.controller (info_accepted c f ready figures all.2)
          ∙ own_reply

      frame_same : (third.reply ≡ done → ⊥) → (Gaining.processed c.controller (info c f) frame channels samples).frame ≡ frame
      unfolding Gaining.processed
      frame_same k =
          ap (λ (b : Bool). cond b (Applying.applied (Gain.decided c.controller (info c f)).applier frame channels samples).frame frame)
          (ap (λ (m : ℕ). eqb m done) own_reply ∙ ne_eqb third.reply done k)

      -- Where the controller refuses, so does the chain, and all stays as it was.
      pub refused_late : (third.reply ≡ done → ⊥) → called c f frame channels samples ≡ record { told = record { reply = third.reply; answer = non_speech; chain = c }; frame = out }
      refused_late k =
          called_refused reply_is k
          ∙ ap (λ (x : List Float). record { told = record { reply = third.reply; answer = non_speech; chain = c }; frame = x }) (sym (out_is ∙ frame_same k))

      pub late_told : (r : Result Next Refusal) (e : Refusal) → r ≡ Err e → number_of e ≡ third.reply → (third.reply ≡ done → ⊥)
          → (told c r ≡ (called c f frame channels samples).told) × (out ≡ (called c f frame channels samples).frame)
      unfolding told
      late_told r e is m k =
          let same = refused_late k in
          (rw (is, m) (sym (ap (λ (z : Called). z.told) same)), sym (ap (λ (z : Called). z.frame) same))

      -- Where it does not, the chain is that of the four calls, the limiter's being the last.
      module _ (k : third.reply ≡ done) {last : List Float} (m : last ≡ (Limiting.processed c.limiter out channels samples).frame) where
        done_it : refused c f frame channels samples ≡ done
        done_it = reply_is ∙ k

        own_done : (Gaining.processed c.controller (info c f) frame channels samples).next.reply ≡ done
        own_done = own_reply ∙ k

        abbrev put : Applying.Applied
        put = Applying.applied (Gain.decided c.controller (info c f)).applier frame channels samples

        out_put : out ≡ put.frame
        out_put = out_is ∙ frame_is c.controller (info c f) frame channels samples own_done

        step_ended : shown done true (stepped c f frame channels samples) c frame
            ≡ record {
              told =
                  ended f.probability (heard c f) (safe c f) (Gaining.with_applier (Gain.decided c.controller (info c f)) put.next.applier)
                  (Limiting.processed c.limiter put.frame channels samples).next.limiter;
              frame = (Limiting.processed c.limiter put.frame channels samples).frame;
            }
        unfolding shown ended stepped
        step_ended = refl

        -- it does not refuse what the controller hands on
        pub limiter_takes : (Limiting.processed c.limiter out channels samples).next.reply ≡ done
        limiter_takes =
            ap (λ (x : List Float). (Limiting.processed c.limiter x channels samples).next.reply) out_put
            ∙ limiter_done c f ready figures all.2 frame channels samples sound done_it

        pub accepted_late : called c f frame channels samples
            ≡ record { told = ended f.probability first second third.controller (Limiting.processed c.limiter out channels samples).next.limiter; frame = last }
        accepted_late =
            called_accepted done_it ∙ step_ended
            ∙ ended_same f.probability (sym first_is) (sym second_is)
            (sym (ap (λ (x : GainNext). x.controller) third_is ∙ controller_is c.controller (info c f) frame channels samples own_done))
            (sym (ap (λ (x : List Float). (Limiting.processed c.limiter x channels samples).next.limiter) out_put))
            (sym (m ∙ ap (λ (x : List Float). (Limiting.processed c.limiter x channels samples).frame) out_put))

        -- And what comes out is of full scale.
        pub late_full_scale : FullScale last
        unfolding ended
        late_full_scale =
            subst FullScale (ap (λ (x : Called). x.frame) accepted_late)
            (called_full_scale (ap (λ (x : Called). x.told.reply) accepted_late))
