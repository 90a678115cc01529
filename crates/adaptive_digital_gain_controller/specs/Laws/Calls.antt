-- Of the calls: states that come out pass, the gain does not rise while a frame is still to come, the applier inside never refuses,
-- and what is handed on is within 33554432. Of what comes in it is only asked that its floats are f32, which the borrow checker knows.
use Rattle.std.specs.Prelude.{◌≡◌, ℕ, ◌<◌, Bool, true, false, ◌&&◌, List, [], ◌∷◌, length, ◌≢◌, refl, Float}
use Rattle.std.proofs.Math.Path.{sym, ap, ap₂}
use Rattle.std.proofs.Common.{◌∙◌, subst, arith}
use Rattle.std.proofs.Math.Bool.{and-true}
use borrow.Author.Tests.{ne_eqb, le-leb}
use Rattle.std.specs.Float.Ieee.{le}
use Rattle.lists.specs.Tests.{each_of}
use Rattle.units.specs.Replies.{done, refusal}
use Rattle.units.specs.Laws.Replies.{none_refused, refused_first}
use Rattle.units.specs.Settings as Settings
use Rattle.units.specs.declared.settings.Settings.{Settings as Set}
use Rattle.frames.specs.Shape.{is_shape}
use Rattle.frames.specs.Samples.{largest_input, largest_level, all_within}
use Rattle.frames.specs.Refusal.{frame_refusal}
use Rattle.frames.specs.Facts.{Taken, taken, not_refused}
use Rattle.decibels.specs.Ratio.{answer}
use Rattle.gain_applier.specs.Applier as Applier
use Rattle.gain_applier.specs.Applier.{Next as Applied}
use Rattle.gain_applier.specs.Range.{Held}
use Rattle.gain_applier.specs.Laws.Again.{equals_itself, starting_passes, arrived_passes, samples_pass}
use Rattle.gain_applier.specs.Laws.Sound.{applied_within}
use Rattle.adaptive_digital_gain_controller.specs.Change.{per_frame}
use Rattle.adaptive_digital_gain_controller.specs.Controller.{accepted, passes, fresh, decided}
use Rattle.adaptive_digital_gain_controller.specs.Calls.{made, with_applier, Processed, processed}
use Rattle.adaptive_digital_gain_controller.specs.Range.{HeldSettings, HeldInfo, HeldState, Ready}
use Rattle.adaptive_digital_gain_controller.specs.Laws.Boxes.{in_settings}
use Rattle.adaptive_digital_gain_controller.specs.Laws.Change.{frame_box}
use Rattle.adaptive_digital_gain_controller.specs.Laws.Factor.{factor_stays, factor_passes}
use Rattle.adaptive_digital_gain_controller.specs.Laws.States.{passing, Sure, gain_waits, applier_sure, decided_ready, initial_passes}
use Rattle.adaptive_digital_gain_controller.specs.declared.Info.{Info}
use Rattle.adaptive_digital_gain_controller.specs.declared.Controller.{Controller}

-- ---- a new controller
module _ (s : Set) (t : ℕ) (h : HeldSettings s) where
  fresh_ready : Settings.accepted s && Settings.threshold t ≡ true → Ready (fresh s t)
  unfolding fresh Applier.made Applier.starting
  fresh_ready ok =
      let tests = each_of (Settings.accepted s ∷ Settings.threshold t ∷ []) ok in
      let a = tests 0 in
      let b = in_settings s h a in
      let g = initial_passes s.initial.0 b.initial in
      let f = factor_stays s.initial.0 h.initial g in
      let p = factor_passes (answer s.initial.0).ratio f in
      let y = (frame_box s.change b.change).inside.number in
      rw p.0
      (record {
        held = record { settings = h; change = y.held; gain = h.initial; last = f.number.held; current = f.number.held };
        state = passing (record { applier = Applier.starting false (answer s.initial.0).ratio; settings = s; threshold = t; change = per_frame s.change; waiting = t; gain = s.initial.0 })
            (record {
              settings = a;
              threshold = tests 1;
              change = equals_itself (per_frame s.change) y;
              waiting = le-leb t t (omega arith);
              gain = g;
              applier = starting_passes false (answer s.initial.0).ratio p.0;
              last = p.1;
              current = p.1;
            });
      })

  -- A new controller that is not refused passes, and its floats are f32.
  pub made_ready : (made s t).reply ≡ done → Ready (made s t).controller
  unfolding made
  made_ready r = let ok = (none_refused true (Settings.accepted s && Settings.threshold t) true true r).1 in rw ok (fresh_ready ok)

  -- A new controller that is not refused passes.
  pub made_passes : (made s t).reply ≡ done → passes (made s t).controller ≡ true
  made_passes r = (made_ready r).state

-- ---- a frame
module _ (c : Controller) (i : Info) (frame : List Float) (channels samples : ℕ) where
  -- the call of the applier inside
  abbrev pub put : Applier.Applied
  put = Applier.applied (decided c i).applier frame channels samples

  -- A frame whose shape, state or figures fail is refused with the first number that applies, and all stays as it was.
  pub refused_early : {r : ℕ} → r ≡ refusal (is_shape channels samples (length frame)) (passes c) (accepted i) true → (r ≢ done)
      → processed c i frame channels samples ≡ record { next = record { reply = r; controller = c }; frame = frame }
  unfolding processed frame_refusal
  refused_early {r} e n =
      let shape = is_shape channels samples (length frame) in
      let same = refused_first shape (passes c) (accepted i) (all_within largest_input frame) (λ (z : refusal shape (passes c) (accepted i) true ≡ done). n (e ∙ z)) ∙ sym e in
      rw (and-true shape, same, ne_eqb r done n)

  module _ (h : HeldState c) (k : HeldInfo i) where
    -- Where state and figures are in order, the reply is the applier's.
    pub reply_is : passes c ≡ true → accepted i ≡ true → frame_refusal frame channels samples true (passes c) (accepted i) largest_input ≡ put.next.reply
    unfolding Applier.applied
    reply_is p a =
        ap₂ (λ (x y : Bool). frame_refusal frame channels samples true x y largest_input) (p ∙ sym (applier_sure c i h k p a).state) a

    -- Where shape, state, figures and samples are in order, the applier inside does not refuse.
    pub applier_never_refuses : is_shape channels samples (length frame) ≡ true → passes c ≡ true → accepted i ≡ true → all_within largest_input frame ≡ true → put.next.reply ≡ done
    unfolding Applier.applied
    applier_never_refuses s p a w =
        not_refused frame channels samples true (Applier.passes (decided c i).applier) true largest_input
        (record { shape = s; same = refl; settings = (applier_sure c i h k p a).state; figures = refl; sound = w })

    -- what the call comes to where the first three tests pass
    module _ {r : ℕ} {d : Controller} {next : Applied} {out : List Float} (e : r ≡ refusal (is_shape channels samples (length frame)) (passes c) (accepted i) true) (z : r ≡ done)
        (same : d ≡ decided c i) (n : next ≡ (Applier.applied d.applier frame channels samples).next) (o : out ≡ (Applier.applied d.applier frame channels samples).frame) where
      next_is : next ≡ put.next
      next_is = n ∙ ap (λ (b : Controller). (Applier.applied b.applier frame channels samples).next) same

      out_is : out ≡ put.frame
      out_is = o ∙ ap (λ (b : Controller). (Applier.applied b.applier frame channels samples).frame) same

      reply : frame_refusal frame channels samples true (passes c) (accepted i) largest_input ≡ next.reply
      reply =
          let t = none_refused (is_shape channels samples (length frame)) (passes c) (accepted i) true (sym e ∙ z) in
          reply_is t.1 t.2 ∙ ap (λ (b : Applied). b.reply) (sym next_is)

      -- Where the applier does not refuse, the state is the one that was decided on, with the applier's own in it, and the frame is the applier's.
      pub accepted_late : next.reply ≡ done → processed c i frame channels samples ≡ record { next = record { reply = done; controller = with_applier d next.applier }; frame = out }
      unfolding processed Applier.applied
      accepted_late k = rw (reply, k) (shape (decided c i) put.next put.frame (sym same) (sym next_is) (sym out_is))
        where
          shape : (b : Controller) (m : Applied) (f : List Float) → b ≡ d → m ≡ next → f ≡ out
              → ◌≡◌ {A = Processed} (record { next = record { reply = done; controller = with_applier b m.applier }; frame = f }) (record { next = record { reply = done; controller = with_applier d next.applier }; frame = out })
          shape b m f p q r = rw (p, q, r)

      -- Where it refuses, so does the controller, and all stays as it was.
      pub refused_late : (next.reply ≢ done) → processed c i frame channels samples ≡ record { next = record { reply = next.reply; controller = c }; frame = out }
      unfolding processed Applier.applied
      refused_late k = rw (reply, ne_eqb next.reply done k) (ap (λ (f : List Float). record { next = record { reply = next.reply; controller = c }; frame = f }) (sym frame_same))
        where
          own : frame_refusal frame channels samples true (Applier.passes (decided c i).applier) true largest_input ≡ next.reply
          own = ap (λ (b : Applied). b.reply) (sym next_is)

          frame_same : out ≡ frame
          frame_same = out_is ∙ rw (own, ne_eqb next.reply done k)

    module _ (ok : (processed c i frame channels samples).next.reply ≡ done) where
      fine : Taken frame channels samples true (passes c) (accepted i) largest_input
      unfolding processed
      fine = taken frame channels samples true (passes c) (accepted i) largest_input ok

      put_done : put.next.reply ≡ done
      put_done = applier_never_refuses fine.shape fine.settings fine.figures fine.sound

      -- the state and the frame that come out
      state_is : (processed c i frame channels samples).next.controller ≡ with_applier (decided c i) put.next.applier
      unfolding processed
      state_is = rw ok

      frame_is : (processed c i frame channels samples).frame ≡ put.frame
      unfolding processed
      frame_is = rw ok

      arrived_sure : Sure put.next.applier
      unfolding Applier.applied Applier.arrived
      arrived_sure =
          let s = applier_sure c i h k fine.settings fine.figures in
          rw put_done
          (record {
            last = s.current;
            current = s.current;
            state = arrived_passes (decided c i).applier samples s.state (samples_pass channels samples (length frame) fine.shape);
            small = s.next;
            next = s.next;
          })

      -- After a frame that is not refused the state passes, and its floats are f32.
      pub processed_ready : Ready (processed c i frame channels samples).next.controller
      processed_ready = subst Ready (sym state_is) (decided_ready c i h k fine.settings fine.figures put.next.applier arrived_sure)

      -- After a frame that is not refused the state passes.
      pub processed_passes : passes (processed c i frame channels samples).next.controller ≡ true
      processed_passes = processed_ready.state

      -- Where a frame is still to come after it, the gain is not above the gain before it.
      pub never_rises_while_waiting : 0 < (processed c i frame channels samples).next.controller.waiting → le (processed c i frame channels samples).next.controller.gain c.gain ≡ true
      unfolding with_applier
      never_rises_while_waiting w =
          ap (λ (z : Controller). le z.gain c.gain) state_is
          ∙ gain_waits c i h k fine.settings fine.figures (subst (λ (z : Controller). 0 < z.waiting) state_is w)

      -- What a controller hands on is within 33554432.
      pub handed_on : Held frame → all_within largest_level (processed c i frame channels samples).frame ≡ true
      handed_on sound =
          let s = applier_sure c i h k fine.settings fine.figures in
          ap (all_within largest_level) frame_is
          ∙ applied_within (decided c i).applier frame channels samples sound s.last s.current put_done s.small s.next
