-- `adaptive_digital_gain_controller::Controller::process` meets its contract: the first three tests decide, or the applier inside does, which passes wherever the state does.
-- Assumes nothing.
use Rattle.std.proofs.Common.{◌≡◌, ℕ, Bool, true, List, length, sym, ap, ◌∙◌, refl, rules, Ok, Err}
use Rattle.std.specs.Prelude.{Result}
use Rattle.std.specs.Result.{IsErrAnd}
use lib.Ieee.{Float}
use Rattle.units.specs.Replies.{done, refusal}
use Rattle.units.specs.Handed.{handed}
use Rattle.units.specs.Laws.Handed.{refused_by, passed_done, handed_ok, handed_done}
use Rattle.units.specs.declared.refusals.Refusal.{Refusal}
use Rattle.frames.specs.Shape.{is_shape}
use Rattle.gain_applier.specs.Applier as Applier
use Rattle.gain_applier.specs.declared.Applier.{Applier as Gain}
use Rattle.adaptive_digital_gain_controller.specs.Controller.{accepted, passes, decided}
use Rattle.adaptive_digital_gain_controller.specs.Calls.{with_applier, Processed, processed}
use Rattle.adaptive_digital_gain_controller.specs.Range.{HeldInfo, HeldState}
use Rattle.adaptive_digital_gain_controller.specs.Laws.Calls.{refused_early, accepted_late, refused_late}
use Rattle.adaptive_digital_gain_controller.specs.declared.Info.{Info}
use Rattle.adaptive_digital_gain_controller.specs.declared.Controller.{Controller}
use Rattle.adaptive_digital_gain_controller.proofs.Controller.process.Goals as goal

-- what is refused with a number is not done
refused : {A : Type 0} (e : Refusal) (reply : ℕ) (made : A) → Err e ≡ handed reply made → reply ≡ done → ⊥
refused e reply made h d = let clash = h ∙ handed_done reply made d in cc

-- the answer and the frame, as the definition has them
abbrev Met : Processed → Result Controller Refusal → List Float → Type 0
Met p r out = (r ≡ handed p.next.reply p.next.controller) × (out ≡ p.frame)

met : (p : Processed) (reply : ℕ) (c : Controller) (r : Result Controller Refusal) (out : List Float)
    → p ≡ record { next = record { reply = reply; controller = c }; frame = out } → r ≡ handed reply c → Met p r out
met p reply c r out e h = rw e (h, refl)

-- the answer, with what the calls gave
module _ (c : Controller) (i : Info) (frame : List Float) (channels samples : ℕ) (shape ok figures : Bool)
    (s : shape ≡ is_shape channels samples (length frame)) (p : ok ≡ passes c) (f : figures ≡ accepted i) where
  abbrev reply : ℕ
  reply = refusal shape ok figures true

  told : reply ≡ refusal (is_shape channels samples (length frame)) (passes c) (accepted i) true
  told = rw (s, p, f)

  early : (e : Refusal) (r : Result Controller Refusal) → IsErrAnd r (λ d. d ≡ e) → ◌≡◌ {A = Result Unit Refusal} (Err e) (handed reply tt)
      → Met (processed c i frame channels samples) r frame
  early e r out h =
      met _ reply c r frame (refused_early c i frame channels samples told (refused e reply tt h)) (refused_by r e reply tt c out h)

  module _ (h : ◌≡◌ {A = Result Unit Refusal} (Ok tt) (handed reply tt)) (state : HeldState c) (info : HeldInfo i) (d : Controller) (same : d ≡ decided c i) (out : List Float)
      (o : out ≡ (Applier.applied d.applier frame channels samples).frame) where
    abbrev put : Applier.Next
    put = (Applier.applied d.applier frame channels samples).next

    late : (e : Refusal) (r : Result Controller Refusal) → IsErrAnd r (λ d. d ≡ e) → Err e ≡ handed put.reply put.applier
        → Met (processed c i frame channels samples) r out
    late e r k g =
        met _ put.reply c r out (refused_late c i frame channels samples state info told (passed_done reply tt tt h) same refl o (refused e put.reply put.applier g))
        (refused_by r e put.reply put.applier c k g)

    takes : (applier : Gain) → Ok applier ≡ handed put.reply put.applier
        → Met (processed c i frame channels samples) (Ok (with_applier d applier)) out
    takes applier g =
        let both = handed_ok put.reply put.applier applier (sym g) in
        met _ done (with_applier d applier) _ out
        (accepted_late c i frame channels samples state info told (passed_done reply tt tt h) same refl o both.0
        ∙ ap (λ (a : Gain). record { next = record { reply = done; controller = with_applier d a }; frame = out }) both.1)
        (sym (handed_done done (with_applier d applier) refl))

pub returns-in_err-check : goal.returns-in_err-check
returns-in_err-check c =
    let a = c.args in
    let both = early a.self a.info a.frame.now a.channels a.samples _ _ _ c.is_shape-shape.ensures c.passes-ok.ensures c.accepted-figures.ensures c.in_err-check.field-0.0 c.from_residual.result c.from_residual.ensures.1 c.in_err-check.ensures in
    record { value = both.0; frame_after = both.1 }

pub returns-in_err-applier : goal.returns-in_err-applier
returns-in_err-applier c =
    let a = c.args in
    -- the floats of what comes in are f32
    let state : HeldState a.self =
    record {
      settings = record { headroom = search rules; largest = search rules; initial = search rules; change = search rules; noise = search rules };
      change = search rules;
      gain = search rules;
      last = search rules;
      current = search rules;
    } in
    let info : HeldInfo a.info = record { level = search rules; noise = search rules; headroom = search rules; envelope = search rules } in
    let both =
    late a.self a.info a.frame.now a.channels a.samples _ _ _ c.is_shape-shape.ensures c.passes-ok.ensures c.accepted-figures.ensures c.in_ok-check.ensures state info _ c.decided-next.ensures _ c.apply_gain.ensures.frame_after
    c.in_err-applier.field-0.0 c.from_residual-in_err-applier.result c.from_residual-in_err-applier.ensures.1 c.in_err-applier.ensures.value in
    record { value = both.0; frame_after = both.1 }

pub returns : goal.returns
unfolding with_applier
returns c =
    let a = c.args in
    -- the floats of what comes in are f32
    let state : HeldState a.self =
    record {
      settings = record { headroom = search rules; largest = search rules; initial = search rules; change = search rules; noise = search rules };
      change = search rules;
      gain = search rules;
      last = search rules;
      current = search rules;
    } in
    let info : HeldInfo a.info = record { level = search rules; noise = search rules; headroom = search rules; envelope = search rules } in
    let both =
    takes a.self a.info a.frame.now a.channels a.samples _ _ _ c.is_shape-shape.ensures c.passes-ok.ensures c.accepted-figures.ensures c.in_ok-check.ensures state info _ c.decided-next.ensures _ c.apply_gain.ensures.frame_after
    _ c.in_ok-applier.ensures.value in
    record { value = both.0; frame_after = both.1 }
