-- What each call of the controller answers, refusals first. Definitions only.
use Rattle.std.specs.Prelude.{ℕ, true, cond, ◌&&◌, List, ◌==◌, Float}
use Rattle.units.specs.Replies.{done, refusal}
use Rattle.units.specs.Settings as Settings
use Rattle.units.specs.declared.settings.Settings.{Settings as Set}
use Rattle.frames.specs.Samples.{largest_input}
use Rattle.frames.specs.Refusal.{frame_refusal}
use Rattle.gain_applier.specs.Applier as Applier
use Rattle.gain_applier.specs.declared.Applier.{Applier as Gain}
use Rattle.adaptive_digital_gain_controller.specs.Controller.{accepted, passes, nothing, fresh, decided, interrupted}
use Rattle.adaptive_digital_gain_controller.specs.declared.Info.{Info}
use Rattle.adaptive_digital_gain_controller.specs.declared.Controller.{Controller}

-- a reply, and the controller that goes on from there: the one that came in where it is refused, and all 0 and false where it is a new one
pub record Next : Type 0 where
  pub reply : ℕ
  pub controller : Controller

-- a new controller: 4 where a setting or the threshold is out of range
unfoldable pub made : Set → ℕ → Next
unfolding refusal Settings.accepted fresh nothing
made s t =
    let ok = Settings.accepted s && Settings.threshold t in
    record { reply = refusal true ok true true; controller = cond ok (fresh s t) nothing }

-- the controller with another applier
unfoldable pub with_applier : Controller → Gain → Controller
with_applier c a =
    record { applier = a; settings = c.settings; threshold = c.threshold; change = c.change; waiting = c.waiting; gain = c.gain }

-- a call over a lent frame: what it answers, and the frame as it leaves it
pub record Processed : Type 0 where
  pub next : Next
  pub frame : List Float

-- a frame: the order is 1, 4, 2, 3, and a refused frame changes nothing
unfoldable pub processed : Controller → Info → List Float → ℕ → ℕ → Processed
unfolding frame_refusal passes accepted decided Applier.applied with_applier
processed c i frame channels samples =
    let reply = frame_refusal frame channels samples true (passes c) (accepted i) largest_input in
    let put = Applier.applied (decided c i).applier frame channels samples in
    record {
      next = record { reply = reply; controller = cond (reply == done) (with_applier (decided c i) put.next.applier) c };
      frame = cond (reply == done) put.frame frame;
    }

-- a gap: it has neither figures nor sound, so it is refused for the state alone
unfoldable pub gap : Controller → Next
unfolding refusal passes interrupted
gap c = record { reply = refusal true (passes c) true true; controller = cond (passes c) (interrupted c) c }
