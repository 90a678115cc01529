-- A gap: all frames are to come again before the gain may rise, and nothing else moves. Laws.
-- Assumes nothing.
use Rattle.std.specs.Prelude.{◌≡◌, ℕ, true}
use Rattle.std.proofs.Common.{arith, le-leb}
use Rattle.units.specs.Replies.{done}
use Rattle.adaptive_digital_gain_controller.specs.Calls.{gap}
use Rattle.adaptive_digital_gain_controller.specs.Controller.{passes, interrupted}
use Rattle.adaptive_digital_gain_controller.specs.Range.{Ready}
use Rattle.adaptive_digital_gain_controller.specs.Laws.States.{passed_all, passing}
use Rattle.adaptive_digital_gain_controller.specs.declared.Controller.{Controller}

-- the controller with another waiting count, and all else as it was
unfoldable pub with_waiting : Controller → ℕ → Controller
with_waiting c n =
    record { applier = c.applier; settings = c.settings; threshold = c.threshold; change = c.change; waiting = n; gain = c.gain }

-- "sets the controller's waiting count back to T .. and moves no gain": of a controller that passes that is all that a gap does.
pub gap_waits : (c : Controller) → passes c ≡ true → gap c ≡ record { reply = done; controller = with_waiting c c.threshold }
unfolding gap interrupted with_waiting
gap_waits c h = rw h

-- A controller that passes, passes after a gap, and its floats are f32.
pub interrupted_ready : (c : Controller) → Ready c → Ready (interrupted c)
unfolding interrupted
interrupted_ready c r =
    let p = passed_all c r.state in
    let h = r.held in
    record {
      held = record { settings = h.settings; change = h.change; gain = h.gain; last = h.last; current = h.current };
      state =
          passing (interrupted c)
          (record {
            settings = p.settings;
            threshold = p.threshold;
            change = p.change;
            waiting = le-leb c.threshold c.threshold (omega arith);
            gain = p.gain;
            applier = p.applier;
            last = p.last;
            current = p.current;
          });
    }
