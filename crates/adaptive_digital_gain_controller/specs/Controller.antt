-- The controller's state, its test, and what a frame's figures do to it. Definitions only.
use Rattle.std.specs.Prelude.{ℕ, Bool, false, cond, ◌&&◌, from_bits, nat_eq, nat_le, nat_lt, Float}
use Rattle.std.specs.Float.{binary32}
use Rattle.std.specs.Float.Ieee.{add, eq, ne, le}
use Rattle.units.specs.Figures.{probability, level, headroom, envelope, gain}
use Rattle.units.specs.Settings as Settings
use Rattle.units.specs.declared.settings.Settings.{Settings as Set}
use Rattle.runs.specs.Runs.{speech}
use Rattle.decibels.specs.Ratio.{answer}
use Rattle.gain_applier.specs.Applier as Applier
use Rattle.gain_applier.specs.declared.Applier.{Applier as Gain}
use Rattle.adaptive_digital_gain_controller.specs.Target.{target}
use Rattle.adaptive_digital_gain_controller.specs.Change.{per_frame, waits, increase, changed}
use Rattle.adaptive_digital_gain_controller.specs.declared.Info.{Info}
use Rattle.adaptive_digital_gain_controller.specs.declared.Controller.{Controller}

-- a frame's figures are in their ranges
unfoldable pub accepted : Info → Bool
accepted i = probability i.probability && level i.level.0 && level i.noise.0 && headroom i.headroom.0 && envelope i.envelope.0

-- "a controller's factors to 355"
abbrev pub largest : Float
largest = from_bits binary32 0x43b1_8000

-- "A state passes when its settings and figures lie in their ranges; .. waiting counts 0 to T; .. gain 0 to 51 dB, a controller's factors to 355;
-- .. change per frame .. as [its] rule[] give[s] [it]", and its applier passes
unfoldable pub passes : Controller → Bool
unfolding Settings.accepted per_frame Applier.passes
passes c =
    Settings.accepted c.settings
    && Settings.threshold c.threshold
    && eq c.change (per_frame c.settings.change)
    && nat_le c.waiting c.threshold
    && gain c.gain
    && Applier.passes c.applier
    && le c.applier.last largest
    && le c.applier.current largest

-- all fields 0 and false
unfoldable pub nothing : Controller
unfolding Applier.none Settings.unset
nothing =
    record {
      applier = Applier.none;
      settings = Settings.unset;
      threshold = 0;
      change = from_bits binary32 0x0000_0000;
      waiting = 0;
      gain = from_bits binary32 0x0000_0000;
    }

-- at the start: the applier at the ratio of the initial gain, without clipping, and all frames still to come
unfoldable pub fresh : Set → ℕ → Controller
unfolding Applier.made answer per_frame
fresh s t =
    record {
      applier = (Applier.made false (answer s.initial.0).ratio).applier;
      settings = s;
      threshold = t;
      change = per_frame s.change;
      waiting = t;
      gain = s.initial.0;
    }

-- where the gain changed, the applier is to end the frame with its ratio
unfoldable pub aimed : Gain → Float → Float → Gain
unfolding Applier.aimed answer
aimed applier change gain = cond (ne change (from_bits binary32 0x0000_0000)) (Applier.aimed applier (answer gain).ratio).applier applier

-- "As `process_channels`", before the frame is scaled: the gain may rise once no frame is still to come
unfoldable pub decided : Controller → Info → Controller
unfolding waits increase target changed aimed
decided c i =
    let waiting = waits (speech i.probability) c.threshold c.waiting in
    let allowed = nat_eq waiting 0 in
    let rise = increase (allowed && nat_lt 0 c.waiting) c.threshold c.change in
    let change = changed (target c.settings c.gain i) c.gain allowed c.change rise in
    let gain = add binary32 c.gain change in
    record {
      applier = aimed c.applier change gain;
      settings = c.settings;
      threshold = c.threshold;
      change = c.change;
      waiting = waiting;
      gain = gain;
    }

-- a gap: it "sets the controller's waiting count back to T .. and moves no gain"
unfoldable pub interrupted : Controller → Controller
interrupted c =
    record {
      applier = c.applier;
      settings = c.settings;
      threshold = c.threshold;
      change = c.change;
      waiting = c.threshold;
      gain = c.gain;
    }
