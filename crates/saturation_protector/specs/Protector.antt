-- The protector's state, its test, and what a frame does to it. Definitions only.
use Rattle.std.specs.Prelude.{Bool, ◌&&◌, cond, ℕ, leb, eqb, Float}
use Rattle.std.specs.Float.{binary32}
use Rattle.std.specs.Float.Ieee.{of_bits}
use Rattle.units.specs.Figures.{headroom}
use Rattle.units.specs.Settings.{threshold}
use Rattle.runs.specs.Runs.{Run, speech, closed, framed, published}
use Rattle.saturation_protector.specs.Peaks as Peaks
use Rattle.saturation_protector.specs.declared.Peaks.{Peaks as State}
use Rattle.saturation_protector.specs.declared.Protector.{Protector}

-- the two states and the run, as `runs` has them
abbrev pub run : Protector → Run State
run s = record { preliminary = s.preliminary; reliable = s.reliable; count = s.count }

-- the capacity of the ring of the preliminary state, and of the reliable one
abbrev pub capacities : Protector → ℕ × ℕ
capacities s = (s.preliminary.ring.capacity, s.reliable.ring.capacity)

-- "A state passes when its settings and figures lie in their ranges; .. run .. counts 0 to T", both states pass, and "Both states always have the same size"
unfoldable pub passes : Protector → Bool
unfolding Peaks.passes
passes s =
    headroom s.initial
    && threshold s.threshold
    && leb s.count s.threshold
    && headroom s.headroom
    && Peaks.passes s.preliminary
    && Peaks.passes s.reliable
    && eqb s.preliminary.ring.capacity s.reliable.ring.capacity

-- all fields 0
unfoldable pub nothing : Protector
unfolding Peaks.none
nothing =
    record {
      initial = of_bits binary32 0x0000_0000;
      threshold = 0;
      count = 0;
      headroom = of_bits binary32 0x0000_0000;
      preliminary = Peaks.none;
      reliable = Peaks.none;
    }

-- at the start: the initial headroom is published, and both rings have the capacity that is given
unfoldable pub fresh : Float → ℕ → ℕ → Protector
unfolding Peaks.starting
fresh initial t capacity =
    record {
      initial = initial;
      threshold = t;
      count = 0;
      headroom = initial;
      preliminary = Peaks.starting initial capacity;
      reliable = Peaks.starting initial capacity;
    }

-- after a reset
unfoldable pub again : Protector → Protector
unfolding Peaks.restarted
again s =
    record {
      initial = s.initial;
      threshold = s.threshold;
      count = 0;
      headroom = s.initial;
      preliminary = Peaks.restarted s.initial s.preliminary;
      reliable = Peaks.restarted s.initial s.reliable;
    }

-- a frame of this probability and this peak, beside this level of the speech
unfoldable pub analyzed : Protector → Float → Float → Float → Protector
unfolding framed published Peaks.advanced
analyzed s p peak speech_level =
    let next = framed (speech p) (Peaks.advanced peak speech_level) s.threshold (run s) in
    record {
      initial = s.initial;
      threshold = s.threshold;
      count = next.count;
      headroom = cond (published (speech p) s.threshold s.count) next.preliminary.headroom s.headroom;
      preliminary = next.preliminary;
      reliable = next.reliable;
    }

-- a gap: "It ends the run as a non-speech frame does"; nothing is heard in it, and the published headroom stays
unfoldable pub interrupted : Protector → Protector
unfolding closed
interrupted s =
    let ended = closed s.threshold (run s) in
    record {
      initial = s.initial;
      threshold = s.threshold;
      count = ended.count;
      headroom = s.headroom;
      preliminary = ended.preliminary;
      reliable = ended.reliable;
    }
