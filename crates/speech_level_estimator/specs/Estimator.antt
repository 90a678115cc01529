-- The estimator's state, its test, and what a frame does to it. Definitions only.
use Rattle.std.specs.Prelude.{ℕ, Bool, false, cond, ◌&&◌, ◌||◌, ◌==◌, from_bits, nat_le, Float}
use Rattle.std.specs.Float.{binary32}
use Rattle.std.specs.Float.Ieee.{sub, eq}
use Rattle.units.specs.Ranges.{closed}
use Rattle.units.specs.Settings.{accepted, threshold, unset}
use Rattle.units.specs.declared.settings.Settings.{Settings}
use Rattle.runs.specs.Runs as Runs
use Rattle.runs.specs.Runs.{Run, speech, publishes, framed, published}
use Rattle.speech_level_estimator.specs.Average as Average
use Rattle.speech_level_estimator.specs.declared.Average.{Average as State}
use Rattle.speech_level_estimator.specs.declared.Estimator.{Estimator}

-- "the clamped -20 - initial gain - headroom"
unfoldable pub starting_level : Settings → Float
starting_level s = Average.clamp_level (sub binary32 (sub binary32 (from_bits binary32 0xc1a0_0000) s.initial.0) s.headroom.0)

-- the two states and the run, as `runs` has them
abbrev pub run : Estimator → Run State
run e = record { preliminary = e.preliminary; reliable = e.reliable; count = e.count }

-- "Confidence as `update_is_confident`", by the run's count and the time that is left in each state: with T = 1 the preliminary state alone
-- says it; otherwise the reliable one, or the preliminary one of a run that is long enough
unfoldable pub trusted : ℕ → ℕ → ℕ → ℕ → Bool
trusted t count preliminary reliable = cond (t == 1) (preliminary == 0) (reliable == 0 || (publishes t count && preliminary == 0))

-- "A state passes when its settings and figures lie in their ranges; published level -90 to 30; .. run .. counts 0 to T; .. starting level .. as
-- [its] rule[] give[s] [it]", and both averages pass
unfoldable pub passes : Estimator → Bool
unfolding starting_level Average.passes accepted
passes e =
    accepted e.settings
    && threshold e.threshold
    && eq e.initial (starting_level e.settings)
    && closed (from_bits binary32 0xc2b4_0000) e.level (from_bits binary32 0x41f0_0000)
    && nat_le e.count e.threshold
    && Average.passes e.preliminary
    && Average.passes e.reliable

-- all fields 0 and false
unfoldable pub nothing : Estimator
unfolding unset Average.none
nothing =
    record {
      settings = unset;
      threshold = 0;
      initial = from_bits binary32 0x0000_0000;
      preliminary = Average.none;
      reliable = Average.none;
      level = from_bits binary32 0x0000_0000;
      confident = false;
      count = 0;
    }

-- at the start, and after a reset: both states begin with the starting level, which is published
unfoldable pub fresh : Settings → ℕ → Float → Estimator
unfolding Average.starting
fresh settings t initial =
    record {
      settings = settings;
      threshold = t;
      initial = initial;
      preliminary = Average.starting initial;
      reliable = Average.starting initial;
      level = initial;
      confident = false;
      count = 0;
    }

-- a frame of this rms and this probability, which is also its weight
unfoldable pub updated : Estimator → Float → Float → Estimator
unfolding framed published Average.advanced Average.level trusted
updated e rms p =
    let next = framed (speech p) (Average.advanced rms p) e.threshold (run e) in
    record {
      settings = e.settings;
      threshold = e.threshold;
      initial = e.initial;
      preliminary = next.preliminary;
      reliable = next.reliable;
      level = cond (published (speech p) e.threshold e.count) (Average.level next.preliminary) e.level;
      confident = trusted e.threshold next.count next.preliminary.left next.reliable.left;
      count = next.count;
    }

-- a gap: "It ends the run as a non-speech frame does"; nothing is heard in it, and the published level stays
unfoldable pub interrupted : Estimator → Estimator
unfolding Runs.closed trusted
interrupted e =
    let ended = Runs.closed e.threshold (run e) in
    record {
      settings = e.settings;
      threshold = e.threshold;
      initial = e.initial;
      preliminary = ended.preliminary;
      reliable = ended.reliable;
      level = e.level;
      confident = trusted e.threshold ended.count ended.preliminary.left ended.reliable.left;
      count = ended.count;
    }
