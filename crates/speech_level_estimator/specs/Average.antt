-- The weighted average of levels. Definitions only.
use Rattle.std.specs.Prelude.{ℕ, ◌-◌, ◌*◌, ◌%◌, Bool, cond, ◌&&◌, pos, ◌==◌, from_bits, nat_le, Float}
use Rattle.std.specs.Float.{binary32}
use Rattle.std.specs.Float.Ieee.{of_int, add, mul, div}
use Rattle.std.specs.Float.Ieee.Scale.{finite}
use Rattle.rounding.specs.Units.{size}
use Rattle.floats.specs.Choice.{clamp}
use Rattle.units.specs.Ranges.{closed}
use Rattle.speech_level_estimator.specs.declared.Average.{Average}

-- "time to confidence 400 ms", and a frame takes 10 of them
abbrev pub all_left : ℕ
all_left = 400

abbrev pub frame_time : ℕ
frame_time = 10

-- "leak 1 - 1/400", in f32
abbrev pub leak_factor : Float
leak_factor = from_bits binary32 0x3f7f_5c29

-- "Starts at the [starting level], weight 1, 400 ms left."
unfoldable pub starting : Float → Average
starting initial = record { left = all_left; sum = initial; weight = from_bits binary32 0x3f80_0000 }

-- all fields 0
unfoldable pub none : Average
none = record { left = 0; sum = from_bits binary32 0x0000_0000; weight = from_bits binary32 0x0000_0000 }

-- "times 0 to 400 in tens"
abbrev pub time : ℕ → Bool
time left = nat_le left all_left && left % 10 == 0

-- "weight from 1 to 450 less the time left"
abbrev pub weighs : Float → ℕ → Bool
weighs weight left = closed (from_bits binary32 0x3f80_0000) weight (of_int binary32 (pos (450 - left)))

-- "the sum's magnitude at most exactly 151 times the weight": in whole units of 2 ^ -149, of which each f32 is a whole number
abbrev pub sums : Float → Float → Bool
sums sum weight = finite sum && nat_le (size sum) (151 * size weight)

unfoldable pub passes : Average → Bool
passes a = time a.left && weighs a.weight a.left && sums a.sum a.weight

-- "with leak 1; with none left at its start the leak is 1 - 1/400"
abbrev pub leak : ℕ → Float
leak left = cond (left == 0) leak_factor (from_bits binary32 0x3f80_0000)

-- "A speech frame takes 10 ms off while time is left .. Sum becomes sum*leak + rms*p, weight weight*leak + p"
unfoldable pub advanced : Float → Float → Average → Average
advanced rms p a =
    record {
      left = a.left - frame_time;
      sum = add binary32 (mul binary32 a.sum (leak a.left)) (mul binary32 rms p);
      weight = add binary32 (mul binary32 a.weight (leak a.left)) p;
    }

-- the ends of a level: -90 and 30
abbrev pub clamp_level : Float → Float
clamp_level x = clamp x (from_bits binary32 0xc2b4_0000) (from_bits binary32 0x41f0_0000)

-- "the level is sum/weight, clamped"
unfoldable pub level : Average → Float
level a = clamp_level (div binary32 a.sum a.weight)
