-- The headroom and the recent peaks: what a speech frame does to them. Definitions only.
use Rattle.std.specs.Prelude.{Bool, true, ◌&&◌, cond, List, [], ◌∷◌, ℕ, ◌+◌, ◌%◌, leb, ltb, eqb, Float}
use Rattle.std.specs.Float.{binary32}
use Rattle.std.specs.Float.Ieee.{of_bits, add, sub, mul, lt}
use Rattle.floats.specs.Choice.{larger, clamp}
use Rattle.units.specs.Figures.{level, headroom}
use Rattle.saturation_protector_buffer.specs.Ring as Ring
use Rattle.saturation_protector.specs.declared.Peaks.{Peaks}

-- "lowest level -90.31 dBFS": -90.309, from which the largest peak starts
abbrev pub lowest : Float
lowest = of_bits binary32 0xc2b4_9e35

-- a frame takes 10 ms
abbrev pub frame_time : ℕ
frame_time = 10

-- "The largest peak is pushed when elapsed time exceeds 400 ms"
abbrev pub longest : ℕ
longest = 400

-- the Rust's ATTACK and DECAY, and the ends of a headroom that was worked out
abbrev pub attack : Float
attack = of_bits binary32 0x3f7f_b498

abbrev pub decay : Float
decay = of_bits binary32 0x3f7f_f0e9

abbrev pub least : Float
least = of_bits binary32 0x4140_0000

abbrev pub most : Float
most = of_bits binary32 0x41c8_0000

-- all fields 0
unfoldable pub none : Peaks
unfolding Ring.empty
none = record { headroom = of_bits binary32 0x0000_0000; ring = Ring.empty 0; largest = of_bits binary32 0x0000_0000; elapsed = 0 }

-- at the start there is no peak in the ring, whose capacity is given
unfoldable pub starting : Float → ℕ → Peaks
unfolding Ring.empty
starting h capacity = record { headroom = h; ring = Ring.empty capacity; largest = lowest; elapsed = 0 }

-- "a protector's .. ring storage -150 to 50": each of the slots below the ring's capacity, also one that holds no item now
unfoldable pub all_levels : List Float → Bool
all_levels [] = true
all_levels (x ∷ xs) = level x && all_levels xs

-- "times 0 to 400 in tens"
abbrev pub time : ℕ → Bool
time elapsed = leb elapsed longest && eqb (elapsed % 10) 0

-- "a protector's largest peak and ring storage -150 to 50; .. times 0 to 400 in tens", and the ring passes
unfoldable pub passes : Peaks → Bool
unfolding Ring.passes all_levels
passes s = Ring.passes s.ring && headroom s.headroom && all_levels (Ring.slots s.ring) && level s.largest && time s.elapsed

-- a reset, at a headroom; "Reset forgets items, not their storage."
unfoldable pub restarted : Float → Peaks → Peaks
unfolding Ring.reset
restarted h s = record { headroom = h; ring = Ring.reset s.ring; largest = lowest; elapsed = 0 }

-- the oldest item; "with an empty ring [the largest peak] stands for the oldest"
unfoldable pub oldest_or : List Float → Float → Float
oldest_or [] other = other
oldest_or (x ∷ xs) other = x

-- how much of the headroom stays: attack where the difference is larger, decay otherwise
abbrev pub stays : Float → Float → Float
stays h difference = cond (lt h difference) attack decay

-- the headroom moves towards the difference, each operation rounded, and is clamped
unfoldable pub nearer : Float → Float → Float
nearer h difference =
    clamp
    (add binary32 (mul binary32 h (stays h difference)) (mul binary32 difference (sub binary32 (of_bits binary32 0x3f80_0000) (stays h difference))))
    least
    most

-- "As `update_saturation_protector_state`. The largest peak is pushed when elapsed time exceeds 400 ms; with an empty ring it stands for the oldest."
unfoldable pub advanced : Float → Float → Peaks → Peaks
unfolding larger Ring.push Ring.items oldest_or nearer
advanced peak speech_level s =
    let new = larger s.largest peak in
    let due = ltb longest (s.elapsed + frame_time) in
    let ring = cond due (Ring.push s.ring new) s.ring in
    let largest = cond due lowest new in
    record {
      headroom = nearer s.headroom (sub binary32 (oldest_or (Ring.items ring) largest) speech_level);
      ring = ring;
      largest = largest;
      elapsed = cond due 0 (s.elapsed + frame_time);
    }
