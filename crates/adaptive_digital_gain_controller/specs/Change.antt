-- By how many dB the gain changes in a frame. Definitions only.
use Rattle.std.specs.Prelude.{ℕ, ◌-◌, Bool, cond, pos, from_bits, Float}
use Rattle.std.specs.Float.{binary32}
use Rattle.std.specs.Float.Ieee.{of_int, sub, mul, div, neg}
use Rattle.floats.specs.Choice.{smaller, clamp}

-- the change of a frame of 10 ms, of that of a second: times 10, by 1000, each operation rounded
unfoldable pub per_frame : Float → Float
per_frame change = div binary32 (mul binary32 change (from_bits binary32 0x4120_0000)) (from_bits binary32 0x447a_0000)

-- "an increase only after T adjacent speech frames": how many are still to come after a frame
unfoldable pub waits : Bool → ℕ → ℕ → ℕ
waits speech t waiting = cond speech (waiting - 1) t

-- "the first of them up to T times larger"
unfoldable pub increase : Bool → ℕ → Float → Float
increase first t change = cond first (mul binary32 change (of_int binary32 (pos t))) change

-- the Rust's compute_gain_change_this_frame_db
unfoldable pub changed : Float → Float → Bool → Float → Float → Float
unfolding smaller clamp
changed target gain allowed most rise =
    clamp (cond allowed (sub binary32 target gain) (smaller (sub binary32 target gain) (from_bits binary32 0x0000_0000))) (neg most) rise
