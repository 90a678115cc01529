-- The gain in dB that a frame asks for. Definitions only.
use Rattle.std.specs.Prelude.{Bool, cond, ◌||◌, from_bits, Float}
use Rattle.std.specs.Float.{binary32}
use Rattle.std.specs.Float.Ieee.{add, sub, neg, lt, le}
use Rattle.floats.specs.Choice.{larger, smaller}
use Rattle.units.specs.declared.settings.Settings.{Settings}
use Rattle.adaptive_digital_gain_controller.specs.declared.Info.{Info}

-- the Rust's compute_gain_db: the largest gain for a very low level, what brings the level to the headroom below full scale, and 0 for a level above that
unfoldable pub wanted : Float → Float → Float → Float
wanted level headroom largest =
    cond (lt level (neg (add binary32 headroom largest)))
    largest
    (cond (lt level (neg headroom)) (sub binary32 (neg headroom) level) (from_bits binary32 0x0000_0000))

-- the Rust's limit_gain_by_noise
unfoldable pub under_noise : Float → Float → Float → Float
unfolding smaller larger
under_noise gain noise loudest = smaller gain (larger (sub binary32 loudest noise) (from_bits binary32 0x0000_0000))

-- "gain threshold -1 dBFS"
abbrev pub loud : Float
loud = from_bits binary32 0xbf80_0000

-- the Rust's limit_gain_by_low_confidence
unfoldable pub under_envelope : Float → Float → Float → Bool → Float
unfolding smaller larger
under_envelope gain last envelope reliable =
    cond (reliable || le envelope loud)
    gain
    (smaller (larger (sub binary32 loud (sub binary32 envelope last)) (from_bits binary32 0x0000_0000)) gain)

-- by level, then by noise, then by low confidence, from the gain of the last frame
unfoldable pub target : Settings → Float → Info → Float
unfolding wanted under_noise under_envelope
target s last i =
    under_envelope
    (under_noise (wanted (add binary32 i.level.0 i.headroom.0) s.headroom.0 s.largest.0) i.noise.0 s.noise.0)
    last
    i.envelope.0
    i.reliable
