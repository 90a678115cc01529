-- Document 01's starred examples of "Worked on paper", as a table of statements on the definitions that the promises cite. Definitions only.
use Rattle.std.specs.Prelude.{◌≡◌, List, [], ◌∷◌, ◌++◌, ℕ, length, drop, replicate, Float}
use Rattle.std.specs.Float.{binary32}
use Rattle.std.specs.Float.Ieee.{of_bits}
use Rattle.units.specs.Replies.{done}
use Rattle.units.specs.Settings.{usual}
use Rattle.decibels.specs.Ratio.{answer}
use Rattle.saturation_protector_buffer.specs.Ring as Ring
use Rattle.saturation_protector_buffer.specs.Ring.{items}
use Rattle.saturation_protector_buffer.specs.Calls as Rings
use Rattle.saturation_protector_buffer.specs.Calls.{fronted}
use Rattle.saturation_protector_buffer.specs.History.{after_pushes}
use Rattle.saturation_protector.specs.Calls.{made}
use Rattle.saturation_protector.specs.History.{Figures, heard}
use Rattle.interpolated_gain_curve.specs.Gain.{identity, knee, limiter, saturation, piece_of, on_piece}
use Rattle.interpolated_gain_curve.specs.Curve.{fresh, looked}
use Rattle.strip_format.specs.Format.{version_of}
use Rattle.strip_format.specs.Calls.{read_head}
use Rattle.strip_format.specs.declared.Version.{Version}
use Rattle.strip_format.specs.declared.Version.TheVariants.{One, Two}
use Rattle.strip_run.specs.Lines.{lines}

-- a float by its bits
abbrev pub float : ℕ → Float
float n = of_bits binary32 n

pub data Example : Type 0 where
  -- a level on a new curve has this gain and region
  gains : Float → Float → ℕ → Example
  -- a level is on this piece, and on a new curve it has the gain of this piece, and this region
  pieces : Float → ℕ → ℕ → Example
  -- a gain in dB has this ratio
  ratios : Float → Float → Example
  -- after these pushes into a new ring of this capacity the oldest is this one, or there is none
  oldest : ℕ → List Float → List Float → Example
  -- after so many speech frames the ring of a new protector, of this capacity, has so many items
  peaks : ℕ → ℕ → ℕ → Example
  -- these bytes are a head of this version and threshold, so many samples, and the Rust's default settings
  heads : List ℕ → Version → ℕ → ℕ → Example
  -- this strip, with rings of this capacity, gives these lines
  prints : ℕ → List ℕ → List ℕ → Example

-- a frame of speech at a level of -30 dBFS, with a peak of -10
abbrev reading : Figures
reading = record { probability = float 0x3f80_0000; peak = float 0xc120_0000; level = float 0xc1f0_0000 }

-- how an example's answer is told: none has the number 0 and no value, the oldest the number 1 and its peak
abbrev number_of : List Float → ℕ
number_of [] = 0
number_of (x ∷ xs) = 1

-- what an example says
unfoldable pub Holds : Example → Type 0
unfolding looked fresh piece_of on_piece answer fronted after_pushes Rings.made made heard items version_of read_head usual lines
Holds (gains level gain region) =
    ((looked fresh level).reply ≡ done) × ((looked fresh level).gain ≡ gain) × ((looked fresh level).curve.region ≡ region)
-- The gain alone does not tell the piece: at the last knot, 36575.03, pieces 30 and 31 give the same f32.
Holds (pieces level piece region) =
    (piece_of level ≡ piece) × ((looked fresh level).reply ≡ done) × ((looked fresh level).gain ≡ on_piece piece level) × ((looked fresh level).curve.region ≡ region)
Holds (ratios db ratio) = answer db ≡ record { reply = done; ratio = ratio }
Holds (oldest capacity pushes front) =
    fronted (after_pushes (Rings.made capacity).ring pushes) ≡ record { reply = done; front = record { number = number_of front; values = front } }
Holds (peaks capacity frames pushed) =
    length (items (heard (made (float 0x41a0_0000) 2 capacity).protector (replicate frames reading)).preliminary.ring) ≡ pushed
Holds (heads bytes version threshold samples) =
    read_head (version_of bytes) bytes ≡ record { reply = done; head = record { version = version; threshold = threshold; samples = samples; settings = usual } }
Holds (prints capacity strip printed) = lines capacity strip ≡ printed

-- ---- the strip
-- "Head `00 18 01 02 01 E0 40 A0 00 00 42 48 00 00 41 70 00 00 40 C0 00 00 C2 48 00 00`"
unfoldable pub head : List ℕ
head =
    0x00 ∷ 0x18 ∷ 0x01 ∷ 0x02 ∷ 0x01 ∷ 0xe0 ∷ 0x40 ∷ 0xa0 ∷ 0x00 ∷ 0x00 ∷ 0x42 ∷ 0x48 ∷ 0x00 ∷ 0x00 ∷ 0x41 ∷ 0x70 ∷ 0x00 ∷ 0x00 ∷ 0x40 ∷ 0xc0 ∷ 0x00 ∷ 0x00 ∷ 0xc2 ∷ 0x48 ∷ 0x00 ∷ 0x00 ∷ []

-- the same from the samples on, in version 2: "head length 25 and T in two bytes"
unfoldable pub head_in_two : List ℕ
unfolding head
head_in_two = 0x00 ∷ 0x19 ∷ 0x02 ∷ 0x00 ∷ 0x02 ∷ drop 4 head

-- and with a threshold of 3,000
unfoldable pub head_of_3000 : List ℕ
unfolding head
head_of_3000 = 0x00 ∷ 0x19 ∷ 0x02 ∷ 0x0b ∷ 0xb8 ∷ drop 4 head

-- "Five records, noise and envelope -90; probability, rms, peak: (0,-60,-60), (1,-10,-5), (0,-60,-60), (1,-40,0), (1,-40,0)"
unfoldable pub records : List ℕ
records =
    0x00 ∷ 0x14 ∷ 0x00 ∷ 0x00 ∷ 0x00 ∷ 0x00 ∷ 0xc2 ∷ 0x70 ∷ 0x00 ∷ 0x00 ∷ 0xc2 ∷ 0x70 ∷ 0x00 ∷ 0x00 ∷ 0xc2 ∷ 0xb4 ∷ 0x00 ∷ 0x00 ∷ 0xc2 ∷ 0xb4 ∷ 0x00 ∷ 0x00
    ∷ 0x00 ∷ 0x14 ∷ 0x3f ∷ 0x80 ∷ 0x00 ∷ 0x00 ∷ 0xc1 ∷ 0x20 ∷ 0x00 ∷ 0x00 ∷ 0xc0 ∷ 0xa0 ∷ 0x00 ∷ 0x00 ∷ 0xc2 ∷ 0xb4 ∷ 0x00 ∷ 0x00 ∷ 0xc2 ∷ 0xb4 ∷ 0x00 ∷ 0x00
    ∷ 0x00 ∷ 0x14 ∷ 0x00 ∷ 0x00 ∷ 0x00 ∷ 0x00 ∷ 0xc2 ∷ 0x70 ∷ 0x00 ∷ 0x00 ∷ 0xc2 ∷ 0x70 ∷ 0x00 ∷ 0x00 ∷ 0xc2 ∷ 0xb4 ∷ 0x00 ∷ 0x00 ∷ 0xc2 ∷ 0xb4 ∷ 0x00 ∷ 0x00
    ∷ 0x00 ∷ 0x14 ∷ 0x3f ∷ 0x80 ∷ 0x00 ∷ 0x00 ∷ 0xc2 ∷ 0x20 ∷ 0x00 ∷ 0x00 ∷ 0x00 ∷ 0x00 ∷ 0x00 ∷ 0x00 ∷ 0xc2 ∷ 0xb4 ∷ 0x00 ∷ 0x00 ∷ 0xc2 ∷ 0xb4 ∷ 0x00 ∷ 0x00
    ∷ 0x00 ∷ 0x14 ∷ 0x3f ∷ 0x80 ∷ 0x00 ∷ 0x00 ∷ 0xc2 ∷ 0x20 ∷ 0x00 ∷ 0x00 ∷ 0x00 ∷ 0x00 ∷ 0x00 ∷ 0x00 ∷ 0xc2 ∷ 0xb4 ∷ 0x00 ∷ 0x00 ∷ 0xc2 ∷ 0xb4 ∷ 0x00 ∷ 0x00
    ∷ []

-- "Output whole", each line with its newline
unfoldable pub printed : List ℕ
printed =
    49 ∷ 32 ∷ 78 ∷ 32 ∷ 45 ∷ 52 ∷ 48 ∷ 48 ∷ 48 ∷ 32 ∷ 50 ∷ 48 ∷ 48 ∷ 48 ∷ 32 ∷ 49 ∷ 53 ∷ 48 ∷ 48 ∷ 32 ∷ 48 ∷ 10
    ∷ 50 ∷ 32 ∷ 87 ∷ 32 ∷ 45 ∷ 52 ∷ 48 ∷ 48 ∷ 48 ∷ 32 ∷ 50 ∷ 48 ∷ 48 ∷ 48 ∷ 32 ∷ 49 ∷ 53 ∷ 48 ∷ 48 ∷ 32 ∷ 48 ∷ 10
    ∷ 51 ∷ 32 ∷ 78 ∷ 32 ∷ 45 ∷ 52 ∷ 48 ∷ 48 ∷ 48 ∷ 32 ∷ 50 ∷ 48 ∷ 48 ∷ 48 ∷ 32 ∷ 49 ∷ 53 ∷ 48 ∷ 48 ∷ 32 ∷ 48 ∷ 10
    ∷ 52 ∷ 32 ∷ 87 ∷ 32 ∷ 45 ∷ 52 ∷ 48 ∷ 48 ∷ 48 ∷ 32 ∷ 50 ∷ 48 ∷ 48 ∷ 48 ∷ 32 ∷ 49 ∷ 53 ∷ 48 ∷ 48 ∷ 32 ∷ 48 ∷ 10
    ∷ 53 ∷ 32 ∷ 80 ∷ 32 ∷ 45 ∷ 52 ∷ 48 ∷ 48 ∷ 48 ∷ 32 ∷ 50 ∷ 48 ∷ 48 ∷ 52 ∷ 32 ∷ 49 ∷ 52 ∷ 57 ∷ 53 ∷ 32 ∷ 48 ∷ 10
    ∷ []

-- ---- the table
unfoldable pub table : List Example
unfolding head head_in_two head_of_3000 records printed
table =
    -- "Curve 0: gain 1, identity. 30057.297: gain 1, knee. 33724.844: piece 20, limiter. 36575.03: piece 30. 65536: gain 0.5, saturation."
    gains (float 0x0000_0000) (float 0x3f80_0000) identity
    ∷ gains (float 0x46ea_d298) (float 0x3f80_0000) knee
    ∷ pieces (float 0x4703_bcd8) 20 limiter
    ∷ pieces (float 0x470e_df08) 30 limiter
    ∷ gains (float 0x4780_0000) (float 0x3f00_0000) saturation
    -- "Ratio of 0 is 1; 20, 10; 40, 100."
    ∷ ratios (float 0x0000_0000) (float 0x3f80_0000)
    ∷ ratios (float 0x41a0_0000) (float 0x4120_0000)
    ∷ ratios (float 0x4220_0000) (float 0x42c8_0000)
    -- "Push 1 to 5: oldest is 2. Empty ring: none."
    ∷ oldest Ring.usual
    (float 0x3f80_0000 ∷ float 0x4000_0000 ∷ float 0x4040_0000 ∷ float 0x4080_0000 ∷ float 0x40a0_0000 ∷ [])
    (float 0x4000_0000 ∷ [])
    ∷ oldest Ring.usual [] []
    -- in a ring of 1 it is the last, and in one of 16 still the first
    ∷ oldest 1
    (float 0x3f80_0000 ∷ float 0x4000_0000 ∷ float 0x4040_0000 ∷ float 0x4080_0000 ∷ float 0x40a0_0000 ∷ [])
    (float 0x40a0_0000 ∷ [])
    ∷ oldest 16
    (float 0x3f80_0000 ∷ float 0x4000_0000 ∷ float 0x4040_0000 ∷ float 0x4080_0000 ∷ float 0x40a0_0000 ∷ [])
    (float 0x3f80_0000 ∷ [])
    -- "Peaks: 40 speech frames push nothing, the 41st pushes."
    ∷ peaks Ring.usual 40 0
    ∷ peaks Ring.usual 41 1
    -- "T 2, 480 samples, the Rust's default settings"; the five records, and the output
    ∷ heads head One 2 480
    ∷ prints Ring.usual (head ++ records) printed
    -- the same in version 2, and its largest threshold
    ∷ heads head_in_two Two 2 480
    ∷ heads head_of_3000 Two 3000 480
    ∷ prints Ring.usual (head_in_two ++ records) printed
    ∷ []
