-- The strip's head, its records and the whole of it: one description of each, from which reading and writing follow. Definitions only.
use Rattle.std.specs.Prelude.{Bool, true, false, cond, List, [], ◌∷◌, ◌++◌, ℕ, ◌-◌, eqb, get_or}
use Rattle.bits.specs.Floats.{float_of, pattern_of}
use Rattle.units.specs.Settings.{largest_threshold, unset}
use Rattle.units.specs.declared.figures.Figures.{Figures}
use Rattle.strip_format.specs.Fields.{size, number_at, written}
use Rattle.strip_format.specs.declared.Version.{Version}
use Rattle.strip_format.specs.declared.Version.TheVariants.{One, Two}
use Rattle.strip_format.specs.declared.Head.{Head}

-- ---- the versions
-- the number that says it
abbrev pub number_of : Version → ℕ
number_of One = 1
number_of Two = 2

-- "T (1 byte)"; "T in two bytes"
abbrev pub threshold_bytes : Version → ℕ
threshold_bytes One = 1
threshold_bytes Two = 2

-- the largest threshold that it can say: "Version 1 strips are still read, with T to 200 as before"; version 2 says all that a chain takes
abbrev pub largest_said : Version → ℕ
largest_said One = 200
largest_said Two = largest_threshold

-- "In a version 2 strip a record of length 0 is a gap"; in version 1 it is refused
abbrev pub has_gaps : Version → Bool
has_gaps One = false
has_gaps Two = true

-- the version that a strip is read in: 2 where its third byte says 2, and otherwise 1, in which any other number than 1 is refused
unfoldable pub version_of : List ℕ → Version
unfolding number_at
version_of strip = cond (eqb (number_at strip 2 1) (number_of Two)) Two One

-- five floats of 4 bytes each: the settings of a head, and the figures of a record
abbrev pub float_fields : List ℕ
float_fields = 4 ∷ 4 ∷ 4 ∷ 4 ∷ 4 ∷ []

-- ---- "Head: 2-byte length 24, version 1, T (1 byte), samples (2), headroom, largest gain, initial gain, change per second, output noise";
-- "Version 2 of the strip has head length 25 and T in two bytes"
abbrev pub head_fields : Version → List ℕ
head_fields v = 2 ∷ 1 ∷ threshold_bytes v ∷ 2 ∷ float_fields

-- the bytes after the length's own two: 24 in version 1, 25 in version 2
abbrev pub head_length : Version → ℕ
head_length v = size (head_fields v) - 2

-- "floats as their bits"
unfoldable pub head_numbers : Head → List ℕ
unfolding pattern_of
head_numbers h =
    head_length h.version
    ∷ number_of h.version
    ∷ h.threshold
    ∷ h.samples
    ∷ pattern_of h.settings.headroom.0
    ∷ pattern_of h.settings.largest.0
    ∷ pattern_of h.settings.initial.0
    ∷ pattern_of h.settings.change
    ∷ pattern_of h.settings.noise.0
    ∷ []

-- what stands for a head that was refused: version 1, and all 0
unfoldable pub no_head : Head
unfolding unset
no_head = record { version = One; threshold = 0; samples = 0; settings = unset }

-- the head of its numbers, after the length and the version; the bits of a NaN give the NaN, which no setting takes
unfoldable pub head_of : Version → List ℕ → Head
unfolding float_of
head_of v ns =
    record {
      version = v;
      threshold = get_or ns 2 0;
      samples = get_or ns 3 0;
      settings =
          record {
            headroom = record { 0 = float_of (get_or ns 4 0) };
            largest = record { 0 = float_of (get_or ns 5 0) };
            initial = record { 0 = float_of (get_or ns 6 0) };
            change = float_of (get_or ns 7 0);
            noise = record { 0 = float_of (get_or ns 8 0) };
          };
    }

-- the same head in another version
unfoldable pub in_version : Version → Head → Head
in_version v h = record { version = v; threshold = h.threshold; samples = h.samples; settings = h.settings }

-- ---- "Records: 2-byte length 20, then probability, rms, peak, noise, envelope"
abbrev pub record_fields : List ℕ
record_fields = 2 ∷ float_fields

abbrev pub record_length : ℕ
record_length = size record_fields - 2

unfoldable pub record_numbers : Figures → List ℕ
unfolding pattern_of
record_numbers f =
    record_length
    ∷ pattern_of f.probability
    ∷ pattern_of f.rms.0
    ∷ pattern_of f.peak.0
    ∷ pattern_of f.noise.0
    ∷ pattern_of f.envelope.0
    ∷ []

-- the figures of a record's numbers, after the length
unfoldable pub figures_of : List ℕ → Figures
unfolding float_of
figures_of ns =
    record {
      probability = float_of (get_or ns 1 0);
      rms = record { 0 = float_of (get_or ns 2 0) };
      peak = record { 0 = float_of (get_or ns 3 0) };
      noise = record { 0 = float_of (get_or ns 4 0) };
      envelope = record { 0 = float_of (get_or ns 5 0) };
    }

-- ---- what a record says: the figures of a frame; or, where the version has them, a gap, whose length is 0
pub data Entry : Type 0 where
  figures : Figures → Entry
  gap : Entry

abbrev pub gap_fields : List ℕ
gap_fields = 2 ∷ []

abbrev pub gap_length : ℕ
gap_length = size gap_fields - 2

-- how many bytes it takes
abbrev pub entry_size : Entry → ℕ
entry_size (figures f) = size record_fields
entry_size gap = size gap_fields

-- ---- the bytes of each
unfoldable pub head_bytes : Head → List ℕ
unfolding written head_numbers
head_bytes h = written (head_fields h.version) (head_numbers h)

unfoldable pub record_bytes : Figures → List ℕ
unfolding written record_numbers
record_bytes f = written record_fields (record_numbers f)

unfoldable pub entry_bytes : Entry → List ℕ
unfolding record_bytes written
entry_bytes (figures f) = record_bytes f
entry_bytes gap = written gap_fields (gap_length ∷ [])

unfoldable pub entries_bytes : List Entry → List ℕ
unfolding entry_bytes
entries_bytes [] = []
entries_bytes (e ∷ es) = entry_bytes e ++ entries_bytes es

-- a whole strip: its head, and its records one after the other
unfoldable pub strip_bytes : Head → List Entry → List ℕ
unfolding head_bytes entries_bytes
strip_bytes h es = head_bytes h ++ entries_bytes es
