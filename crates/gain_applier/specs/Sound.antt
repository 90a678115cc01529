-- Document 01's applier, over lists of samples. Definitions only.
use Rattle.std.specs.Prelude.{ℕ, Bool, cond, ◌&&◌, List, [], ◌∷◌, from_bits, Float}
use Rattle.std.specs.Float.{binary32}
use Rattle.std.specs.Float.Ieee.{add, sub, mul, le, eq}
use Rattle.floats.specs.Choice.{clamp}
use Rattle.frames.specs.Parts.{each_part}

-- "within 1/32767 of 1 (in f32, ends included)"
unfoldable pub close_to_one : Float → Bool
close_to_one gain = le (from_bits binary32 0x3f7f_fe00) gain && le gain (from_bits binary32 0x3f80_0100)

-- "equal gains multiply"
unfoldable pub scaled : Float → List Float → List Float
scaled gain [] = []
scaled gain (x ∷ xs) = mul binary32 x gain ∷ scaled gain xs

-- "else the gain steps"
unfoldable pub ramped : Float → Float → List Float → List Float
ramped gain step [] = []
ramped gain step (x ∷ xs) = mul binary32 x gain ∷ ramped (add binary32 gain step) step xs

-- a sample between -32768 and 32767
unfoldable pub clipped : List Float → List Float
clipped [] = []
clipped (x ∷ xs) = clamp x (from_bits binary32 0xc700_0000) (from_bits binary32 0x46ff_fe00) ∷ clipped xs

-- "by the difference times 1/samples"
unfoldable pub step_of : Float → Float → Float → Float
step_of last current inverse = mul binary32 (sub binary32 current last) inverse

-- "Equal gains within 1/32767 of 1 (in f32, ends included) leave samples; equal gains multiply; else the gain steps by the difference times 1/samples."
unfoldable pub gained : Float → Float → Float → ℕ → ℕ → List Float → List Float
unfolding close_to_one scaled ramped step_of each_part
gained last current inverse channels samples frame =
    cond (eq last current)
    (cond (close_to_one current) frame (each_part (scaled current) channels samples frame))
    (each_part (ramped last (step_of last current inverse)) channels samples frame)

-- "Clipping, if set, follows all three."
unfoldable pub finished : Bool → List Float → List Float
unfolding clipped
finished clip frame = cond clip (clipped frame) frame
