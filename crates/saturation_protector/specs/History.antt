-- Frames one after the other, as the promised calls take them. Definitions only.
use Rattle.std.specs.Prelude.{◌≡◌, true, false, List, [], ◌∷◌, Float}
use Rattle.floats.specs.Choice.{larger}
use Rattle.runs.specs.Runs as Runs
use Rattle.runs.specs.Histories.{Frame}
use Rattle.saturation_protector.specs.Peaks as Peaks
use Rattle.saturation_protector.specs.Calls.{figures, stepped}
use Rattle.saturation_protector.specs.declared.Peaks.{Peaks as State}
use Rattle.saturation_protector.specs.declared.Protector.{Protector}

-- what a frame hands in
pub record Figures : Type 0 where
  pub probability : Float
  pub peak : Float
  pub level : Float

-- the figures lie in their ranges: a protector that passes accepts them
abbrev pub InRange : Figures → Type 0
InRange f = figures f.probability f.peak f.level ≡ true

-- a speech frame, and any other
abbrev pub Speech : Figures → Type 0
Speech f = Runs.speech f.probability ≡ true

abbrev pub Other : Figures → Type 0
Other f = Runs.speech f.probability ≡ false

-- the protector after promised calls, whatever each replies
unfoldable pub heard : Protector → List Figures → Protector
unfolding stepped
heard s [] = s
heard s (f ∷ fs) = heard (stepped s f.probability f.peak f.level).protector fs

-- the frames as `runs` meets them
abbrev pub frame : Figures → Frame State
frame f = record { speech = Runs.speech f.probability; advance = Peaks.advanced f.peak f.level }

unfoldable pub frames : List Figures → List (Frame State)
frames [] = []
frames (f ∷ fs) = frame f ∷ frames fs

-- the largest of a peak and those of the frames
unfoldable pub largest_of : Float → List Figures → Float
unfolding larger
largest_of peak [] = peak
largest_of peak (f ∷ fs) = largest_of (larger peak f.peak) fs
