-- Frames one after the other, as an estimator meets them. Definitions only.
use Rattle.std.specs.Prelude.{◌≡◌, true, T, List, [], ◌∷◌, Float}
use Rattle.std.specs.Float.{binary32}
use Rattle.std.specs.Float.Ieee.{fits}
use Rattle.runs.specs.Histories.{Frame}
use Rattle.runs.specs.Runs.{speech}
use Rattle.speech_level_estimator.specs.Average.{advanced}
use Rattle.speech_level_estimator.specs.Calls.{figures, stepped}
use Rattle.speech_level_estimator.specs.Estimator.{passes, run}
use Rattle.speech_level_estimator.specs.Held.{HeldEstimator}
use Rattle.speech_level_estimator.specs.declared.Average.{Average}
use Rattle.speech_level_estimator.specs.declared.Estimator.{Estimator}

-- a frame's level and probability
pub record Pair : Type 0 where
  pub rms : Float
  pub probability : Float

-- both are f32 in their ranges
pub record Accepted (f : Pair) : Type 0 where
  pub rms : T (fits binary32 f.rms)
  pub probability : T (fits binary32 f.probability)
  pub inside : figures f.rms f.probability ≡ true

-- the estimator after one frame, and after frames
abbrev pub fed_one : Estimator → Pair → Estimator
fed_one e f = (stepped e f.rms f.probability).estimator

unfoldable pub fed : Estimator → List Pair → Estimator
unfolding stepped
fed e [] = e
fed e (f ∷ fs) = fed (fed_one e f) fs

-- a frame as `runs` has it
abbrev pub frame : Pair → Frame Average
frame f = record { speech = speech f.probability; advance = advanced f.rms f.probability }

unfoldable pub frames : List Pair → List (Frame Average)
frames [] = []
frames (f ∷ fs) = frame f ∷ frames fs

-- an estimator that passes, whose numbers are f32
pub record Ready (e : Estimator) : Type 0 where
  pub passes : passes e ≡ true
  pub held : HeldEstimator e

-- f left no trace of itself in e: both states, the count and the published level are as they were
pub record Untouched (e f : Estimator) : Type 0 where
  pub run : run f ≡ run e
  pub level : f.level ≡ e.level
