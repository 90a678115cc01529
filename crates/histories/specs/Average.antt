-- "the weighted average .. over the initial level and the kept frames". Definitions only.
use Rattle.std.specs.Prelude.{List, [], ◌∷◌, ℕ, Float}
use Rattle.units.specs.declared.settings.Settings.{Settings}
use Rattle.units.specs.declared.figures.Figures.{Figures}
use Rattle.runs.specs.Histories.{counted}
use Rattle.speech_level_estimator.specs.Average as Level
use Rattle.speech_level_estimator.specs.Estimator.{starting_level}
use Rattle.speech_level_estimator.specs.declared.Average.{Average}
use Rattle.histories.specs.Histories.{Event, frame, gap, is_speech}

-- the figures of the frames among some events
unfoldable pub figures_in : List Event → List Figures
figures_in [] = []
figures_in (frame f s ∷ es) = f ∷ figures_in es
figures_in (gap ∷ es) = figures_in es

-- an average with frames more, by the sum and weight rules, leak included, each operation rounded
unfoldable pub weighted : Average → List Figures → Average
unfolding Level.advanced
weighted a [] = a
weighted a (f ∷ fs) = weighted (Level.advanced f.rms.0 f.probability a) fs

-- "the initial level with weight 1; then the frames of closed runs that reached the threshold; then the current run's, once it has reached it; clamped to
-- -90 and 30"
unfoldable pub average_level : Settings → ℕ → List Event → Float
unfolding weighted Level.level Level.starting starting_level is_speech figures_in
average_level s t es = Level.level (weighted (Level.starting (starting_level s)) (figures_in (counted is_speech t es)))
