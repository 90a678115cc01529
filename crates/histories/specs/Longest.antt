-- How long a run of a history gets. A definition only.
use Rattle.std.specs.Prelude.{List, [], ◌∷◌, ℕ, max}
use Rattle.histories.specs.Histories.{Event}
use Rattle.histories.specs.Changes.{ahead}

-- the longest run of adjacent speech frames: "Adjacent means adjacent in time", so a gap parts two runs as a frame does that is not speech
unfoldable pub longest : List Event → ℕ
unfolding ahead
longest [] = 0
longest (e ∷ es) = max (ahead (e ∷ es)) (longest es)
