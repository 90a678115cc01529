-- The code's own words on the way. Definitions only.
use Rattle.std.specs.Prelude.{cond, ◌&&◌, ℕ, ◌*◌, leb}

-- how many samples a frame takes of the room for eight channels of 480: none where it has more of either
unfoldable pub room_for : ℕ → ℕ → ℕ
room_for channels samples = cond (leb channels 8 && leb samples 480) (channels * samples) 0
