-- What a frame is refused with. Definitions only.
use Rattle.std.specs.Prelude.{Bool, ◌&&◌, List, ℕ, length, Float}
use Rattle.units.specs.Replies.{refusal}
use Rattle.frames.specs.Shape.{is_shape}
use Rattle.frames.specs.Samples.{all_within}

-- "The order is 1, 4, 2, 3": 1 also where the samples are not those that were set
unfoldable pub frame_refusal : List Float → ℕ → ℕ → Bool → Bool → Bool → Float → ℕ
unfolding is_shape all_within refusal
frame_refusal frame channels samples set setting figure bound =
    refusal (is_shape channels samples (length frame) && set) setting figure (all_within bound frame)
