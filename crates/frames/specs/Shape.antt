-- Document 01's shape of a frame. Definitions only.
use Rattle.std.specs.Prelude.{Bool, ◌&&◌, ℕ, ◌*◌, ◌%◌, leb, eqb}

-- "each 40 to 480 samples in a multiple of 20"
unfoldable pub is_samples : ℕ → Bool
is_samples samples = leb 40 samples && leb samples 480 && eqb (samples % 20) 0

-- "1 to 8 channels, .. length exactly the product"
unfoldable pub is_shape : ℕ → ℕ → ℕ → Bool
unfolding is_samples
is_shape channels samples length =
    leb 1 channels && leb channels 8 && is_samples samples && eqb length (channels * samples)
