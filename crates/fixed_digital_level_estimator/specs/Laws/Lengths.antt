-- The envelope has twenty values: each step keeps the length.
-- Assumes nothing.
use Rattle.std.specs.Prelude.{◌≡◌, refl, List, [], ◌∷◌, ℕ, zero, suc, Float, length, take, drop}
use Rattle.std.proofs.Common.{ap, ◌∙◌}
use Rattle.fixed_digital_level_estimator.specs.Envelope.{silence, peaks_in, peaks_over, raised, smoothed, decayed}
use Rattle.fixed_digital_level_estimator.specs.Estimator.{envelope_of}
use Rattle.fixed_digital_level_estimator.specs.declared.Estimator.{Estimator}

-- As many peaks of a channel as values that were found before.
pub peaks_in_length : (s : ℕ) (found xs : List Float) → length (peaks_in s found xs) ≡ length found
unfolding peaks_in
peaks_in_length s [] xs = refl
peaks_in_length s (found ∷ more) xs = ap suc (peaks_in_length s more (drop s xs))

-- As many peaks over all channels.
pub peaks_over_length : (c n s : ℕ) (found xs : List Float) → length (peaks_over c n s found xs) ≡ length found
unfolding peaks_over
peaks_over_length zero n s found xs = refl
peaks_over_length (suc c) n s found xs = peaks_over_length c n s (peaks_in s found (take n xs)) (drop n xs) ∙ peaks_in_length s found (take n xs)

-- Raising keeps the length.
pub raised_length : (xs : List Float) → length (raised xs) ≡ length xs
unfolding raised
raised_length [] = refl
raised_length (x ∷ []) = refl
raised_length (x ∷ y ∷ xs) = ap suc (raised_length (y ∷ xs))

-- Smoothing keeps the length.
pub smoothed_length : (state : Float) (xs : List Float) → length (smoothed state xs) ≡ length xs
unfolding smoothed
smoothed_length state [] = refl
smoothed_length state (value ∷ values) = ap suc (smoothed_length (decayed state value) values)

-- An envelope has twenty values.
pub envelope_length : (e : Estimator) (channels : ℕ) (frame : List Float) → length (envelope_of e channels frame) ≡ 20
unfolding envelope_of
envelope_length e channels frame =
    let peaks = peaks_over channels e.samples e.part silence frame in
    smoothed_length e.level (raised peaks) ∙ raised_length peaks ∙ peaks_over_length channels e.samples e.part silence frame
