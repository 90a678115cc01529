-- Each of the four promises leaves one outcome.
use Rattle.std.specs.Prelude.{◌≡◌, Float}
use Rattle.lists.specs.Promise.{one_outcome}
use Rattle.units.specs.Handed.{handed}
use Rattle.interpolated_gain_curve.specs.Curve.{fresh, passes, looked, told, read}
use Rattle.interpolated_gain_curve.specs.declared.Curve.{Curve}

-- whatever two results both are what d says are the same
abbrev pub Once {ℓ} : {A : Type ℓ} → A → Type ℓ
Once {A} d = (r s : A) → r ≡ d → s ≡ d → r ≡ s

-- Any two outcomes of new, of passes, of a look-up and of the statistics that meet the promise are the same.
pub one_answer : (c : Curve) (level : Float) → Once fresh × Once (passes c) × Once (looked c level) × Once (read c)
one_answer c level = (one_outcome, one_outcome, one_outcome, one_outcome)

-- So are any two that they hand back.
pub one_result : (c : Curve) (level : Float) → Once (handed (looked c level).reply (told (looked c level))) × Once (handed (read c).reply (read c).stats)
one_result c level = (one_outcome, one_outcome)
