-- `units::figures::Figures::accepted` meets its contract: test by test. Assumes nothing.
use mathlib.Core.Bool.{Bool, ◌&&◌}
use mathlib.Core.Path.{◌≡◌}
use Rattle.units.specs.Figures.{probability, rms, level, envelope, accepted}
use Rattle.units.specs.declared.figures.Figures.{Figures}
use Rattle.units.proofs.figures.Figures.accepted.Goals as goal

-- the definition, with what the tests gave
all-five : (f : Figures) (a b c d e : Bool) → a ≡ probability f.probability → b ≡ rms f.rms.0 → c ≡ level f.peak.0 → d ≡ level f.noise.0
    → e ≡ envelope f.envelope.0 → a && b && c && d && e ≡ accepted f
unfolding accepted
all-five f a b c d e p r l n v = rw (p, r, l, n, v)

pub returns : goal.returns
returns c =
    all-five _ _ _ _ _ _ c.is_probability.ensures c.is_rms.ensures c.is_level.ensures
    c.is_level-2.ensures c.is_envelope.ensures
