-- `limiter::Limiter::new` meets its contract: it refuses what a new estimator does. Assumes nothing.
use Rattle.std.proofs.Common.{◌≡◌, ℕ, true, sym}
use Rattle.std.specs.Prelude.{Ok}
use lib.Ieee.{binary32, of_bits}
use Rattle.units.specs.Replies.{refusal}
use Rattle.units.specs.Laws.Replies.{none_refused}
use Rattle.units.specs.Handed.{handed}
use Rattle.units.specs.Laws.Handed.{refused_by, handed_ok}
use Rattle.frames.specs.Shape.{is_samples}
use Rattle.interpolated_gain_curve.specs.Curve.{fresh}
use Rattle.fixed_digital_level_estimator.specs.declared.Estimator.{Estimator}
use Rattle.fixed_digital_level_estimator.specs.Estimator as E
use Rattle.limiter.specs.Limiter.{made, starting}
use Rattle.limiter.proofs.Limiter.new.Goals as goal

pub returns-in_err-estimator : goal.returns-in_err-estimator
unfolding made E.made
returns-in_err-estimator c = refused_by _ _ _ _ _ c.from_residual.ensures.1 c.in_err-estimator.ensures

-- what is made with a new estimator
with : (samples : ℕ) (e : Estimator) → Ok e ≡ handed (E.made samples).reply (E.made samples).estimator
    → Ok (record { estimator = e; curve = fresh; carried = of_bits binary32 0x3f80_0000 }) ≡ handed (made samples).reply (made samples).limiter
unfolding made E.made starting refusal handed
with samples e h =
    let both = handed_ok (refusal (is_samples samples) true true true) _ e (sym h) in
    let t = (none_refused (is_samples samples) true true true both.0).0 in
    let is : E.sized_to E.none samples ≡ e = rw t at both.1 in
    rw (t, ← is)

pub returns : goal.returns
returns c = rw c.new-2.ensures (with c.args.samples _ c.in_ok-estimator.ensures)
