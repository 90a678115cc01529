-- `Estimator::reset` meets its contract. Assumes nothing.
use Rattle.std.proofs.Common.{◌≡◌, true}
use Rattle.std.specs.Prelude.{Ok}
use Rattle.units.specs.Replies.{refusal}
use Rattle.units.specs.Laws.Replies.{none_refused}
use Rattle.units.specs.Handed.{handed}
use Rattle.units.specs.Laws.Handed.{refused_by, passed_done}
use Rattle.fixed_digital_level_estimator.specs.declared.Estimator.{Estimator}
use lib.Ieee.{binary32, of_bits}
use Rattle.fixed_digital_level_estimator.specs.Estimator.{passes, cleared}
use Rattle.fixed_digital_level_estimator.proofs.Estimator.reset.Goals as goal

pub returns-in_err-check : goal.returns-in_err-check
unfolding cleared
returns-in_err-check c = refused_by _ _ _ tt _ c.from_residual.ensures.1 (rw c.passes.ensures at c.in_err-check.ensures)

-- a state that passes
cleared_by : (e : Estimator) → passes e ≡ true
    → Ok (record { level = of_bits binary32 0x0000_0000; samples = e.samples; part = e.part }) ≡ handed (cleared e).reply (cleared e).estimator
unfolding cleared refusal handed
cleared_by e h = rw h

pub returns : goal.returns
returns c =
    let a = c.args in
    cleared_by a.self (none_refused true (passes a.self) true true (passed_done _ _ _ (rw c.passes.ensures at c.in_ok-check.ensures))).1
