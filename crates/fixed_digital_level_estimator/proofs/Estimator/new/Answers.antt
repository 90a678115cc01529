-- `Estimator::new` meets its contract. Assumes nothing.
use Rattle.std.proofs.Common.{◌≡◌, true}
use Rattle.std.specs.Prelude.{Ok, ℕ, ◌/◌}
use Rattle.units.specs.Replies.{refusal}
use Rattle.units.specs.Laws.Replies.{none_refused}
use Rattle.units.specs.Handed.{handed}
use Rattle.units.specs.Laws.Handed.{refused_by, passed_done}
use Rattle.frames.specs.Shape.{is_samples}
use lib.Ieee.{binary32, of_bits}
use Rattle.fixed_digital_level_estimator.specs.Estimator.{made, none, sized_to}
use Rattle.fixed_digital_level_estimator.proofs.Estimator.new.Goals as goal

pub returns-in_err-check : goal.returns-in_err-check
unfolding made
returns-in_err-check c = refused_by _ _ _ tt _ c.from_residual.ensures.1 (rw c.is_samples.ensures at c.in_err-check.ensures)

-- samples that a frame can have
sized : (samples : ℕ) → is_samples samples ≡ true
    → Ok (record { level = of_bits binary32 0x0000_0000; samples = samples; part = samples / 20 }) ≡ handed (made samples).reply (made samples).estimator
unfolding made sized_to none refusal handed
sized samples h = rw h

pub returns : goal.returns
returns c =
    let a = c.args in
    sized a.samples (none_refused (is_samples a.samples) true true true (passed_done _ _ _ (rw c.is_samples.ensures at c.in_ok-check.ensures))).0
