-- `Estimator::set_samples_per_channel` meets its contract: the two tests are the definition's. Assumes nothing.
use Rattle.std.proofs.Common.{◌≡◌, true}
use Rattle.std.specs.Prelude.{Ok, ℕ, ◌/◌}
use Rattle.units.specs.Replies.{refusal}
use Rattle.units.specs.Laws.Replies.{none_refused}
use Rattle.units.specs.Handed.{handed}
use Rattle.units.specs.Laws.Handed.{refused_by, passed_done}
use Rattle.frames.specs.Shape.{is_samples}
use Rattle.fixed_digital_level_estimator.specs.declared.Estimator.{Estimator}
use Rattle.fixed_digital_level_estimator.specs.Estimator.{passes, changed, sized_to}
use Rattle.fixed_digital_level_estimator.proofs.Estimator.set_samples_per_channel.Goals as goal

pub returns-in_err-check : goal.returns-in_err-check
unfolding changed
returns-in_err-check c = refused_by _ _ _ tt _ c.from_residual.ensures.1 (rw (c.is_samples.ensures, c.passes.ensures) at c.in_err-check.ensures)

-- samples that a frame can have, and a state that passes
taken : (e : Estimator) (samples : ℕ) → is_samples samples ≡ true → passes e ≡ true
    → Ok (record { level = e.level; samples = samples; part = samples / 20 }) ≡ handed (changed e samples).reply (changed e samples).estimator
unfolding changed sized_to refusal handed
taken e samples s p = rw (s, p)

pub returns : goal.returns
returns c =
    let a = c.args in
    let t = none_refused (is_samples a.samples) (passes a.self) true true (passed_done _ _ _ (rw (c.is_samples.ensures, c.passes.ensures) at c.in_ok-check.ensures)) in
    taken a.self a.samples t.0 t.1
