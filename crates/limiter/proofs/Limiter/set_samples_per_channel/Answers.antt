-- `limiter::Limiter::set_samples_per_channel` meets its contract: a state that passes has an estimator that does. Assumes nothing.
use Rattle.std.proofs.Common.{◌≡◌, ℕ, true}
use Rattle.std.specs.Prelude.{Ok}
use Rattle.units.specs.Replies.{refusal}
use Rattle.units.specs.Handed.{handed}
use Rattle.frames.specs.Shape.{is_samples}
use Rattle.fixed_digital_level_estimator.specs.declared.Estimator.{Estimator}
use Rattle.fixed_digital_level_estimator.specs.Estimator as E
use Rattle.limiter.specs.declared.Limiter.{Limiter}
use Rattle.limiter.specs.Laws.Taking.{parts_pass}
use Rattle.units.specs.Laws.Replies.{none_refused}
use Rattle.units.specs.Laws.Handed.{refused_by, passed_done}
use Rattle.limiter.specs.Limiter.{passes, changed, hearing}
use Rattle.limiter.proofs.Limiter.set_samples_per_channel.Goals as goal

pub returns-in_err-check : goal.returns-in_err-check
unfolding changed
returns-in_err-check c = refused_by _ _ _ tt _ c.from_residual.ensures.1 (rw (c.is_samples.ensures, c.passes.ensures) at c.in_err-check.ensures)

-- then its estimator is set to the samples
sized : (l : Limiter) (samples : ℕ) → is_samples samples ≡ true → passes l ≡ true
    → handed (E.changed l.estimator samples).reply (E.changed l.estimator samples).estimator ≡ Ok (E.sized_to l.estimator samples)
unfolding E.changed refusal handed
sized l samples s h = rw (s, (parts_pass l h).estimator)

with_it : (l : Limiter) (samples : ℕ) (e : Estimator) → is_samples samples ≡ true → passes l ≡ true
    → Ok e ≡ handed (E.changed l.estimator samples).reply (E.changed l.estimator samples).estimator
    → Ok (record { estimator = e; curve = l.curve; carried = l.carried }) ≡ handed (changed l samples).reply (changed l samples).limiter
unfolding changed hearing refusal handed
with_it l samples e s h k =
    let is : e ≡ E.sized_to l.estimator samples = cc (sized l samples s h, k) in
    rw (s, h, is)

pub returns-in_err-estimator : goal.returns-in_err-estimator
returns-in_err-estimator c =
    let a = c.args in
    let t = none_refused (is_samples a.samples) (passes a.self) true true (passed_done _ _ _ (rw (c.is_samples.ensures, c.passes.ensures) at c.in_ok-check.ensures)) in
    absurd (cc (sized a.self a.samples t.0 t.1, c.in_err-estimator.ensures))

pub returns : goal.returns
returns c =
    let a = c.args in
    let t = none_refused (is_samples a.samples) (passes a.self) true true (passed_done _ _ _ (rw (c.is_samples.ensures, c.passes.ensures) at c.in_ok-check.ensures)) in
    with_it a.self a.samples _ t.0 t.1 c.in_ok-estimator.ensures
