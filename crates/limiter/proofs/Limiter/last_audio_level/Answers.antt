-- `limiter::Limiter::last_audio_level` meets its contract: a state that passes has an estimator that does. Assumes nothing.
use Rattle.std.proofs.Common.{◌≡◌, true, ◌∙◌}
use Rattle.units.specs.Replies.{refusal}
use Rattle.units.specs.Laws.Replies.{none_refused}
use Rattle.units.specs.Handed.{handed}
use Rattle.units.specs.Laws.Handed.{refused_by, passed_done}
use Rattle.fixed_digital_level_estimator.specs.Estimator as E
use Rattle.limiter.specs.declared.Limiter.{Limiter}
use Rattle.limiter.specs.Limiter.{passes, heard}
use Rattle.limiter.specs.Laws.Taking.{parts_pass}
use Rattle.limiter.proofs.Limiter.last_audio_level.Goals as goal

pub returns-in_err-check : goal.returns-in_err-check
unfolding heard
returns-in_err-check c = refused_by _ _ _ tt _ c.from_residual.ensures.1 (rw c.passes-ok.ensures at c.in_err-check.ensures)

-- the estimator's level
same : (l : Limiter) → passes l ≡ true → handed (E.heard l.estimator).reply (E.heard l.estimator).level ≡ handed (heard l).reply (heard l).level
unfolding heard E.heard refusal handed
same l h = rw (h, (parts_pass l h).estimator)

pub returns : goal.returns
returns c =
    let a = c.args in
    c.last_audio_level.ensures
    ∙ same a.self (none_refused true (passes a.self) true true (passed_done _ _ _ (rw c.passes-ok.ensures at c.in_ok-check.ensures))).1
