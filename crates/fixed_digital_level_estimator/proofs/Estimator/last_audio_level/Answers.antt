-- `Estimator::last_audio_level` meets its contract. Assumes nothing.
use Rattle.std.proofs.Common.{◌≡◌, true}
use Rattle.std.specs.Prelude.{Ok}
use Rattle.units.specs.Replies.{refusal}
use Rattle.units.specs.Laws.Replies.{none_refused}
use Rattle.units.specs.Handed.{handed}
use Rattle.units.specs.Laws.Handed.{refused_by, passed_done}
use Rattle.fixed_digital_level_estimator.specs.declared.Estimator.{Estimator}
use Rattle.fixed_digital_level_estimator.specs.Estimator.{passes, heard}
use Rattle.fixed_digital_level_estimator.proofs.Estimator.last_audio_level.Goals as goal

pub returns-in_err-check : goal.returns-in_err-check
unfolding heard
returns-in_err-check c = refused_by _ _ _ tt _ c.from_residual.ensures.1 (rw c.passes-ok.ensures at c.in_err-check.ensures)

-- a state that passes
level_of : (e : Estimator) → passes e ≡ true → Ok (record { 0 = e.level }) ≡ handed (heard e).reply (heard e).level
unfolding heard refusal handed
level_of e h = rw h

pub returns : goal.returns
returns c =
    let a = c.args in
    level_of a.self (none_refused true (passes a.self) true true (passed_done _ _ _ (rw c.passes-ok.ensures at c.in_ok-check.ensures))).1
