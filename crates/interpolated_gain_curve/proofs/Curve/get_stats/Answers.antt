-- `interpolated_gain_curve::Curve::get_stats` meets its contract: the test of the state is the definition's. Assumes nothing.
use Rattle.std.proofs.Common.{◌≡◌, true}
use Rattle.std.specs.Prelude.{Ok}
use Rattle.units.specs.Replies.{refusal}
use Rattle.units.specs.Laws.Replies.{none_refused}
use Rattle.units.specs.Handed.{handed}
use Rattle.units.specs.Laws.Handed.{refused_by, passed_done}
use Rattle.interpolated_gain_curve.specs.Curve.{passes, read}
use Rattle.interpolated_gain_curve.specs.declared.Curve.{Curve as State}
use Rattle.interpolated_gain_curve.proofs.Curve.get_stats.Goals as goal

pub returns-in_err-check : goal.returns-in_err-check
unfolding read
returns-in_err-check c = refused_by _ _ _ tt _ c.from_residual.ensures.1 (rw c.passes.ensures at c.in_err-check.ensures)

-- a state that passes is handed out
stands : (s : State) → passes s ≡ true → Ok s ≡ handed (read s).reply (read s).stats
unfolding read refusal handed
stands s h = rw h

pub returns : goal.returns
returns c =
    let a = c.args in
    stands a.self (none_refused true (passes a.self) true true (passed_done _ _ _ (rw c.passes.ensures at c.in_ok-check.ensures))).1
