-- `chain::Chain::gap` meets its contract: no part of a chain that passes refuses a gap. Assumes nothing.
use Rattle.std.proofs.Common.{sym}
use Rattle.units.specs.Laws.Handed.{handed_ok, refused_not_done}
use Rattle.speech_level_estimator.proofs.Tested.{carried_on, passed_on}
use Rattle.chain.specs.Chain.{passes}
use Rattle.chain.specs.Calls.{gap}
use Rattle.chain.specs.Laws.Gaps.{gaps_done, parts_interrupted}
use Rattle.chain.proofs.Chain.gap.Goals as goal

pub returns-in_err-closed : goal.returns-in_err-closed
returns-in_err-closed c =
    let both = passed_on (passes c.args.self) _ _ c.in_ok-before.ensures in
    absurd (refused_not_done _ _ _ c.in_err-closed.ensures (rw (← both.1) (gaps_done c.args.self both.0).estimator))

pub returns-in_err-shut : goal.returns-in_err-shut
returns-in_err-shut c =
    let both = passed_on (passes c.args.self) _ _ c.in_ok-before.ensures in
    absurd (refused_not_done _ _ _ c.in_err-shut.ensures (rw (← both.1) (gaps_done c.args.self both.0).protector))

pub returns-in_err-waits : goal.returns-in_err-waits
returns-in_err-waits c =
    let both = passed_on (passes c.args.self) _ _ c.in_ok-before.ensures in
    absurd (refused_not_done _ _ _ c.in_err-waits.ensures (rw (← both.1) (gaps_done c.args.self both.0).controller))

pub returns : goal.returns
unfolding gap
returns c =
    let closed = (handed_ok _ _ _ (sym c.in_ok-closed.ensures)).1 in
    let shut = (handed_ok _ _ _ (sym c.in_ok-shut.ensures)).1 in
    let waits = (handed_ok _ _ _ (sym c.in_ok-waits.ensures)).1 in
    carried_on (passes c.args.self) _ _ _ _ c.in_ok-before.ensures
    (λ p same. rw (p, ← closed, ← shut, ← waits, ← same) (parts_interrupted c.args.self p))
