-- `chain::Chain::new` meets its contract: no part refuses what passes the first test. Assumes nothing.
use Rattle.std.proofs.Common.{ℕ, sym, ap, ◌∙◌, Ok}
use Rattle.units.specs.Handed.{handed}
use Rattle.units.specs.Laws.Handed.{handed_done, handed_ok, passed_done, refused_by, refused_not_done}
use Rattle.chain.specs.Calls.{made}
use Rattle.chain.specs.Laws.Start.{four, made_reply, parts_done, parts_made}
use Rattle.chain.proofs.Chain.new.Goals as goal

pub returns-in_err-check : goal.returns-in_err-check
returns-in_err-check c =
    let a = c.args in
    let m = made a.settings a.threshold a.samples a.capacity in
    refused_by c.from_residual.result c.in_err-check.field-0.0 _ tt m.chain c.from_residual.ensures.1 c.in_err-check.ensures
    ∙ ap (λ (n : ℕ). handed n m.chain) (made_reply a.settings a.threshold a.samples a.capacity c.is_samples-shape.ensures c.accepted.ensures c.is_threshold.ensures c.is_capacity.ensures)

pub returns-in_err-estimator : goal.returns-in_err-estimator
returns-in_err-estimator c =
    let a = c.args in
    let reply = made_reply a.settings a.threshold a.samples a.capacity c.is_samples-shape.ensures c.accepted.ensures c.is_threshold.ensures c.is_capacity.ensures in
    absurd (refused_not_done _ _ _ c.in_err-estimator.ensures (parts_done a.settings a.threshold a.samples a.capacity (sym reply ∙ passed_done _ _ _ c.in_ok-check.ensures)).estimator)

pub returns-in_err-protector : goal.returns-in_err-protector
returns-in_err-protector c =
    let a = c.args in
    let reply = made_reply a.settings a.threshold a.samples a.capacity c.is_samples-shape.ensures c.accepted.ensures c.is_threshold.ensures c.is_capacity.ensures in
    absurd (refused_not_done _ _ _ c.in_err-protector.ensures (parts_done a.settings a.threshold a.samples a.capacity (sym reply ∙ passed_done _ _ _ c.in_ok-check.ensures)).protector)

pub returns-in_err-controller : goal.returns-in_err-controller
returns-in_err-controller c =
    let a = c.args in
    let reply = made_reply a.settings a.threshold a.samples a.capacity c.is_samples-shape.ensures c.accepted.ensures c.is_threshold.ensures c.is_capacity.ensures in
    absurd (refused_not_done _ _ _ c.in_err-controller.ensures (parts_done a.settings a.threshold a.samples a.capacity (sym reply ∙ passed_done _ _ _ c.in_ok-check.ensures)).controller)

pub returns-in_err-limiter : goal.returns-in_err-limiter
returns-in_err-limiter c =
    let a = c.args in
    let reply = made_reply a.settings a.threshold a.samples a.capacity c.is_samples-shape.ensures c.accepted.ensures c.is_threshold.ensures c.is_capacity.ensures in
    absurd (refused_not_done _ _ _ c.in_err-limiter.ensures (parts_done a.settings a.threshold a.samples a.capacity (sym reply ∙ passed_done _ _ _ c.in_ok-check.ensures)).limiter)

pub returns : goal.returns
unfolding four
returns c =
    let a = c.args in
    let reply = made_reply a.settings a.threshold a.samples a.capacity c.is_samples-shape.ensures c.accepted.ensures c.is_threshold.ensures c.is_capacity.ensures in
    let k = sym reply ∙ passed_done _ _ _ c.in_ok-check.ensures in
    let estimator = (handed_ok _ _ _ (sym c.in_ok-estimator.ensures)).1 in
    let protector = (handed_ok _ _ _ (sym c.in_ok-protector.ensures)).1 in
    let controller = (handed_ok _ _ _ (sym c.in_ok-controller.ensures)).1 in
    let limiter = (handed_ok _ _ _ (sym c.in_ok-limiter.ensures)).1 in
    rw (← estimator, ← protector, ← controller, ← limiter)
    (ap Ok (parts_made a.settings a.threshold a.samples a.capacity k) ∙ sym (handed_done _ (made a.settings a.threshold a.samples a.capacity).chain k))
