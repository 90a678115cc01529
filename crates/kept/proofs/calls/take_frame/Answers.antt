-- `kept::calls::take_frame` meets its contract: the step is that of the chain inside, or it is refused. Assumes nothing.
use Rattle.std.proofs.Common.{refl, sym, ap, ◌∙◌, Err}
use Rattle.std.proofs.lemmas.Result.{err_from_is_err_and}
use Rattle.kept.specs.States.{envelope_of, limiter_of, chain_of}
use Rattle.kept.specs.Calls.{told_step}
use Rattle.kept.specs.Laws.Calls.{chain_joined, chain_let_be, chain_turned_away}
use Rattle.kept.proofs.calls.take_frame.Goals as goal

pub returns-in_err-next : goal.returns-in_err-next
unfolding told_step
returns-in_err-next c =
    let a = c.args in
    let refused = c.in_err-next.ensures in
    let out = err_from_is_err_and c.from_residual.result c.from_residual.ensures.1 in
    let j = chain_let_be a.kept a.figures a.frame.now a.channels a.samples c.in_err-next.field-0.0 (sym c.is_sound.ensures ∙ c.if-is_sound.true) c.chain-chain.ensures refused.result_value refused.frame_after refl in
    record { value = rw (out.1 ∙ ap Err out.2) j.0; frame_after = j.1; scale = rw out.1 tt }

pub returns-in_ok-next : goal.returns-in_ok-next
unfolding told_step
returns-in_ok-next c =
    let a = c.args in
    let gone = c.in_ok-next.ensures in
    let j = chain_joined a.kept a.figures a.frame.now a.channels a.samples c.in_ok-next.next (sym c.is_sound.ensures ∙ c.if-is_sound.true) c.chain-chain.ensures gone.result_value gone.frame_after c.from-answer.ensures c.from-after.ensures in
    record { value = j.0; frame_after = j.1; scale = gone.scale }

pub returns-else-is_sound : goal.returns-else-is_sound
unfolding told_step chain_of limiter_of envelope_of
returns-else-is_sound c =
    let a = c.args in
    let j = chain_turned_away a.kept a.figures a.frame.now a.channels a.samples (sym c.is_sound.ensures ∙ c.if-is_sound.false) refl c.refuse_state.ensures in
    record { value = j.0; frame_after = j.1; scale = tt }
