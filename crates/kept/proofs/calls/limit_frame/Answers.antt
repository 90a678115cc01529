-- `kept::calls::limit_frame` meets its contract: the step is that of the limiter inside, or it is refused. Assumes nothing.
use Rattle.std.proofs.Common.{refl, sym, ap, ◌∙◌, Err}
use Rattle.std.proofs.lemmas.Result.{err_from_is_err_and}
use Rattle.units.specs.Laws.Handed.{handed_ok, refused_not_done}
use Rattle.kept.specs.Calls.{told_limiter}
use Rattle.kept.specs.Laws.Calls.{limiter_number, limiter_joined, limiter_let_be, limiter_turned_away}
use Rattle.kept.proofs.calls.limit_frame.Goals as goal

pub returns-in_err-after : goal.returns-in_err-after
unfolding told_limiter
returns-in_err-after c =
    let a = c.args in
    let refused = c.in_err-after.ensures in
    let out = err_from_is_err_and c.from_residual.result c.from_residual.ensures.1 in
    let j = limiter_let_be a.kept a.frame.now a.channels a.samples (sym c.is_sound.ensures ∙ c.if-is_sound.true) c.limiter-limiter.ensures refl refused.frame_after (refused_not_done _ _ _ refused.value) in
    record { value = rw (out.1 ∙ ap Err out.2, limiter_number _ _ _ _ _ _ refused.value) j.0; frame_after = j.1; scale = rw out.1 tt }

pub returns-in_ok-after : goal.returns-in_ok-after
unfolding told_limiter
returns-in_ok-after c =
    let a = c.args in
    let gone = c.in_ok-after.ensures in
    let both = handed_ok _ _ _ (sym gone.value) in
    let j = limiter_joined a.kept a.frame.now a.channels a.samples (sym c.is_sound.ensures ∙ c.if-is_sound.true) c.limiter-limiter.ensures refl gone.frame_after both.0 (rw both.1 c.from.ensures) in
    record { value = j.0; frame_after = j.1; scale = gone.scale }

pub returns-else-is_sound : goal.returns-else-is_sound
unfolding told_limiter
returns-else-is_sound c =
    let a = c.args in
    let j = limiter_turned_away a.kept a.frame.now a.channels a.samples (sym c.is_sound.ensures ∙ c.if-is_sound.false) c.refuse_state.ensures in
    record { value = j.0; frame_after = j.1; scale = tt }
