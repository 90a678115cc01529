-- `kept::calls::read_limiter` meets its contract. Assumes nothing.
use Rattle.std.proofs.Common.{ap, ◌∙◌, Err}
use Rattle.std.proofs.lemmas.Result.{err_from_is_err_and}
use Rattle.kept.proofs.Told.{level_unsound, level_read}
use Rattle.kept.proofs.calls.read_limiter.Goals as goal

pub returns-in_err-sound : goal.returns-in_err-sound
returns-in_err-sound c =
    let out = err_from_is_err_and c.from_residual.result c.from_residual.ensures.1 in
    rw (out.1 ∙ ap Err out.2) (level_unsound c.args.kept c.in_err-sound.field-0.0 c.in_err-sound.ensures)

pub returns : goal.returns
returns c = level_read c.args.kept c.in_ok-sound.sound c.last_audio_level.result c.in_ok-sound.ensures (rw c.limiter-limiter.ensures at c.last_audio_level.ensures)
