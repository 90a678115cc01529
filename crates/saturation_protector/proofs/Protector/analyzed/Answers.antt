-- `saturation_protector::Protector::analyzed` meets its contract: what `runs` tells of a speech frame is its rule, and any other ends the run as a gap does.
-- Assumes nothing.
use mathlib.Core.Bool.{true}
use mathlib.Core.Path.{sym, ◌∙◌}
use Rattle.runs.specs.Runs.{turned}
use Rattle.saturation_protector.specs.Laws.Frames.{preliminary_of, turned_to, analyzed_as}
use Rattle.saturation_protector.specs.Laws.Tests.{passed_whole}
use Rattle.saturation_protector.proofs.Gaps.{interrupted_is_quiet}
use Rattle.saturation_protector.proofs.Protector.analyzed.Goals as goal

pub advanced-preliminary-requires : goal.advanced-preliminary-requires
advanced-preliminary-requires c = ((passed_whole c.args.self c.requires.0).preliminary, c.requires.1)

-- a frame of speech
pub returns-then-speech : goal.returns-then-speech
unfolding turned_to turned preliminary_of
returns-then-speech c =
    let at = c.args in
    rw (c.pick-headroom.ensures, c.advanced-preliminary.ensures, c.step-turn.ensures)
    (sym (analyzed_as at.self at.probability at.peak at.level true (sym c.is_speech-speech.ensures ∙ c.if-speech.true)))

-- any other
pub returns-else-speech : goal.returns-else-speech
returns-else-speech c =
    let at = c.args in
    c.interrupted.ensures ∙ interrupted_is_quiet at.self at.probability at.peak at.level (sym c.is_speech-speech.ensures ∙ c.if-speech.false)
