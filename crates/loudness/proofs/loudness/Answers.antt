-- `loudness::loudness` meets its contract: what is not refused is heard. Assumes nothing.
use Rattle.std.proofs.Common.{sym, ◌∙◌}
use Rattle.units.specs.Handed.{handed, refusal_of}
use Rattle.loudness.specs.Laws.Sound.{frame_heard, frame_refused}
use Rattle.loudness.proofs.loudness.Goals as goal

pub all_channels-requires : goal.all_channels-requires
all_channels-requires c = sym c.is_frame.ensures ∙ c.if-not-is_frame.false

pub returns : goal.returns
unfolding handed
returns c =
    let a = c.args in
    rw (frame_heard a.bytes.now a.channels a.samples (sym c.is_frame.ensures ∙ c.if-not-is_frame.false), c.all_channels.ensures.square_value, c.all_channels.ensures.peak_value)

pub returns-then-not-is_frame : goal.returns-then-not-is_frame
unfolding handed refusal_of
returns-then-not-is_frame c =
    let a = c.args in
    rw (frame_refused a.bytes.now a.channels a.samples (sym c.is_frame.ensures ∙ c.if-not-is_frame.true))
