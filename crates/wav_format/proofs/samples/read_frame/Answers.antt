-- `wav_format::samples::read_frame` meets its contract: what is not refused is heard. Assumes nothing.
use Rattle.std.proofs.Common.{sym, ap, ◌∙◌}
use Rattle.units.specs.Handed.{handed, refusal_of}
use Rattle.wav_format.specs.Samples.{FrameRead}
use Rattle.wav_format.specs.Laws.Samples.{frame_heard, frame_left}
use Rattle.wav_format.proofs.samples.read_frame.Goals as goal

pub returns-then-is_shape-twice : goal.returns-then-is_shape-twice
unfolding handed
returns-then-is_shape-twice c =
    let a = c.args in
    let heard = frame_heard a.bytes.now a.frame.now a.channels a.samples (rw c.is_shape.ensures at c.if-is_shape-twice.true) in
    record { value = rw heard; frame_after = c.hear.ensures ∙ sym (ap (λ (r : FrameRead). r.frame) heard) }

pub returns-else-is_shape-twice : goal.returns-else-is_shape-twice
unfolding handed refusal_of
returns-else-is_shape-twice c =
    let a = c.args in
    let left = frame_left a.bytes.now a.frame.now a.channels a.samples (rw c.is_shape.ensures at c.if-is_shape-twice.false) in
    record { value = rw left; frame_after = sym (ap (λ (r : FrameRead). r.frame) left) }
