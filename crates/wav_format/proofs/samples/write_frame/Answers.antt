-- `wav_format::samples::write_frame` meets its contract: what is not refused is put where it fits. Assumes nothing.
use Rattle.std.proofs.Common.{sym, ap, ◌∙◌}
use Rattle.units.specs.Output.{Put}
use Rattle.units.specs.Handed.{handed, refusal_of}
use Rattle.wav_format.specs.Laws.Samples.{frame_written_lem, frame_short, frame_beyond, frame_refused}
use Rattle.wav_format.proofs.samples.write_frame.Goals as goal

pub returns-then-not-is_shape : goal.returns-then-not-is_shape
unfolding handed refusal_of
returns-then-not-is_shape c =
    let a = c.args in
    let refused = frame_refused a.frame.now a.channels a.samples a.out.now (sym c.is_shape.ensures ∙ c.if-not-is_shape.true) in
    record { value = rw refused; out_after = sym (ap (λ (p : Put). p.out) refused) }

pub returns-then-not-are_full_scale : goal.returns-then-not-are_full_scale
unfolding handed refusal_of
returns-then-not-are_full_scale c =
    let a = c.args in
    let beyond = frame_beyond a.frame.now a.channels a.samples a.out.now (sym c.is_shape.ensures ∙ c.if-not-is_shape.false) (sym c.are_full_scale.ensures ∙ c.if-not-are_full_scale.true) in
    record { value = rw beyond; out_after = sym (ap (λ (p : Put). p.out) beyond) }

pub returns-then-out-frame : goal.returns-then-out-frame
unfolding handed refusal_of
returns-then-out-frame c =
    let a = c.args in
    let short = frame_short a.frame.now a.channels a.samples a.out.now (sym c.is_shape.ensures ∙ c.if-not-is_shape.false) (sym c.are_full_scale.ensures ∙ c.if-not-are_full_scale.false) c.if-out-frame.true in
    record { value = rw short; out_after = sym (ap (λ (p : Put). p.out) short) }

pub returns-else-out-frame : goal.returns-else-out-frame
unfolding handed
returns-else-out-frame c =
    let a = c.args in
    let written = frame_written_lem a.frame.now a.channels a.samples a.out.now (sym c.is_shape.ensures ∙ c.if-not-is_shape.false) (sym c.are_full_scale.ensures ∙ c.if-not-are_full_scale.false) c.if-out-frame.false in
    record { value = rw written; out_after = c.put_sound.ensures ∙ sym (ap (λ (p : Put). p.out) written) }
