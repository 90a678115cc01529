-- `recording_frame::level_in` meets its contract. Assumes nothing.
use Rattle.recording_frame.proofs.Outcomes.{unread, refused, unwritten, written}
use Rattle.recording_frame.proofs.level_in.Goals as goal

pub returns-in_err-read_frame : goal.returns-in_err-read_frame
returns-in_err-read_frame c =
    let a = c.args in
    let both = unread a.chain a.figures a.bytes.now a.frame.now a.channels a.samples c.requires c.from_residual.result c.in_err-read_frame.field-0.0 c.from_residual.ensures.1 c.in_err-read_frame.ensures.value in
    record { value = both.0; bytes_after = both.1 }

pub returns-in_err-next : goal.returns-in_err-next
returns-in_err-next c =
    let a = c.args in
    let both =
    refused a.chain a.figures a.bytes.now a.frame.now a.channels a.samples c.requires c.read_frame.new.frame c.step.new.frame c.step.result c.in_ok-read_frame.ensures.value c.read_frame.ensures.frame_after
    c.step.ensures.result_value c.step.ensures.frame_after c.from_residual-in_err-next.result c.in_err-next.field-0.0 c.in_err-next.was c.from_residual-in_err-next.ensures.1
    in
    record { value = both.0; bytes_after = both.1 }

pub returns-in_err-write_frame : goal.returns-in_err-write_frame
returns-in_err-write_frame c =
    let a = c.args in
    let both =
    unwritten a.chain a.figures a.bytes.now a.frame.now a.channels a.samples c.requires c.read_frame.new.frame c.step.new.frame c.step.result c.in_ok-read_frame.ensures.value c.read_frame.ensures.frame_after
    c.step.ensures.result_value c.step.ensures.frame_after c.in_ok-next.next c.in_ok-next.was c.from_residual-in_err-write_frame.result c.in_err-write_frame.field-0.0 c.write_frame.new.out c.from_residual-in_err-write_frame.ensures.1
    c.in_err-write_frame.ensures.value c.write_frame.ensures.out_after
    in
    record { value = both.0; bytes_after = both.1 }

pub returns : goal.returns
returns c =
    let a = c.args in
    let both =
    written a.chain a.figures a.bytes.now a.frame.now a.channels a.samples c.requires c.read_frame.new.frame c.step.new.frame c.step.result c.in_ok-read_frame.ensures.value c.read_frame.ensures.frame_after
    c.step.ensures.result_value c.step.ensures.frame_after c.in_ok-next.next c.in_ok-next.was c.write_frame.new.out c.in_ok-write_frame.ensures.value c.write_frame.ensures.out_after
    in
    record { value = both.0; bytes_after = both.1 }
