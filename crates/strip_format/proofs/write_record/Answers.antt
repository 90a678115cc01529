-- `strip_format::write_record` meets its contract: what is not refused is copied where it fits. Assumes nothing.
use Rattle.std.proofs.Common.{◌∙◌, ap, length}
use Rattle.strip_format.specs.Format.{record_bytes}
use Rattle.strip_format.specs.Calls.{record_refusal, put_record}
use Rattle.strip_format.specs.Laws.Records.{record_length_lem}
use Rattle.strip_format.proofs.Writing.{left, taken}
use Rattle.strip_format.proofs.write_record.Goals as goal

pub returns-in_err-check_figures : goal.returns-in_err-check_figures
unfolding put_record
returns-in_err-check_figures c =
    let f = c.args.figures in
    let both = left (record_refusal f) 22 (record_bytes f) c.args.out.now _ _ c.from_residual.ensures.1 c.in_err-check_figures.ensures in
    record { value = both.0; out_after = both.1 }

pub returns : goal.returns
unfolding put_record
returns c =
    let f = c.args.figures in
    let made = c.record_bytes in
    let both = taken (record_refusal f) 22 (record_bytes f) made.result c.args.out.now c.in_ok-check_figures.ensures made.ensures (ap length made.ensures ∙ record_length_lem f)
    c.copy.ensures.value c.copy.ensures.out_after in
    record { value = both.0; out_after = both.1 }
