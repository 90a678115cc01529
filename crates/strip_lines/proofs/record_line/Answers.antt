-- `record_line` meets its contract: the line is made, and put. Assumes nothing.
use Rattle.std.proofs.Common.{◌∙◌}
use Rattle.floats.specs.Laws.Kinds.{passed}
use Rattle.units.specs.Laws.Handed.{refused_by, refused_not_done, passed_done}
use Rattle.strip_lines.specs.Lines.{number_of}
use Rattle.strip_lines.specs.Calls.{put_record_line, line_of_record, refusal_of}
use Rattle.strip_lines.specs.Laws.Cutting.{printed}
use Rattle.strip_lines.specs.Laws.Putting.{length_told, refused_line}
use Rattle.strip_lines.proofs.record_line.Goals as goal

pub returns-in_err-check_figures : goal.returns-in_err-check_figures
unfolding put_record_line
returns-in_err-check_figures c =
    let a = c.args in
    let n = refusal_of a.shown in
    let some = refused_not_done n (tt {0}) _ c.in_err-check_figures.ensures in
    let is = refused_line n (line_of_record a.number (number_of a.kind) a.shown) a.out.now some in
    record {
      value = refused_by c.from_residual.result c.in_err-check_figures.field-0.0 n (tt {0}) 0 c.from_residual.ensures.1 c.in_err-check_figures.ensures ∙ is.0;
      out_after = is.1;
    }

pub record_text-requires : goal.record_text-requires
record_text-requires c =
    let s = c.args.shown in
    printed s.level.0 s.headroom.0 s.gain.0 (passed c.well_formed.1.1.0.1.1.0.1.1.0.1) (passed c.well_formed.1.1.0.1.1.1.0.1.1.0.1) (passed c.well_formed.1.1.0.1.1.1.1.0.1.1.0.1)
    (passed_done _ _ _ c.in_ok-check_figures.ensures)

pub returns : goal.returns
unfolding put_record_line
returns c =
    let none = (passed_done _ _ _ c.in_ok-check_figures.ensures) in
    rw (length_told, none, ← c.record_text.ensures) c.put_into.ensures
