-- `wav_format::head::read_format` meets its contract. Assumes nothing.
use Rattle.std.proofs.Common.{◌∙◌, sym, ap, eq-eqb, ne_eqb}
use Rattle.units.specs.Handed.{handed}
use Rattle.units.specs.Laws.Handed.{refused_by, passed_done}
use Rattle.wav_format.specs.Head.{said, format_of, format_refusal}
use Rattle.wav_format.specs.Laws.Head.{said_plain, said_extended, said_reply}
use Rattle.wav_format.proofs.head.read_format.Goals as goal

pub returns-in_err-check_format : goal.returns-in_err-check_format
returns-in_err-check_format c =
    let bytes = c.args.bytes.now in
    refused_by c.from_residual.result c.in_err-check_format.field-0.0 (format_refusal bytes) tt (said (format_of bytes)) c.from_residual.ensures.1 c.in_err-check_format.ensures
    ∙ ap (λ n. handed n (said (format_of bytes))) (sym (said_reply bytes))

pub returns-then-tag : goal.returns-then-tag
unfolding handed
returns-then-tag c =
    let done = passed_done _ _ _ c.in_ok-check_format.ensures in
    rw (said_extended c.args.bytes.now done (eq-eqb _ _ (sym c.two_at-tag.ensures ∙ c.if-tag.true)), c.two_at.ensures, c.four_at.ensures, c.four_at-mask.ensures)

pub returns-else-tag : goal.returns-else-tag
unfolding handed
returns-else-tag c =
    let done = passed_done _ _ _ c.in_ok-check_format.ensures in
    rw (said_plain c.args.bytes.now done (ne_eqb _ _ (λ e. c.if-tag.false (c.two_at-tag.ensures ∙ e))), c.two_at.ensures, c.four_at.ensures)
