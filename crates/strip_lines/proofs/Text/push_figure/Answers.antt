-- `Text::push_figure` meets its contract: the number, and a sign in front of it where it is below zero. Assumes nothing.
use Rattle.std.proofs.Common.{append_assoc}
use Rattle.strip_lines.specs.Laws.Cutting.{signed, unsigned}
use Rattle.strip_lines.proofs.Text.push_figure.Goals.{then-signed, else-signed}
use Rattle.strip_lines.proofs.Text.push_figure.Goals as goal

pub returns-clause-text : goal.returns-clause-text
returns-clause-text c =
    elim c.if-signed.branch [
      | then-signed w ↦ rw (c.push_number.ensures.text, w.self-is, w.push.ensures.text, signed c.args.x.value c.hundredths-n.result c.hundredths-n.ensures w.if-signed.true) (simp append_assoc)
      | else-signed w ↦ rw (c.push_number.ensures.text, w.self-is, unsigned c.args.x.value c.hundredths-n.result c.hundredths-n.ensures w.if-signed.false)
    ]
