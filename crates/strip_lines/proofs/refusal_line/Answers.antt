-- `refusal_line` meets its contract: the line is made, and put. Assumes nothing.
use Rattle.strip_lines.specs.Calls.{put_refusal_line}
use Rattle.strip_lines.specs.Laws.Putting.{length_told}
use Rattle.strip_lines.proofs.refusal_line.Goals as goal

pub returns : goal.returns
unfolding put_refusal_line
returns c = rw (length_told, ← c.refusal_text.ensures) c.put_into.ensures
