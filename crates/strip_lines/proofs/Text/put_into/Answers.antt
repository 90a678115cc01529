-- `Text::put_into` meets its contract: the whole line is copied, or nothing. Assumes nothing.
use Rattle.std.proofs.Common.{sym, ap, ◌∙◌, drop, length, ◌++◌, take, List, ℕ}
use Rattle.strip_lines.specs.Laws.Putting.{fitting, too_long}
use Rattle.strip_lines.proofs.Text.put_into.Goals as goal

pub returns-then-out-line : goal.returns-then-out-line
returns-then-out-line c =
    let is = too_long _ c.args.out.now c.if-out-line.true in
    rw (← c.self.view_is) (record { value = sym is.0; out_after = sym is.1 })

pub returns : goal.returns
returns c =
    let line = take c.self.inside.len c.self.inside.bytes in
    let is = fitting line c.args.out.now c.if-out-line.false in
    rw (← c.self.view_is) (record {
      value = sym is.0;
      out_after = ap (λ (l : List ℕ). l ++ drop (length line) c.args.out.now) (c.copy_from_slice.ensures.after) ∙ sym is.1;
    })
