-- `record_text` meets its contract: the fields, one after the other. Assumes nothing.
use Rattle.std.proofs.Common.{◌≡◌, ℕ, [], ◌∷◌, ◌++◌, append_assoc}
use Rattle.chain.specs.declared.Published.{Published}
use Rattle.strip_lines.specs.Lines.{decimal, figure, letter, flag, record_line}
use Rattle.strip_lines.specs.Calls.{line_of_record}
use Rattle.strip_lines.proofs.record_text.Goals as goal

-- the parts make the line
joined : (number kind : ℕ) (p : Published) (l d : ℕ) → l ∷ [] ≡ letter kind → d ≡ flag p.confident
    → ((((((([] ++ decimal number) ++ (32 ∷ l ∷ 32 ∷ [])) ++ figure p.level.0) ++ (32 ∷ [])) ++ figure p.headroom.0) ++ (32 ∷ [])) ++ figure p.gain.0) ++ (32 ∷ d ∷ 10 ∷ [])
    ≡ line_of_record number kind p
unfolding record_line
joined number kind p l d e f = rw (← e, f) (simp append_assoc)

pub returns : goal.returns
returns c =
    rw (
      c.push-4.ensures.text,
      c.push_figure-3.ensures.text,
      c.push-3.ensures.text,
      c.push_figure-2.ensures.text,
      c.push-2.ensures.text,
      c.push_figure.ensures.text,
      c.push.ensures.text,
      c.push_number.ensures.text,
      c.new-text.ensures,
    )
    (joined _ _ c.args.shown _ _ c.letter.ensures c.digit.ensures)
