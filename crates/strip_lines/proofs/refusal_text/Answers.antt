-- `refusal_text` meets its contract: the fields, one after the other. Assumes nothing.
use Rattle.std.proofs.Common.{◌≡◌, ℕ, [], ◌∷◌, ◌++◌, append_assoc}
use Rattle.strip_lines.specs.Lines.{decimal, refusal_line}
use Rattle.strip_lines.proofs.refusal_text.Goals as goal

-- the parts make the line
joined : (number reply : ℕ) → ((([] ++ decimal number) ++ (32 ∷ 82 ∷ 32 ∷ [])) ++ decimal reply) ++ (10 ∷ []) ≡ refusal_line number reply
unfolding refusal_line
joined number reply = simp append_assoc

pub returns : goal.returns
returns c =
    rw (
      c.push-2.ensures.text,
      c.push_number-2.ensures.text,
      c.push.ensures.text,
      c.push_number.ensures.text,
      c.new-text.ensures,
      c.from.ensures,
    )
    (joined _ _)
