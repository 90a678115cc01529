-- `strip_format::write_head` meets its contract: what is not refused is copied where it fits. Assumes nothing.
use Rattle.std.proofs.Common.{◌≡◌, ◌∙◌, ap, List, ℕ, length, take}
use Rattle.strip_format.specs.Fields.{size}
use Rattle.strip_format.specs.Format.{head_fields, head_bytes}
use Rattle.strip_format.specs.Calls.{head_refusal, put_head}
use Rattle.strip_format.specs.Laws.Heads.{head_length_lem}
use Rattle.strip_format.specs.declared.Head.{Head}
use Rattle.strip_format.proofs.Writing.{left, taken}
use Rattle.strip_format.proofs.write_head.Goals as goal

-- the part of the bytes that is copied is the head
copied : (h : Head) (made : List ℕ) (n : ℕ) → n ≡ size (head_fields h.version) → take (size (head_fields h.version)) made ≡ head_bytes h
    → take n made ≡ head_bytes h
copied h made n s m = ap (λ (k : ℕ). take k made) s ∙ m

pub returns-in_err-check_head : goal.returns-in_err-check_head
unfolding put_head
returns-in_err-check_head c =
    let h = c.args.head in
    let both = left (head_refusal h) (size (head_fields h.version)) (head_bytes h) c.args.out.now _ _ c.from_residual.ensures.1 c.in_err-check_head.ensures in
    record { value = both.0; out_after = both.1 }

pub returns : goal.returns
unfolding put_head
returns c =
    let h = c.args.head in
    let made = copied h c.head_bytes-bytes.result c.head_size-n.result c.head_size-n.ensures.value c.head_bytes-bytes.ensures in
    let both = taken (head_refusal h) (size (head_fields h.version)) (head_bytes h) _ c.args.out.now c.in_ok-check_head.ensures made (ap length made ∙ head_length_lem h)
    c.copy.ensures.value c.copy.ensures.out_after in
    record { value = both.0; out_after = both.1 }
