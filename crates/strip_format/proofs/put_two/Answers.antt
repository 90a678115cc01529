-- `strip_format::put_two` meets its contract: two bytes are stored, the most significant first. Assumes nothing.
use Rattle.std.proofs.Common.{◌≡◌, ℕ, ◌+◌, ◌-◌, ◌/◌, ◌%◌, List, ◌++◌, take, drop, sym, ap, ◌∙◌, append_assoc, arith, drop-drop}
use Rattle.std.specs.Int.{w16, to_be_bytes}
use borrow.Rule.Slice.PartMut.{put_mid}
use Rattle.strip_format.specs.Fields.{big_endian}
use Rattle.strip_format.proofs.put_two.Goals as goal

-- the last two bytes of a number
spelled : (n : ℕ) → to_be_bytes w16 (n % 65536) ≡ big_endian 2 n
unfolding big_endian
spelled n =
    let high : n % 65536 / 256 % 256 ≡ n / 256 % 256 = omega arith in
    let low : n % 65536 % 256 ≡ n % 256 = omega arith in
    rw (high, low)

stored : (l ys : List ℕ) (at n : ℕ) → ys ≡ to_be_bytes w16 (n % 65536) → put_mid at (at + 2 - at) l ys ≡ take at l ++ big_endian 2 n ++ drop (at + 2) l
stored l ys at n e =
    let bytes : ys ≡ big_endian 2 n = e ∙ spelled n in
    let two : at + 2 - at ≡ 2 = omega arith in
    rw (two, bytes)
    (sym (append_assoc (take at l) (big_endian 2 n) (drop 2 (drop at l))) ∙ ap (λ (rest : List ℕ). take at l ++ big_endian 2 n ++ rest) (drop-drop 2 at l))

pub returns : goal.returns
returns c = stored c.args.out.now c.copy_from_slice.new.self c.args.at c.args.n (c.copy_from_slice.ensures.after ∙ c.to_be_bytes.ensures)
