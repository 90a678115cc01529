-- `strip_format::put_float` meets its contract: four bytes are stored, the most significant first. Assumes nothing.
use Rattle.std.proofs.Common.{◌≡◌, ℕ, ◌+◌, ◌-◌, List, ◌++◌, take, drop, sym, ap, ◌∙◌, append_assoc, arith, drop-drop}
use Rattle.std.proofs.Math.Nat.{div-div-eq-div-mul}
use Rattle.std.specs.Int.{w32, to_be_bytes}
use borrow.Rule.Slice.PartMut.{put_mid}
use Rattle.bits.specs.Floats.{pattern_of}
use Rattle.strip_format.specs.Fields.{big_endian}
use Rattle.strip_format.proofs.put_float.Goals as goal

-- the four bytes of a number
spelled : (n : ℕ) → to_be_bytes w32 n ≡ big_endian 4 n
unfolding big_endian
spelled n = simp div-div-eq-div-mul

stored : (l ys : List ℕ) (at bits pattern : ℕ) → ys ≡ to_be_bytes w32 bits → bits ≡ pattern
    → put_mid at (at + 4 - at) l ys ≡ take at l ++ big_endian 4 pattern ++ drop (at + 4) l
stored l ys at bits pattern e h =
    let bytes : ys ≡ big_endian 4 pattern = e ∙ spelled bits ∙ ap (big_endian 4) h in
    let four : at + 4 - at ≡ 4 = omega arith in
    rw (four, bytes)
    (sym (append_assoc (take at l) (big_endian 4 pattern) (drop 4 (drop at l))) ∙ ap (λ (rest : List ℕ). take at l ++ big_endian 4 pattern ++ rest) (drop-drop 4 at l))

pub returns : goal.returns
returns c = stored c.args.out.now c.copy_from_slice.new.self c.args.at c.bits_of.result (pattern_of c.args.x) (c.copy_from_slice.ensures.after ∙ c.to_be_bytes.ensures) c.bits_of.ensures
