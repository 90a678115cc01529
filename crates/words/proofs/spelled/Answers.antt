-- `words::spelled` meets its contract. Assumes nothing.
use Rattle.std.proofs.Common.{◌≡◌, ℕ, suc, List, [], ◌∷◌, ◌++◌, ◌-◌, ◌/◌, ◌%◌, ◌+◌, ◌<◌, drop, set, length, length-set, append_assoc, arith, sym, ◌∙◌, ap}
use Rattle.std.proofs.Common.{drop-cons, get_or-set_same, drop-set-lt}
use Rattle.io.specs.Digits.{hex_digit_ascii, last_digits}
use Rattle.words.proofs.spelled.Goals as goal

-- a digit more, in front of those that stand
one_more : (j n : ℕ) (xs : List ℕ) (v : ℕ) → j < length xs → v ≡ hex_digit_ascii (n % 16)
    → last_digits 16 j (n / 16) ++ drop j (set xs j v) ≡ last_digits 16 (suc j) n ++ drop (suc j) xs
one_more j n xs v h e =
    let i : j < length (set xs j v) = simp length-set h in
    rw (drop-cons (set xs j v) j 0 i, get_or-set_same xs j v 0 h, drop-set-lt (suc j) xs j v (omega arith), e) (sym (append_assoc (last_digits 16 j (n / 16)) (hex_digit_ascii (n % 16) ∷ []) (drop (suc j) xs)))

pub loop-i-preserved : goal.loop-i-preserved
loop-i-preserved c = record {
  long = length-set _ _ _ ∙ c.loop-i.invariant.long;
  stands =
      let i = c.loop-i.i in
      let down : 8 - (i + 1) ≡ 7 - i = omega arith in
      let up : suc (7 - i) ≡ 8 - i = omega arith in
      rw down
      (one_more (7 - i) c.loop-i.rest c.loop-i.digits c.glyph.result (omega (arith, c.loop-i.invariant.long)) c.glyph.ensures
      ∙ ap (λ (k : ℕ). last_digits 16 k c.loop-i.rest ++ drop k c.loop-i.digits) up
      ∙ c.loop-i.invariant.stands);
}
