use Rattle.std.specs.Prelude.{◌≡◌, refl, Bool, true, false, cond, ℕ, ◌-◌, leb, ltb, Option}
use Rattle.std.specs.Option.{unwrap_or}
use Rattle.std.proofs.Common.{◌∙◌, ap}
use Rattle.words.specs.Hex.{Digit, worth_of, digit_of}
use Rattle.words.proofs.worth.Goals as goal

abbrev none : Digit
none = record { ok = false; value = 0 }

-- one of the five answers that the four tests choose between
chosen : (a b c d : Bool) (m n : ℕ)
    → unwrap_or (worth_of (cond a none (cond b (record { ok = true; value = m }) (cond c none (cond d (record { ok = true; value = n }) none))))) 0
    ≡ (cond a none (cond b (record { ok = true; value = m }) (cond c none (cond d (record { ok = true; value = n }) none)))).value
chosen true b c d m n = refl
chosen false true c d m n = refl
chosen false false true d m n = refl
chosen false false false true m n = refl
chosen false false false false m n = refl

worth_or_0 : (byte : ℕ) → unwrap_or (worth_of (digit_of byte)) 0 ≡ (digit_of byte).value
unfolding digit_of
worth_or_0 byte = chosen (ltb byte 48) (leb byte 57) (ltb byte 97) (leb byte 102) (byte - 48) (byte - 87)

pub returns-clause-value : goal.returns-clause-value
returns-clause-value c = c.unwrap_or.ensures ∙ ap (λ (o : Option ℕ). unwrap_or o 0) c.read_digit.ensures.value ∙ worth_or_0 c.args.byte
