-- Eight lower-case hexadecimal digits as a number, at a place of a line. The digits of a number are the kit's own `digits 16 8`.
-- Definitions only.
use Rattle.std.specs.Prelude.{Bool, true, false, cond, ◌&&◌, List, ℕ, ◌+◌, ◌-◌, ◌*◌, leb, ltb, length, get_or, Option, Some, None, Result, Ok, Err}
use Rattle.std.proofs.Math.Seq.{paste}
use Rattle.io.specs.Digits.{last_digits}

-- whether a byte is a hexadecimal digit in lower case, and what it is worth: 0 where it is none
pub record Digit : Type 0 where
  pub ok : Bool
  pub value : ℕ

-- whether some bytes are all such digits, and the number that they make
pub record Word : Type 0 where
  pub ok : Bool
  pub bits : ℕ

-- what a digit is worth, where it is one
abbrev pub worth_of : Digit → Option ℕ
worth_of d = cond d.ok (Some d.value) None

-- the number that a word makes: Ok where all its bytes are digits, and otherwise Err
abbrev pub number_of : Word → Result ℕ ℕ
number_of w = cond w.ok (Ok w.bits) (Err w.bits)

-- "0" to "9", which are the bytes 48 to 57, are worth 0 to 9; "a" to "f", which are 97 to 102, are worth 10 to 15; no other byte is a digit
unfoldable pub digit_of : ℕ → Digit
digit_of byte =
    cond (ltb byte 48)
    (record { ok = false; value = 0 })
    (cond (leb byte 57)
    (record { ok = true; value = byte - 48 })
    (cond (ltb byte 97)
    (record { ok = false; value = 0 })
    (cond (leb byte 102) (record { ok = true; value = byte - 87 }) (record { ok = false; value = 0 }))))

-- the digit at a place of a line
abbrev pub digit_at : List ℕ → ℕ → Digit
digit_at line at = digit_of (get_or line at 0)

-- the number of four digits, the first of them worth the most
unfoldable pub half_at : List ℕ → ℕ → Word
half_at line at =
    record {
      ok = (digit_at line at).ok && (digit_at line (at + 1)).ok && (digit_at line (at + 2)).ok && (digit_at line (at + 3)).ok;
      bits =
          (digit_at line at).value * 4096
          + (digit_at line (at + 1)).value * 256
          + (digit_at line (at + 2)).value * 16
          + (digit_at line (at + 3)).value;
    }

-- the number of eight digits: two halves, the first of them worth the most
unfoldable pub word_at : List ℕ → ℕ → Word
word_at line at =
    record {
      ok = (half_at line at).ok && (half_at line (at + 4)).ok;
      bits = (half_at line at).bits * 65536 + (half_at line (at + 4)).bits;
    }

-- whether eight bytes from a place on lie within n
abbrev pub fits : ℕ → ℕ → Bool
fits n at = leb (at + 8) n

-- the number of the eight digits at a place of a line; none where the line ends before
unfoldable pub read_at : List ℕ → ℕ → Word
read_at line at = cond (fits (length line) at) (word_at line at) (record { ok = false; bits = 0 })

-- the buffer with the eight digits of a number at a place; as it was where they do not fit
unfoldable pub put_at : List ℕ → ℕ → ℕ → List ℕ
put_at out at bits = cond (fits (length out) at) (paste out at (last_digits 16 8 bits) 8) out
