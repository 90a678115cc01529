-- A law of the definitions: the eight digits of a number below 2^32 are read back as that number. So no two have the same digits, and
-- what a question can ask an answer can say.
use Rattle.std.specs.Prelude.{◌≡◌, refl, Bool, true, false, ℕ, ◌+◌, ◌/◌, ◌%◌, ◌<◌, ◌≤◌, ltb}
use Rattle.std.proofs.Common.{ap, arith, lt-ltb, le-ltb, le-leb, ltb-true, ltb-false}
use Rattle.std.proofs.lemmas.Bool.{lt-leb}
use Rattle.io.specs.Digits.{hex_digit_ascii, last_digits}
use Rattle.words.specs.Hex.{Digit, digit_of, half_at, word_at}

-- a digit that is worth v
abbrev worth : ℕ → Digit
worth v = record { ok = true; value = v }

low : (d : ℕ) → d < 10 → digit_of (hex_digit_ascii d) ≡ worth d
unfolding digit_of
low d h =
    simp (lt-ltb d 10 h, le-ltb (48 + d) 48 (omega arith), le-leb (48 + d) 57 (omega arith)) (ap worth (omega arith))

high : (d : ℕ) → 10 ≤ d → d < 16 → digit_of (hex_digit_ascii d) ≡ worth d
unfolding digit_of
high d h k =
    simp
    (le-ltb d 10 h, le-ltb (87 + d) 48 (omega arith), lt-leb (87 + d) 57 (omega arith), le-ltb (87 + d) 97 (omega arith), le-leb (87 + d) 102 (omega arith))
    (ap worth (omega arith))

either : (d : ℕ) (b : Bool) → ltb d 10 ≡ b → d < 16 → digit_of (hex_digit_ascii d) ≡ worth d
either d true e k = low d (ltb-true d 10 e)
either d false e k = high d (ltb-false d 10 e) k

-- each digit is read back
digit_back : (x : ℕ) → digit_of (hex_digit_ascii (x % 16)) ≡ worth (x % 16)
digit_back x = either (x % 16) (ltb (x % 16) 10) refl (omega arith)

pub read_back : (n : ℕ) → n < 4294967296 → word_at (last_digits 16 8 n) 0 ≡ record { ok = true; bits = n }
unfolding word_at half_at
read_back n h =
    rw (
      digit_back (n / 16 / 16 / 16 / 16 / 16 / 16 / 16),
      digit_back (n / 16 / 16 / 16 / 16 / 16 / 16),
      digit_back (n / 16 / 16 / 16 / 16 / 16),
      digit_back (n / 16 / 16 / 16 / 16),
      digit_back (n / 16 / 16 / 16),
      digit_back (n / 16 / 16),
      digit_back (n / 16),
      digit_back n,
    )
    (ap (λ (b : ℕ). record { ok = true; bits = b }) (omega arith))
