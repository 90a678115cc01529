-- The decimal digits of a number are its last ones, as many as it takes.
-- Assumes nothing.
use Rattle.std.specs.Prelude.{◌≡◌, ℕ, zero, suc, List, [], ◌∷◌, ◌++◌, ◌-◌, ◌/◌, ◌%◌, ◌^◌, ◌≤◌, ◌<◌}
use Rattle.std.proofs.Common.{ap, arith, pow-suc, lt-ltb, le-ltb}
use Rattle.io.specs.Digits.{hex_digit_ascii, last_digits, IsDigitCount}
use Rattle.strip_lines.specs.Lines.{digit, spelled, decimal}

-- the last digit has the same byte
last_digit : (n : ℕ) → hex_digit_ascii (n % 10) ≡ digit (n % 10)
last_digit n = rw (lt-ltb (n % 10) 10 (omega arith))

some : (k : ℕ) → 0 < 10 ^ k
some zero = omega arith
some (suc k) = omega (arith, pow-suc 10 k, some k)

-- a number that takes k digits is spelled by them, where there may be more
digits_spelled : (k m n : ℕ) → IsDigitCount 10 1 n k → k ≤ m → last_digits 10 k n ≡ spelled m n
unfolding spelled
digits_spelled zero m n c h = absurd (omega (arith, c.0))
digits_spelled (suc k) zero n c h = absurd (omega arith)
digits_spelled (suc zero) (suc m) n c h =
    let few : n < 10 = omega (arith, c.1) in
    let same : n % 10 ≡ n = omega arith in
    rw (last_digit n, same, lt-ltb n 10 few)
digits_spelled (suc (suc k)) (suc m) n c h =
    let down : suc (suc k) - 1 ≡ suc k = omega arith in
    let down' : suc k - 1 ≡ k = omega arith in
    let most : n < 10 ^ suc (suc k) = c.1 in
    let least : 10 ^ suc k ≤ n = rw down at (c.2 (omega arith)) in
    let many : 10 ≤ n = omega (arith, pow-suc 10 k, some k) in
    let rest : IsDigitCount 10 1 (n / 10) (suc k) =
    (omega arith, omega (arith, pow-suc 10 (suc k)), λ one. rw down' (omega (arith, pow-suc 10 k)))
    in
    rw (le-ltb n 10 many, last_digit n)
    (ap (λ (l : List ℕ). l ++ (digit (n % 10) ∷ [])) (digits_spelled (suc k) m (n / 10) rest (omega arith)))

-- the digits of a number of 64 bits
pub decimal_digits : (k n : ℕ) → IsDigitCount 10 1 n k → k ≤ 20 → last_digits 10 k n ≡ decimal n
unfolding decimal
decimal_digits k n c h = digits_spelled k 20 n c h
