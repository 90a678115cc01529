-- The lines that the program `strip` prints, as bytes. Definitions only.
use Rattle.std.specs.Prelude.{Bool, cond, ◌&&◌, List, [], ◌∷◌, ◌++◌, ℕ, zero, suc, ◌+◌, ◌*◌, ◌/◌, ◌%◌, eqb, ltb, Float}
use Rattle.std.specs.Float.{binary32}
use Rattle.std.specs.Float.Ieee.{of_bits, lt}
use Rattle.rounding.specs.Units.{U, size}
use Rattle.chain.specs.Answer.{said}
use Rattle.strip_lines.specs.declared.Kind.{Kind}
use Rattle.strip_lines.specs.declared.Kind.TheVariants.{Frame, Gap}

-- ---- the characters, in ASCII
abbrev pub space : ℕ
space = 32

abbrev pub newline : ℕ
newline = 10

abbrev pub minus : ℕ
minus = 45

-- the digit of a number below 10
abbrev pub digit : ℕ → ℕ
digit n = 48 + n

-- ---- numbers
-- the decimal digits of a number that has at most so many of them, with no zero in front
unfoldable pub spelled : ℕ → ℕ → List ℕ
spelled zero n = []
spelled (suc k) n = cond (ltb n 10) (digit n ∷ []) (spelled k (n / 10) ++ (digit (n % 10) ∷ []))

-- a number of 64 bits has at most 20
unfoldable pub decimal : ℕ → List ℕ
unfolding spelled
decimal n = spelled 20 n

-- "hundredths of the exact value, cut toward zero": x is so many units, of which U make 1
unfoldable pub hundredths : Float → ℕ
unfolding size U
hundredths x = 100 * size x / U

-- "zero never signed"
unfoldable pub figure : Float → List ℕ
unfolding hundredths decimal
figure x =
    cond (lt x (of_bits binary32 0x0000_0000) && ltb 0 (hundredths x)) (minus ∷ decimal (hundredths x)) (decimal (hundredths x))

-- ---- fields
-- what a line is of, by its number: a frame has the number of its answer's case, and a gap 3
abbrev pub gap_kind : ℕ
gap_kind = 3

abbrev pub number_of : Kind → ℕ
number_of (Frame answer) = (said answer).number
number_of Gap = gap_kind

-- "Kind is N non-speech, W waiting, P publishing"; "the program prints [a gap] with kind G". A number above 3 has no letter.
unfoldable pub letter : ℕ → List ℕ
letter kind =
    cond (eqb kind 0) (78 ∷ [])
    (cond (eqb kind 1) (87 ∷ [])
    (cond (eqb kind 2) (80 ∷ [])
    (cond (eqb kind gap_kind) (71 ∷ []) [])))

-- "confident 0 or 1"
abbrev pub flag : Bool → ℕ
flag b = cond b (digit 1) (digit 0)

-- ---- lines
-- no line is longer: four numbers of at most 20 digits, three signs and eight single characters fit
abbrev pub longest : ℕ
longest = 96

-- "for each record, single spaces between fields, a newline after each line ..: number from 1, kind, level, headroom, gain in dB .., confident 0 or 1"
unfoldable pub record_line : ℕ → ℕ → Float → Float → Float → Bool → List ℕ
unfolding decimal letter figure
record_line number kind level headroom gain confident =
    decimal number
    ++ (space
    ∷ letter kind
    ++ (space
    ∷ figure level
    ++ (space ∷ figure headroom ++ (space ∷ figure gain ++ (space ∷ flag confident ∷ newline ∷ [])))))

-- "A refusal prints its record's number (0 for the head), R and the reply's number"
unfoldable pub refusal_line : ℕ → ℕ → List ℕ
unfolding decimal
refusal_line number reply = decimal number ++ (space ∷ 82 ∷ space ∷ decimal reply ++ (newline ∷ []))
