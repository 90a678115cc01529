-- "The programs take 4 unless `--ring N` is given": the first two words of a command. Definitions only.
use Rattle.std.specs.Prelude.{Bool, true, ◌&&◌, cond, List, ℕ, ◌+◌, ◌*◌, ◌-◌, leb, eqb, length, get_or, Result, Ok, Err}
use Rattle.saturation_protector_buffer.specs.Ring.{is_capacity, usual}
use Rattle.ring_word.specs.declared.Wish.{Wish}

-- `--ring`
unfoldable pub is_ring : List ℕ → Bool
is_ring word =
    eqb (length word) 6
    && (eqb (get_or word 0 0) 45
    && eqb (get_or word 1 0) 45
    && eqb (get_or word 2 0) 114
    && eqb (get_or word 3 0) 105
    && eqb (get_or word 4 0) 110
    && eqb (get_or word 5 0) 103)

-- `0` to `9`
unfoldable pub is_digit : ℕ → Bool
is_digit byte = leb 48 byte && leb byte 57

-- the number that one digit is, and that two are; 0 for what is none, and no ring has a capacity of 0
unfoldable pub one_digit : ℕ → ℕ
unfolding is_digit
one_digit byte = cond (is_digit byte) (byte - 48) 0

unfoldable pub two_digits : ℕ → ℕ → ℕ
unfolding is_digit
two_digits tens ones = cond (is_digit tens && is_digit ones) (10 * (tens - 48) + (ones - 48)) 0

-- the number that a word is
unfoldable pub number_of : List ℕ → ℕ
unfolding one_digit two_digits
number_of word = cond (eqb (length word) 1) (one_digit (get_or word 0 0)) (cond (eqb (length word) 2) (two_digits (get_or word 0 0) (get_or word 1 0)) 0)

-- whether what the words ask for can be had, the capacity, and the number of the first word behind them
pub record Asked : Type 0 where
  pub ok : Bool
  pub capacity : ℕ
  pub from : ℕ

-- the two words say the capacity, or they are something else, and it is the usual one
unfoldable pub asked_by : List ℕ → List ℕ → Asked
unfolding is_ring number_of is_capacity
asked_by first second =
    cond (is_ring first) (record { ok = is_capacity (number_of second); capacity = number_of second; from = 3 }) (record { ok = true; capacity = usual; from = 1 })

-- what the code answers: the wish, which is an Err where it cannot be had
unfoldable pub granted : Asked → Result Wish Wish
granted a = cond a.ok (Ok (record { capacity = a.capacity; from = a.from })) (Err (record { capacity = a.capacity; from = a.from }))
