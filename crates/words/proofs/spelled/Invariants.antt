-- `words::spelled` meets its contract. The invariant: the digits so far stand at the end, and those of what is left belong before them.
-- Assumes nothing.
use Rattle.std.proofs.Common.{◌≡◌, ◌-◌, ◌++◌, length, drop}
use Rattle.io.specs.Digits.{last_digits}
use Rattle.words.proofs.spelled.Given as goal

abbrev pub invariant-loop-i : goal.invariant-loop-i
invariant-loop-i l = record {
  long : length l.digits ≡ 8;
  stands : last_digits 16 (8 - l.i) l.rest ++ drop (8 - l.i) l.digits ≡ last_digits 16 8 l.bits;
}
