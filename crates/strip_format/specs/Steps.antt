-- What the steps of reading and writing answer, on the way to what `Calls` says. Definitions only.
use Rattle.std.specs.Prelude.{◌≡◌, cond, List, [], ◌∷◌, ◌++◌, ℕ, ◌+◌, eqb, leb, Float, length, Result, Ok, Err}
use Rattle.bits.specs.Floats.{pattern_of}
use Rattle.units.specs.Replies.{done, cut, bad_length, bad_version}
use Rattle.strip_format.specs.Fields.{size, big_endian, number_at}
use Rattle.strip_format.specs.Format.{number_of, head_fields, head_length, record_fields, record_length}
use Rattle.strip_format.specs.declared.Version.{Version}
use Rattle.strip_format.specs.declared.Version.TheVariants.{One, Two}
use Rattle.units.specs.declared.refusals.Refusal.{Refusal}
use Rattle.units.specs.declared.refusals.Refusal.TheVariants.{Version as Bad}

-- what a strip's head is refused with before its numbers are read: 5 for fewer than 3 bytes, 7, 6, 5
unfoldable pub head_place : Version → List ℕ → ℕ
unfolding number_at
head_place v strip =
    cond (leb 3 (length strip))
    (cond (eqb (number_at strip 2 1) (number_of v))
    (cond (eqb (number_at strip 0 2) (head_length v)) (cond (leb (size (head_fields v)) (length strip)) done cut) bad_length)
    bad_version)
    cut

-- what a record that is no gap is refused with before its figures are read: 5 for one byte, 6, 5
unfoldable pub record_place : List ℕ → ℕ → ℕ
unfolding number_at
record_place strip at =
    cond (leb (at + 2) (length strip))
    (cond (eqb (number_at strip at 2) record_length) (cond (leb (at + size record_fields) (length strip)) done cut) bad_length)
    cut

-- the bytes of floats, one after the other
unfoldable pub floats_bytes : List Float → List ℕ
unfolding big_endian pattern_of
floats_bytes [] = []
floats_bytes (x ∷ xs) = big_endian 4 (pattern_of x) ++ floats_bytes xs

-- the version of a number: another than 1 and 2 is refused
unfoldable pub Says : ℕ → Result Version Refusal → Type 0
Says n r = r ≡ cond (eqb n 1) (Ok One) (cond (eqb n 2) (Ok Two) (Err Bad))
