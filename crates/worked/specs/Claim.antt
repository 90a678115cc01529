-- The one claim on the table: every example of it holds. It is shown by computing both sides. Assumes nothing.
use Rattle.std.specs.Prelude.{refl}
use Rattle.std.specs.Float.Ieee.{of_bits, nan_bits, to_bits, of_int, le, lt, eq, ne, add, sub, mul, div, size as bits}
use Rattle.lists.specs.Each.{Each}
use Rattle.floats.specs.Kinds.{magnitude, is_negative_zero}
use Rattle.worked.specs.Table.{Holds, head, head_in_two, head_of_3000, records, printed, table}

pub every_example_holds : Each Holds table
unfolding Each Holds table head head_in_two head_of_3000 records printed of_bits nan_bits to_bits of_int le lt eq ne add sub mul div bits magnitude is_negative_zero
every_example_holds =
    ((refl, refl, refl), ((refl, refl, refl), ((refl, refl, refl, refl), ((refl, refl, refl, refl), ((refl, refl, refl), (refl, (refl, (refl, (refl, (refl, (refl, (refl, (refl, (refl, (refl, (refl, (refl, (refl, (refl, tt)))))))))))))))))))
