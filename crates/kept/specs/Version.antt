-- The version of the library's interface: of its functions, and of the structs that a caller owns. It is another number whenever a caller that was compiled
-- for the old one would be wrong with the new archive, or one that was compiled for the new one with the old archive: there it would miss a function.
-- A definition only.
use Rattle.std.specs.Prelude.{ℕ}

abbrev pub version : ℕ
version = 3
