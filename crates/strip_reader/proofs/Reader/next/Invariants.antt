-- `strip_reader::Reader::next` meets its contract. The invariant: nothing came out yet, and what was used, and what the bytes from here on give, are what
-- the block gives. Assumes nothing.
use Rattle.std.proofs.Common.{◌≡◌, true, drop}
use Rattle.strip_reader.specs.Reader.{more, next}
use Rattle.strip_reader.specs.Laws.Steps.{onward}
use Rattle.strip_reader.proofs.Reader.next.Given as goal

abbrev pub invariant-loop-byte : goal.invariant-loop-byte
invariant-loop-byte l = record {
  used : l.used ≡ l.byte-index;
  gives : onward true l.used l.reader more (drop l.byte-index l.byte-items) ≡ next l.initial.reader l.byte-items;
}
