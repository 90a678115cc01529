-- `strip_carry::take_bytes` meets its contract. The invariant: what was put, and what the bytes from here on put out, is what the block puts out, and it
-- has room. Assumes nothing.
use Rattle.std.proofs.Common.{◌≡◌, ℕ, ◌≤◌, List, ◌++◌, length, take, drop}
use Rattle.strip_reader.specs.Telling.{ran}
use Rattle.strip_reader.specs.declared.Reader.{Reader}
use Rattle.strip_carry.specs.declared.Tally.{Tally}
use Rattle.strip_carry.specs.Run.{told}
use Rattle.strip_carry.proofs.take_bytes.Given as goal

-- how far a block is taken
pub record Going (block out₀ : List ℕ) (r₀ : Reader) (t₀ : Tally) (out : List ℕ) (r : Reader) (t : Tally) (n i : ℕ) : Type 0 where
  pub lines : take n out ++ (ran told r t (drop i block)).lines ≡ (ran told r₀ t₀ block).lines
  pub reader : (ran told r t (drop i block)).reader ≡ (ran told r₀ t₀ block).reader
  pub desk : (ran told r t (drop i block)).desk ≡ (ran told r₀ t₀ block).desk
  pub rest : drop n out ≡ drop n out₀
  pub same : length out ≡ length out₀
  pub most : n ≤ length out

abbrev pub invariant-loop-byte : goal.invariant-loop-byte
invariant-loop-byte l = Going l.block l.initial.out l.initial.reader l.initial.tally l.out l.reader l.tally l.length l.byte-index
