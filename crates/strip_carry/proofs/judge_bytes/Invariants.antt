-- `strip_carry::judge_bytes` meets its contract. The invariant: what the bytes from here on give is what the block gives. Assumes nothing.
use Rattle.std.proofs.Common.{◌≡◌, ℕ, List, length, drop}
use Rattle.strip_reader.specs.Telling.{ran}
use Rattle.strip_reader.specs.declared.Reader.{Reader}
use Rattle.strip_carry.specs.declared.Tally.{Tally}
use Rattle.strip_carry.specs.Run.{told, longest}
use Rattle.strip_carry.proofs.judge_bytes.Given as goal

-- how far a block is taken
pub record Going (block : List ℕ) (r₀ : Reader) (t₀ : Tally) (r : Reader) (t : Tally) (scratch : List ℕ) (i : ℕ) : Type 0 where
  pub reader : (ran told r t (drop i block)).reader ≡ (ran told r₀ t₀ block).reader
  pub desk : (ran told r t (drop i block)).desk ≡ (ran told r₀ t₀ block).desk
  pub room : length scratch ≡ longest

abbrev pub invariant-loop-byte : goal.invariant-loop-byte
invariant-loop-byte l = Going l.block l.initial.reader l.initial.tally l.reader l.tally l.scratch l.byte-index
