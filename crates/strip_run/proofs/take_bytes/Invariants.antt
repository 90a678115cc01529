-- `strip_run::take_bytes` meets its contract. The invariant: the lines that were put, and those of the bytes from here on, are those of the block.
-- Assumes nothing.
use Rattle.std.proofs.Common.{◌≡◌, ℕ, ◌*◌, ◌≤◌, List, ◌++◌, length, take, drop}
use Rattle.strip_lines.specs.Lines.{longest}
use Rattle.strip_reader.specs.Telling.{Ran, ran}
use Rattle.strip_run.specs.Lines.{told}
use Rattle.strip_run.specs.Run.{run_of}
use Rattle.strip_run.specs.declared.Desk.{Desk}
use Rattle.strip_run.specs.declared.Run.{Run}
use Rattle.strip_run.proofs.take_bytes.Given as goal

-- what bytes make of a run
abbrev pub ran_by : Run → List ℕ → Ran Desk
ran_by r bytes = ran told r.reader r.desk bytes

-- how far a block is taken
pub record Going (block out₀ : List ℕ) (r₀ : Run) (out : List ℕ) (r : Run) (n i : ℕ) : Type 0 where
  pub lines : take n out ++ (ran_by r (drop i block)).lines ≡ (ran_by r₀ block).lines
  pub run : run_of (ran_by r (drop i block)) ≡ run_of (ran_by r₀ block)
  pub rest : drop n out ≡ drop n out₀
  pub same : length out ≡ length out₀
  pub most : n ≤ longest * i
  pub within : i ≤ length block

abbrev pub invariant-loop-byte : goal.invariant-loop-byte
invariant-loop-byte l =
    Going l.block l.initial.out (record { reader = l.initial.reader; desk = l.initial.desk }) l.out (record { reader = l.reader; desk = l.desk }) l.length l.byte-index
