-- `strip_run::silent` meets its contract. Assumes nothing.
use Rattle.std.proofs.Common.{refl}
use Rattle.strip_run.specs.Lines.{silence}
use Rattle.strip_run.proofs.silent.Goals as goal

pub returns : goal.returns
unfolding silence
returns c = record {
  len = refl;
  value = refl;
}
