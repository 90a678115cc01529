-- `strip_format::record_bytes` meets its contract. Assumes nothing.
use Rattle.std.proofs.Common.{◌≡◌, List, [], ◌∷◌, ◌++◌, ℕ, take, drop, ◌∙◌}
use lib.ListN.{replicate}
use Rattle.units.specs.declared.figures.Figures.{Figures}
use Rattle.strip_format.specs.Fields.{big_endian, written}
use Rattle.strip_format.specs.Format.{record_numbers, record_bytes}
use Rattle.strip_format.specs.Steps.{floats_bytes}
use Rattle.strip_format.proofs.record_bytes.Goals as goal

bytes-are : (f : Figures) (o p : List ℕ) → o ≡ take 0 (replicate 22 0) ++ big_endian 2 20 ++ drop 2 (replicate 22 0)
    → p ≡ take 2 o ++ floats_bytes (f.probability ∷ f.rms.0 ∷ f.peak.0 ∷ f.noise.0 ∷ f.envelope.0 ∷ []) ++ drop 22 o → p ≡ record_bytes f
unfolding record_bytes record_numbers written floats_bytes big_endian
bytes-are f o p d e = e ∙ rw d

pub returns : goal.returns
returns c = bytes-are c.args.figures _ _ c.put_two.ensures c.put_floats.ensures
