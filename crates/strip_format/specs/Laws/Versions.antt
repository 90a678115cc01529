-- What two versions read alike of a record: all but a gap's length. Laws.
-- Assumes nothing.
use Rattle.std.specs.Prelude.{◌≡◌, false, List, ℕ, eqb}
use Rattle.std.proofs.Common.{sym, ◌∙◌}
use Rattle.units.specs.declared.figures.Figures.{Figures}
use Rattle.strip_format.specs.Fields.{number_at}
use Rattle.strip_format.specs.Format.{gap_length, figures}
use Rattle.strip_format.specs.Calls.{found, read_record}
use Rattle.strip_format.specs.Laws.Steps.{record_by_place, other_length}
use Rattle.strip_format.specs.Laws.Records.{stood}
use Rattle.strip_format.specs.Laws.Refusals.{record_judged}
use Rattle.strip_format.specs.declared.Version.{Version}

module _ (v w : Version) (strip : List ℕ) (at : ℕ) where
  -- "records stay": figures that are found in a version are found in every other.
  pub figures_stay : (f : Figures) → read_record v strip at ≡ found (figures f) → read_record w strip at ≡ found (figures f)
  figures_stay f e =
      let t = stood v strip at f e in
      record_judged w strip at t ∙ sym (record_judged v strip at t) ∙ e

  -- At a place whose length is not 0 all versions read the same, be it found or refused.
  pub read_alike : eqb (number_at strip at 2) gap_length ≡ false → read_record v strip at ≡ read_record w strip at
  read_alike n =
      record_by_place v strip at (other_length v (number_at strip at 2) n) ∙ sym (record_by_place w strip at (other_length w (number_at strip at 2) n))
