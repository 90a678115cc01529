-- `check_figures` meets its contract: the three tests, and the first number that applies. Assumes nothing.
use Rattle.std.proofs.Common.{Bool, true, ◌&&◌, ap, ap₂, ◌∙◌}
use Rattle.units.specs.Replies.{refusal}
use Rattle.units.specs.Handed.{handed}
use Rattle.strip_lines.specs.Calls.{record_refusal}
use Rattle.strip_lines.proofs.check_figures.Goals as goal

pub returns : goal.returns
unfolding record_refusal
returns c =
    c.check.ensures
    ∙ ap (λ (b : Bool). handed (refusal true true b true) tt) (ap₂ ◌&&◌ (ap₂ ◌&&◌ c.is_level.ensures c.is_headroom.ensures) c.is_gain.ensures)
