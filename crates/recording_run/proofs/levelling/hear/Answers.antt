-- `recording_run::levelling::hear` meets its contract. Assumes nothing.
use Rattle.std.proofs.Common.{ℕ, ap, ◌∙◌}
use Rattle.recording_run.specs.Levelling.{silenced}
use Rattle.recording_run.proofs.levelling.hear.Goals as goal

pub returns : goal.returns
returns c = record {
  value = c.whole_groups-n.ensures.value;
  bytes_after = c.silence.ensures ∙ ap (λ (n : ℕ). silenced n c.args.bytes.now) c.whole_groups-n.ensures.value;
}
