-- `recording_run::metering::told_at_end` meets its contract. Assumes nothing.
use Rattle.recording_run.specs.Metering.{meter_at_end}
use Rattle.recording_run.proofs.metering.told_at_end.Goals as goal

pub returns-then-meter : goal.returns-then-meter
unfolding meter_at_end
returns-then-meter c = rw (c.if-meter.true, c.told_of_samples.ensures)

pub returns-else-meter : goal.returns-else-meter
unfolding meter_at_end
returns-else-meter c = rw c.if-meter.false
