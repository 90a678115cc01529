-- `recording_run::metering::meter_sound` meets its contract. Assumes nothing.
use Rattle.recording_run.specs.Metering.{metered}
use Rattle.recording_run.specs.Laws.Told.{ok_handed}
use Rattle.recording_run.proofs.metering.meter_sound.Goals as goal

pub returns : goal.returns
unfolding metered
returns c =
    record {
      value = rw (c.pick-2.ensures, c.pick.ensures, c.is_ok-done.ensures.value, c.put_loudness.ensures.value, ok_handed, c.saturating_sub.ensures);
      out_after = c.put_loudness.ensures.out_after;
    }
