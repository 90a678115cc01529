-- `recording_run::metering::begin` meets its contract. Assumes nothing.
use Rattle.recording_run.specs.Metering.{started}
use Rattle.recording_run.specs.Laws.Told.{ok_handed}
use Rattle.recording_run.proofs.metering.begin.Goals as goal

pub returns : goal.returns
unfolding started
returns c =
    record {
      value = rw (c.pick.ensures, c.is_ok-done.ensures.value, c.put_format.ensures.value, ok_handed, c.extent_of-extent.ensures);
      out_after = c.put_format.ensures.out_after;
    }
