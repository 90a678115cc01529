-- `recording_run::levelling::frame_bytes` meets its contract. Assumes nothing.
use Rattle.std.proofs.Common.{le-leb}
use borrow.Author.Tests.{lt-leb}
use Rattle.recording_run.specs.Levelling.{frame_bytes}
use Rattle.recording_run.proofs.levelling.frame_bytes.Goals.{else-channels-le8-via-then-channels-le8+else-samples-le480, else-channels-le8-via-else-channels-le8}
use Rattle.recording_run.proofs.levelling.frame_bytes.Goals as goal

pub returns-then-samples-le480-clause-value : goal.returns-then-samples-le480-clause-value
unfolding frame_bytes
returns-then-samples-le480-clause-value c = rw (le-leb _ _ c.if-channels-le8.true, le-leb _ _ c.if-samples-le480.true)

pub returns-else-channels-le8-clause-value : goal.returns-else-channels-le8-clause-value
unfolding frame_bytes
returns-else-channels-le8-clause-value c =
    elim c.else-channels-le8.branch [
      | else-channels-le8-via-then-channels-le8+else-samples-le480 w ↦ rw (le-leb _ _ w.if-channels-le8.true, lt-leb _ _ w.if-samples-le480.false)
      | else-channels-le8-via-else-channels-le8 w ↦ rw (lt-leb _ _ w.if-channels-le8.false)
    ]
