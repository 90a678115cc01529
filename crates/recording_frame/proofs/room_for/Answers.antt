-- `recording_frame::room_for` meets its contract: eight channels of 480 samples are 3840. Assumes nothing.
use Rattle.std.proofs.Common.{le-leb, lt_of_le_of_lt, mul-le-mul, lit<}
use borrow.Author.Tests.{lt-leb}
use Rattle.recording_frame.specs.Steps.{room_for}
use Rattle.recording_frame.proofs.room_for.Goals as goal
use Rattle.recording_frame.proofs.room_for.Goals.{else-channels-le8-via-then-channels-le8+else-samples-le480, else-channels-le8-via-else-channels-le8}

pub overflow_mul-result : goal.overflow_mul-result
overflow_mul-result c = record { fits = lt_of_le_of_lt {m = 3840} (mul-le-mul c.if-channels-le8.true c.if-samples-le480.true) (lit< tt) }

pub returns-then-samples-le480 : goal.returns-then-samples-le480
unfolding room_for
returns-then-samples-le480 c = record {
  upper_bound = mul-le-mul c.if-channels-le8.true c.if-samples-le480.true;
  value = rw (le-leb _ _ c.if-channels-le8.true, le-leb _ _ c.if-samples-le480.true);
}

pub returns-else-channels-le8-clause-value : goal.returns-else-channels-le8-clause-value
unfolding room_for
returns-else-channels-le8-clause-value c =
    elim c.else-channels-le8.branch [
      | else-channels-le8-via-then-channels-le8+else-samples-le480 w ↦ rw (le-leb _ _ w.if-channels-le8.true, lt-leb _ _ w.if-samples-le480.false)
      | else-channels-le8-via-else-channels-le8 w ↦ rw (lt-leb _ _ w.if-channels-le8.false)
    ]
