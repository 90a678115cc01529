-- `recording_run::levelling::put_right` meets its contract. Assumes nothing.
use Rattle.std.proofs.Common.{le-leb}
use borrow.Author.Tests.{lt-leb}
use Rattle.recording_run.specs.Levelling.{righted}
use Rattle.recording_run.specs.Laws.Told.{ok_handed}
use Rattle.recording_run.proofs.levelling.put_right.Goals as goal

pub returns-then-run-written : goal.returns-then-run-written
unfolding righted
returns-then-run-written c =
    record {
      value = rw (
        ← c.head_bytes-length.ensures,
        ← c.saturating_sub.ensures,
        ← c.saturating_sub-most.ensures,
        ← c.extent_of-extent.ensures,
        ← c.saturating_sub-written.ensures,
        le-leb _ _ c.if-written-most.true,
        c.if-run-written.true,
        c.pick.ensures,
        c.is_ok-done.ensures.value,
        c.write_head.ensures.value,
        ok_handed,
      );
      out_after = rw (
        ← c.head_bytes-length.ensures,
        ← c.saturating_sub.ensures,
        ← c.saturating_sub-most.ensures,
        ← c.extent_of-extent.ensures,
        ← c.saturating_sub-written.ensures,
        le-leb _ _ c.if-written-most.true,
        c.if-run-written.true,
        c.write_head.ensures.out_after,
      );
    }

pub returns-else-run-written : goal.returns-else-run-written
unfolding righted
returns-else-run-written c =
    record {
      value = rw (
        ← c.head_bytes-length.ensures,
        ← c.saturating_sub.ensures,
        ← c.saturating_sub-most.ensures,
        ← c.extent_of-extent.ensures,
        ← c.saturating_sub-written.ensures,
        le-leb _ _ c.if-written-most.true,
        c.if-run-written.false,
      );
      out_after = rw (
        ← c.head_bytes-length.ensures,
        ← c.saturating_sub.ensures,
        ← c.saturating_sub-most.ensures,
        ← c.extent_of-extent.ensures,
        ← c.saturating_sub-written.ensures,
        le-leb _ _ c.if-written-most.true,
        c.if-run-written.false,
      );
    }

pub returns-else-written-most : goal.returns-else-written-most
unfolding righted
returns-else-written-most c =
    record {
      value = rw (
        ← c.head_bytes-length.ensures,
        ← c.saturating_sub.ensures,
        ← c.saturating_sub-most.ensures,
        ← c.extent_of-extent.ensures,
        ← c.saturating_sub-written.ensures,
        lt-leb _ _ c.if-written-most.false,
      );
      out_after = rw (
        ← c.head_bytes-length.ensures,
        ← c.saturating_sub.ensures,
        ← c.saturating_sub-most.ensures,
        ← c.extent_of-extent.ensures,
        ← c.saturating_sub-written.ensures,
        lt-leb _ _ c.if-written-most.false,
      );
    }
