-- `recording_run::wave::after_head` meets its contract. Assumes nothing.
use Rattle.std.proofs.Common.{le-leb}
use borrow.Author.Tests.{lt-leb}
use Rattle.recording_run.specs.Wave.{after_head}
use Rattle.recording_run.proofs.wave.after_head.Goals as goal

pub returns-then-bytes-ge-CHUNK_BYTES : goal.returns-then-bytes-ge-CHUNK_BYTES
unfolding after_head
returns-then-bytes-ge-CHUNK_BYTES c = rw (le-leb _ _ c.if-bytes-ge-CHUNK_BYTES.true, ← c.read_chunk-chunk.ensures, c.after_name.ensures)

pub returns-else-bytes-ge-CHUNK_BYTES : goal.returns-else-bytes-ge-CHUNK_BYTES
unfolding after_head
returns-else-bytes-ge-CHUNK_BYTES c = rw (lt-leb _ _ c.if-bytes-ge-CHUNK_BYTES.false)
