-- `recording_run::wave::take_bytes` meets its contract, stage by stage. Assumes nothing.
use Rattle.recording_run.specs.Wave.{took, took_at}
use Rattle.recording_run.proofs.wave.take_bytes.Goals as goal

pub returns-then-failed : goal.returns-then-failed
unfolding took
returns-then-failed c = rw c.if-failed.true

pub returns-in-Start : goal.returns-in-Start
unfolding took took_at
returns-in-Start c = rw (c.if-failed.false, c.in-Start.is, c.after_start.ensures)

pub returns-in-Chunk : goal.returns-in-Chunk
unfolding took took_at
returns-in-Chunk c = rw (c.if-failed.false, c.in-Chunk.is, c.after_head.ensures)

pub returns-in-Format : goal.returns-in-Format
unfolding took took_at
returns-in-Format c = rw (c.if-failed.false, c.in-Format.is, c.after_format.ensures)

pub returns-in-Skip : goal.returns-in-Skip
unfolding took took_at
returns-in-Skip c = rw (c.if-failed.false, c.in-Skip.is, c.after_skip.ensures)

pub returns-in-Samples : goal.returns-in-Samples
unfolding took took_at
returns-in-Samples c = rw (c.if-failed.false, c.in-Samples.is)

pub returns-in-Over : goal.returns-in-Over
unfolding took took_at
returns-in-Over c = rw (c.if-failed.false, c.in-Over.is)
