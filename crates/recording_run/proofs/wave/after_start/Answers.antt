-- `recording_run::wave::after_start` meets its contract. Assumes nothing.
use Rattle.recording_run.specs.Wave.{after_start}
use Rattle.recording_run.proofs.wave.after_start.Goals as goal

pub returns-then-is_wave : goal.returns-then-is_wave
unfolding after_start
returns-then-is_wave c = rw (← c.is_wave.ensures, c.if-is_wave.true)

pub returns-else-is_wave : goal.returns-else-is_wave
unfolding after_start
returns-else-is_wave c = rw (← c.is_wave.ensures, c.if-is_wave.false)
