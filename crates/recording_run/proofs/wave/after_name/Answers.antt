-- `recording_run::wave::after_name` meets its contract. Assumes nothing.
use Rattle.std.proofs.Common.{le-ltb, lt-ltb, eq-eqb, ne_eqb}
use Rattle.recording_run.specs.Wave.{after_name}
use Rattle.recording_run.proofs.wave.after_name.Goals as goal

pub returns-then-channels-gt0 : goal.returns-then-channels-gt0
unfolding after_name
returns-then-channels-gt0 c = rw (eq-eqb _ _ c.if-name-eq-DATA.true, lt-ltb _ _ c.if-channels-gt0.true)

pub returns-else-channels-gt0 : goal.returns-else-channels-gt0
unfolding after_name
returns-else-channels-gt0 c = rw (eq-eqb _ _ c.if-name-eq-DATA.true, le-ltb _ _ c.if-channels-gt0.false)

pub returns-then-name-eq-FORMAT : goal.returns-then-name-eq-FORMAT
unfolding after_name
returns-then-name-eq-FORMAT c = rw (ne_eqb _ _ c.if-name-eq-DATA.false, eq-eqb _ _ c.if-name-eq-FORMAT.true)

pub returns-else-name-eq-FORMAT : goal.returns-else-name-eq-FORMAT
unfolding after_name
returns-else-name-eq-FORMAT c = rw (ne_eqb _ _ c.if-name-eq-DATA.false, ne_eqb _ _ c.if-name-eq-FORMAT.false, c.padded_size.ensures)
