-- `recording_run::levelling::told_minute` meets its contract. Assumes nothing.
use Rattle.std.proofs.Common.{eq-eqb, ne_eqb}
use Rattle.recording_run.specs.Levelling.{minute}
use Rattle.recording_run.proofs.levelling.told_minute.Goals as goal

pub returns-then-frames-eq0 : goal.returns-then-frames-eq0
unfolding minute
returns-then-frames-eq0 c = rw (eq-eqb _ _ c.if-frames-eq0.true)

pub returns-else-frames-eq0 : goal.returns-else-frames-eq0
unfolding minute
returns-else-frames-eq0 c = rw (ne_eqb _ _ c.if-frames-eq0.false)
