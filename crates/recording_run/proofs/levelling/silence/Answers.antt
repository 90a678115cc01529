-- `recording_run::levelling::silence` meets its contract. The invariant: what is done, then silence in the place of what is left. Assumes nothing.
use Rattle.std.proofs.Common.{sym, refl, ◌∙◌, length-set, rules}
use Rattle.lists.specs.Loops.{in_place, in_place_done}
use Rattle.recording_run.specs.Levelling.{quiet, silenced}
use Rattle.recording_run.proofs.levelling.silence.Goals as goal

pub loop-i-init : goal.loop-i-init
unfolding silenced
loop-i-init c = (refl, refl)

pub loop-i-preserved : goal.loop-i-preserved
unfolding quiet
loop-i-preserved c = (simp length-set c.loop-i.invariant.0, in_place quiet quiet c.loop-i.bytes c.loop-i.i 0 0 (search rules) refl ∙ c.loop-i.invariant.1)

pub returns : goal.returns
unfolding quiet
returns c = sym (in_place_done quiet c.loop-i.bytes c.loop-i.i (search rules) refl) ∙ c.loop-i.invariant.1
