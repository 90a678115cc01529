-- `recording_run::wave::fault_of` meets its contract. Assumes nothing.
use Rattle.std.proofs.Common.{sym, ◌∙◌}
use Rattle.units.specs.Handed.{number_of}
use Rattle.recording_run.specs.Wave.{fault_of}
use Rattle.recording_run.specs.Laws.Wave.{for_sizes}
use Rattle.recording_run.proofs.wave.fault_of.Goals as goal

pub returns-in-Cut : goal.returns-in-Cut
unfolding fault_of number_of
returns-in-Cut c = rw c.in-Cut.is

pub returns-in-Version : goal.returns-in-Version
unfolding fault_of number_of
returns-in-Version c = rw c.in-Version.is

pub returns-in-Length : goal.returns-in-Length
unfolding fault_of number_of
returns-in-Length c = rw c.in-Length.is

pub returns-then-channels : goal.returns-then-channels
returns-then-channels c =
    let d = c.in_default in
    rw (for_sizes c.args.refused c.args.bytes.now d.not-Cut d.not-Version d.not-Length, ← c.read_chunk-numbers.ensures, c.if-channels.true)

pub returns-else-channels : goal.returns-else-channels
returns-else-channels c =
    let d = c.in_default in
    rw (for_sizes c.args.refused c.args.bytes.now d.not-Cut d.not-Version d.not-Length, ← c.read_chunk-numbers.ensures, c.if-channels.false)
