-- `recording_run::levelling::take_figures` meets its contract. Assumes nothing.
use Rattle.std.proofs.Common.{sym, eq-eqb, ne_eqb}
use Rattle.units.specs.Laws.Handed.{handed_ok, refused_not_done}
use Rattle.recording_frame.specs.Levelling.{levelled}
use Rattle.recording_frame.specs.Laws.Numbers.{levelled_number}
use Rattle.recording_run.specs.Levelling.{framed}
use Rattle.recording_run.proofs.levelling.take_figures.Goals as goal

pub returns-in-Ok : goal.returns-in-Ok
unfolding framed
returns-in-Ok c =
    let a = c.args in
    let l = (levelled a.run.chain a.figures a.bytes.now a.channels a.samples).next in
    let ok = handed_ok l.reply l.chain c.in-Ok.chain (sym c.in-Ok.ensures.value) in
    record {
      value = rw (eq-eqb _ _ ok.0, ok.1, c.told_minute.ensures, c.saturating_sub.ensures);
      bytes_after = c.level_bytes.ensures.bytes_after;
    }

pub returns-in-Err : goal.returns-in-Err
unfolding framed
returns-in-Err c =
    let a = c.args in
    let l = (levelled a.run.chain a.figures a.bytes.now a.channels a.samples).next in
    record {
      value = rw (
        ne_eqb _ _ (refused_not_done l.reply l.chain c.in-Err.refused c.in-Err.ensures.value),
        c.refuse.ensures,
        c.number.ensures,
        levelled_number a.run.chain a.figures a.bytes.now a.channels a.samples l.chain c.in-Err.refused c.in-Err.ensures.value,
      );
      bytes_after = c.level_bytes.ensures.bytes_after;
    }
