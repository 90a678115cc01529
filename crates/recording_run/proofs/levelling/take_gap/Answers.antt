-- `recording_run::levelling::take_gap` meets its contract. Assumes nothing.
use Rattle.std.proofs.Common.{true, sym, eq-eqb, ne_eqb}
use Rattle.units.specs.Laws.Handed.{handed_ok, refused_not_done, check_number}
use Rattle.chain.specs.Chain.{passes}
use Rattle.chain.specs.Calls.{gap}
use Rattle.recording_run.specs.Levelling.{gapped}
use Rattle.recording_run.proofs.levelling.take_gap.Goals as goal

pub returns-in-Ok : goal.returns-in-Ok
unfolding gapped
returns-in-Ok c =
    let g = gap c.args.run.chain in
    let ok = handed_ok g.reply g.chain c.in-Ok.chain (sym c.in-Ok.ensures) in
    rw (eq-eqb _ _ ok.0, ok.1, c.after_gap.ensures)

pub returns-in-Err : goal.returns-in-Err
unfolding gapped gap
returns-in-Err c =
    let g = gap c.args.run.chain in
    rw (
      ne_eqb _ _ (refused_not_done g.reply g.chain c.in-Err.no_gap c.in-Err.ensures),
      c.refuse.ensures,
      c.number.ensures,
      check_number true (passes c.args.run.chain) true true g.chain c.in-Err.no_gap c.in-Err.ensures,
    )
