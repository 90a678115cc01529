-- `recording_run::wave::after_format` meets its contract. Assumes nothing.
use Rattle.std.proofs.Common.{sym, eq-eqb, ne_eqb}
use Rattle.units.specs.Laws.Handed.{handed_ok, refused_not_done}
use Rattle.wav_format.specs.Head.{format_of, said}
use Rattle.wav_format.specs.Laws.Head.{format_number}
use Rattle.recording_run.specs.Wave.{after_format}
use Rattle.recording_run.proofs.wave.after_format.Goals as goal

pub returns-in-Ok : goal.returns-in-Ok
unfolding after_format
returns-in-Ok c =
    let f = format_of c.args.bytes.now in
    let ok = handed_ok f.reply (said f) c.in-Ok.said (sym c.in-Ok.ensures) in
    rw (eq-eqb _ _ ok.0, ok.1, c.saturating_sub.ensures, c.padded_size.ensures)

pub returns-in-Err : goal.returns-in-Err
unfolding after_format
returns-in-Err c =
    let f = format_of c.args.bytes.now in
    rw (
      ne_eqb _ _ (refused_not_done f.reply (said f) c.in-Err.refused c.in-Err.ensures),
      c.fault_of.ensures,
      format_number c.args.bytes.now (said f) c.in-Err.refused c.in-Err.ensures,
      c.no_format.ensures,
    )
