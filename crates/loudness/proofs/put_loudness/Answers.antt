-- `loudness::put_loudness` meets its contract: what is not refused is put where it fits. Assumes nothing.
use Rattle.std.proofs.Common.{refl, sym, ap, ◌∙◌}
use Rattle.units.specs.Output.{Put}
use Rattle.units.specs.Handed.{handed, refusal_of}
use Rattle.units.specs.Laws.Handed.{refused_by, refused_not_done, handed_ok}
use Rattle.wav_format.specs.Bytes.{little}
use Rattle.wav_format.specs.Laws.Bytes.{four_of, eight_of}
use Rattle.loudness.specs.Sound.{heard_of, loudness_of}
use Rattle.loudness.specs.declared.Loud.{Loud}
use Rattle.loudness.specs.Laws.Metering.{two_copied, loudness_written, loudness_short, loudness_left}
use Rattle.loudness.proofs.put_loudness.Goals as goal

pub returns-in_err-heard : goal.returns-in_err-heard
returns-in_err-heard c =
    let a = c.args in
    let l = loudness_of a.bytes.now a.channels a.samples in
    let e = c.in_err-heard.field-0.0 in
    let left = loudness_left a.bytes.now a.channels a.samples a.out.now l refl (refused_not_done l.reply (heard_of l) e c.in_err-heard.ensures) in
    record {
      value = refused_by c.from_residual.result e l.reply (heard_of l) tt c.from_residual.ensures.1 c.in_err-heard.ensures ∙ ap (λ (p : Put). handed p.reply tt) (sym left);
      out_after = ap (λ (p : Put). p.out) (sym left);
    }

pub returns-then-out-lt-RECORD_BYTES : goal.returns-then-out-lt-RECORD_BYTES
unfolding handed refusal_of
returns-then-out-lt-RECORD_BYTES c =
    let a = c.args in
    let l = loudness_of a.bytes.now a.channels a.samples in
    let ok = handed_ok l.reply (heard_of l) c.in_ok-heard.heard (sym c.in_ok-heard.ensures) in
    let short = loudness_short a.bytes.now a.channels a.samples a.out.now l refl ok.0 c.if-out-lt-RECORD_BYTES.true in
    record { value = rw short; out_after = sym (ap (λ (p : Put). p.out) short) }

pub returns : goal.returns
unfolding handed
returns c =
    let a = c.args in
    let l = loudness_of a.bytes.now a.channels a.samples in
    let ok = handed_ok l.reply (heard_of l) c.in_ok-heard.heard (sym c.in_ok-heard.ensures) in
    let written = loudness_written a.bytes.now a.channels a.samples a.out.now l refl ok.0 c.if-out-lt-RECORD_BYTES.false in
    record {
      value = rw written;
      out_after =
          two_copied a.out.now _ _ l.square l.peak
          (c.copy_from_slice.ensures.after ∙ c.to_le_bytes.ensures ∙ eight_of c.in_ok-heard.heard.square ∙ ap (λ (x : Loud). little 8 x.square) (sym ok.1))
          (c.copy_from_slice-2.ensures.after ∙ c.to_le_bytes-2.ensures ∙ four_of c.in_ok-heard.heard.peak ∙ ap (λ (x : Loud). little 4 x.peak) (sym ok.1))
          ∙ sym (ap (λ (p : Put). p.out) written);
    }
