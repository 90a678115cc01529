-- `loudness::put_format` meets its contract: what is not refused is put where it fits. Assumes nothing.
use Rattle.std.proofs.Common.{sym, ap, ◌∙◌, arith}
use Rattle.units.specs.Output.{Put}
use Rattle.units.specs.Handed.{handed, refusal_of}
use Rattle.frames.specs.Facts.{sizes_facts}
use Rattle.wav_format.specs.Laws.Bytes.{four_of}
use Rattle.loudness.specs.Laws.Metering.{three_copied, format_written, format_short, format_left}
use Rattle.loudness.proofs.put_format.Goals as goal

pub overflow_cast-samples : goal.overflow_cast-samples
overflow_cast-samples c =
    omega (arith, (sizes_facts c.args.channels c.args.samples (sym c.is_sizes.ensures ∙ c.if-not-is_sizes.false)).each.most)

pub returns-then-not-is_sizes : goal.returns-then-not-is_sizes
unfolding handed refusal_of
returns-then-not-is_sizes c =
    let a = c.args in
    let kept = format_left a.channels a.samples a.size a.out.now (sym c.is_sizes.ensures ∙ c.if-not-is_sizes.true) in
    record { value = rw kept; out_after = sym (ap (λ (p : Put). p.out) kept) }

pub returns-then-out-lt-FORMAT_BYTES : goal.returns-then-out-lt-FORMAT_BYTES
unfolding handed refusal_of
returns-then-out-lt-FORMAT_BYTES c =
    let a = c.args in
    let short = format_short a.channels a.samples a.size a.out.now (sym c.is_sizes.ensures ∙ c.if-not-is_sizes.false) c.if-out-lt-FORMAT_BYTES.true in
    record { value = rw short; out_after = sym (ap (λ (p : Put). p.out) short) }

pub returns-else-out-lt-FORMAT_BYTES : goal.returns-else-out-lt-FORMAT_BYTES
unfolding handed
returns-else-out-lt-FORMAT_BYTES c =
    let a = c.args in
    let written = format_written a.channels a.samples a.size a.out.now (sym c.is_sizes.ensures ∙ c.if-not-is_sizes.false) c.if-out-lt-FORMAT_BYTES.false in
    record {
      value = rw written;
      out_after =
          three_copied a.out.now _ _ _ a.samples a.channels a.size (c.copy_from_slice.ensures.after ∙ c.to_le_bytes.ensures ∙ four_of a.samples)
          (c.copy_from_slice-else-out-lt-FORMAT_BYTES.ensures.after ∙ c.to_le_bytes-else-out-lt-FORMAT_BYTES.ensures ∙ four_of a.channels) (c.copy_from_slice-else-out-lt-FORMAT_BYTES-2.ensures.after ∙ c.to_le_bytes-else-out-lt-FORMAT_BYTES-2.ensures ∙ four_of a.size)
          ∙ sym (ap (λ (p : Put). p.out) written);
    }
