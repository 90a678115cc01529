-- `wav_format::head::write_head` meets its contract: what is not refused is put where it fits. Assumes nothing.
use Rattle.std.proofs.Common.{sym, ap, ◌∙◌, arith}
use Rattle.units.specs.Output.{Put}
use Rattle.units.specs.Handed.{handed, refusal_of}
use Rattle.frames.specs.Facts.{sizes_facts}
use Rattle.wav_format.specs.Laws.Head.{head_written, head_short, head_refused}
use Rattle.wav_format.proofs.head.write_head.Goals as goal

pub overflow_cast-samples : goal.overflow_cast-samples
overflow_cast-samples c =
    let sizes = sizes_facts c.args.format.channels c.args.format.samples (sym c.is_sizes.ensures ∙ c.if-not-is_sizes.false) in
    omega (arith, sizes.each.most)

pub put_head-requires-clause-samples_bound : goal.put_head-requires-clause-samples_bound
put_head-requires-clause-samples_bound c =
    (sizes_facts c.args.format.channels c.args.format.samples (sym c.is_sizes.ensures ∙ c.if-not-is_sizes.false)).each.most

pub returns-then-not-is_sizes : goal.returns-then-not-is_sizes
unfolding handed refusal_of
returns-then-not-is_sizes c =
    let f = c.args.format in
    let refused = head_refused f.channels f.samples f.mask c.args.size c.args.out.now (sym c.is_sizes.ensures ∙ c.if-not-is_sizes.true) in
    record { value = rw refused; out_after = sym (ap (λ (p : Put). p.out) refused) }

pub returns-then-out-head_bytes : goal.returns-then-out-head_bytes
unfolding handed refusal_of
returns-then-out-head_bytes c =
    let f = c.args.format in
    let short = head_short f.channels f.samples f.mask c.args.size c.args.out.now (sym c.is_sizes.ensures ∙ c.if-not-is_sizes.false) (rw c.head_bytes.ensures at c.if-out-head_bytes.true) in
    record { value = rw short; out_after = sym (ap (λ (p : Put). p.out) short) }

pub returns-else-out-head_bytes : goal.returns-else-out-head_bytes
unfolding handed
returns-else-out-head_bytes c =
    let f = c.args.format in
    let whole = head_written f.channels f.samples f.mask c.args.size c.args.out.now (sym c.is_sizes.ensures ∙ c.if-not-is_sizes.false) (rw c.head_bytes.ensures at c.if-out-head_bytes.false) in
    record { value = rw whole; out_after = c.put_head.ensures ∙ sym (ap (λ (p : Put). p.out) whole) }
