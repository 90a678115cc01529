-- `recording_run::levelling::begin` meets its contract: the strip's samples, the chain and the head refuse it in this order. Assumes nothing.
use Rattle.std.proofs.Common.{ℕ, sym, ap, ◌∙◌, ne_eqb, Ok}
use Rattle.units.specs.Handed.{handed, refusal_of}
use Rattle.units.specs.Laws.Handed.{refused_by, refused_not_done, handed_ok, passed_done, handed_done}
use Rattle.wav_format.specs.Head.{put_head}
use Rattle.recording_run.specs.Levelling.{Beginning, begun, opened}
use Rattle.recording_run.specs.declared.levelling.Extent.{Extent}
use Rattle.recording_run.specs.Laws.Begun.{new, written, all, not_made, is_made, opened_is}
use Rattle.recording_run.proofs.levelling.begin.Goals as goal

pub returns-then-format-head : goal.returns-then-format-head
unfolding begun handed refusal_of
returns-then-format-head c =
    record { value = rw (ne_eqb _ _ c.if-format-head.true); out_after = rw (ne_eqb _ _ c.if-format-head.true) }

pub returns-in_err-chain : goal.returns-in_err-chain
returns-in_err-chain c =
    let f = c.args.format in
    let e = c.in_err-chain.field-0.0 in
    let chain = new c.args.head c.args.capacity f.channels f.samples f.mask c.args.size c.args.out.now in
    let run = opened (all c.args.head c.args.capacity f.channels f.samples f.mask c.args.size c.args.out.now).begun in
    let way = not_made c.args.head c.args.capacity f.channels f.samples f.mask c.args.size c.args.out.now c.if-format-head.false (refused_not_done chain.reply chain.chain e c.in_err-chain.ensures) in
    record {
      value = refused_by c.from_residual.result e chain.reply chain.chain run c.from_residual.ensures.1 c.in_err-chain.ensures ∙ ap (λ (n : ℕ). handed n run) (sym way.0);
      out_after = sym way.1;
    }

pub returns-in_err-write_head : goal.returns-in_err-write_head
returns-in_err-write_head c =
    let f = c.args.format in
    let e = c.in_err-write_head.field-0.0 in
    let chain = new c.args.head c.args.capacity f.channels f.samples f.mask c.args.size c.args.out.now in
    let put = written c.args.head c.args.capacity f.channels f.samples f.mask c.args.size c.args.out.now in
    let run = opened (all c.args.head c.args.capacity f.channels f.samples f.mask c.args.size c.args.out.now).begun in
    let ok = handed_ok chain.reply chain.chain c.in_ok-chain.chain (sym c.in_ok-chain.ensures) in
    let way = is_made c.args.head c.args.capacity f.channels f.samples f.mask c.args.size c.args.out.now c.if-format-head.false ok.0 in
    let told = c.in_err-write_head.ensures.value ∙ ap (λ (x : Extent). handed (put_head f.channels f.samples f.mask x.size c.args.out.now).reply (tt {0})) c.extent_of-extent.ensures in
    record {
      value = refused_by c.from_residual-in_err-write_head.result e put.reply (tt {0}) run c.from_residual-in_err-write_head.ensures.1 told ∙ ap (λ (b : Beginning). handed b.begun.reply run) (sym way);
      out_after =
          c.write_head.ensures.out_after ∙ ap (λ (x : Extent). (put_head f.channels f.samples f.mask x.size c.args.out.now).out) c.extent_of-extent.ensures
          ∙ ap (λ (b : Beginning). b.out) (sym way);
    }

pub returns : goal.returns
returns c =
    let f = c.args.format in
    let chain = new c.args.head c.args.capacity f.channels f.samples f.mask c.args.size c.args.out.now in
    let put = written c.args.head c.args.capacity f.channels f.samples f.mask c.args.size c.args.out.now in
    let begun = (all c.args.head c.args.capacity f.channels f.samples f.mask c.args.size c.args.out.now).begun in
    let ok = handed_ok chain.reply chain.chain c.in_ok-chain.chain (sym c.in_ok-chain.ensures) in
    let way = is_made c.args.head c.args.capacity f.channels f.samples f.mask c.args.size c.args.out.now c.if-format-head.false ok.0 in
    let told = c.in_ok-write_head.ensures.value ∙ ap (λ (x : Extent). handed (put_head f.channels f.samples f.mask x.size c.args.out.now).reply (tt {0})) c.extent_of-extent.ensures in
    let well = ap (λ (b : Beginning). b.begun.reply) way ∙ passed_done put.reply (tt {0}) (tt {0}) told in
    record {
      value =
          ap Ok (opened_is c.args.head c.args.capacity f.channels f.samples f.mask c.args.size c.args.out.now c.if-format-head.false ok.0 ok.1 c.head_bytes-long.ensures (ap (λ (x : Extent). x.left) c.extent_of-extent.ensures))
          ∙ sym (handed_done begun.reply (opened begun) well);
      out_after =
          c.write_head.ensures.out_after ∙ ap (λ (x : Extent). (put_head f.channels f.samples f.mask x.size c.args.out.now).out) c.extent_of-extent.ensures
          ∙ ap (λ (b : Beginning). b.out) (sym way);
    }
