-- `wav_format::samples::hear` meets its contract. The invariant: what is done, then the samples that are left. Assumes nothing.
use Rattle.std.proofs.Common.{◌+◌, List, length, sym, refl, ◌∙◌, arith, length-set}
use lib.Ieee.{Float, nan}
use Rattle.lists.specs.Loops.{in_place, in_place_done}
use Rattle.wav_format.specs.Samples.{heard_from}
use Rattle.wav_format.specs.Laws.Samples.{place}
use Rattle.wav_format.proofs.samples.hear.Goals as goal

pub nonzero_rem-place : goal.nonzero_rem-place
nonzero_rem-place c =
    let p = place c.args.channels c.args.samples (length c.args.frame.now) c.loop-j.j c.requires (omega arith) in
    omega arith

pub overflow_mul-place : goal.overflow_mul-place
overflow_mul-place c =
    let p = place c.args.channels c.args.samples (length c.args.frame.now) c.loop-j.j c.requires (omega arith) in
    omega arith

pub nonzero_div-place : goal.nonzero_div-place
nonzero_div-place c =
    let p = place c.args.channels c.args.samples (length c.args.frame.now) c.loop-j.j c.requires (omega arith) in
    omega arith

pub overflow_add-place : goal.overflow_add-place
overflow_add-place c =
    let p = place c.args.channels c.args.samples (length c.args.frame.now) c.loop-j.j c.requires (omega arith) in
    omega arith

pub overflow_mul-place-in-loop-j : goal.overflow_mul-place-in-loop-j
overflow_mul-place-in-loop-j c =
    let p = place c.args.channels c.args.samples (length c.args.frame.now) c.loop-j.j c.requires (omega arith) in
    omega arith

pub two_at-requires : goal.two_at-requires
two_at-requires c =
    let p = place c.args.channels c.args.samples (length c.args.frame.now) c.loop-j.j c.requires (omega arith) in
    omega arith

pub loop-j-preserved : goal.loop-j-preserved
unfolding heard_from
loop-j-preserved c =
    let loop = c.loop-j in
    let a = c.args in
    let bytes = a.bytes.now in (
      simp length-set loop.invariant.0,
      simp length-set (omega arith),
      in_place (λ (xs : List Float). heard_from bytes a.channels a.samples loop.j (length xs))
          (λ (xs : List Float). heard_from bytes a.channels a.samples (loop.j + 1) (length xs)) loop.frame loop.j nan _ (omega arith)
          (rw (c.sound_of.ensures, c.two_at.ensures))
          ∙ loop.invariant.2,
    )

pub returns : goal.returns
unfolding heard_from
returns c =
    let a = c.args in
    let loop = c.loop-j in
    sym (in_place_done (λ (xs : List Float). heard_from a.bytes.now a.channels a.samples loop.j (length xs)) loop.frame loop.j (omega arith) refl) ∙ loop.invariant.2
