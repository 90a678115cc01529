-- `wav_format::samples::put_sound` meets its contract. The invariant: the bytes of the first k samples stand at the start of `out`, which is
-- otherwise as it was. Assumes nothing.
use Rattle.std.proofs.Common.{◌≡◌, length, refl, ◌∙◌, arith}
use Rattle.wav_format.specs.Laws.Samples.{none_yet, put_more, Place, place}
use Rattle.wav_format.proofs.samples.put_sound.Goals as goal
use Rattle.wav_format.proofs.samples.put_sound.Goals.{In-loop-k}

pub loop-k-init : goal.loop-k-init
loop-k-init c =
    let a = c.args in
    (none_yet a.frame.now a.channels a.samples a.out.now, omega arith, refl)

place_of : (c : In-loop-k) → Place c.args.channels c.args.samples c.loop-k.k
place_of c =
    place c.args.channels c.args.samples (length c.args.frame.now) c.loop-k.k c.requires.frame_value (omega arith)

pub nonzero_rem-k : goal.nonzero_rem-k
nonzero_rem-k c =
    let p = place_of c in
    omega arith

pub overflow_mul-k : goal.overflow_mul-k
overflow_mul-k c =
    let p = place_of c in
    omega arith

pub nonzero_div-k : goal.nonzero_div-k
nonzero_div-k c =
    let p = place_of c in
    omega arith

pub overflow_add-k : goal.overflow_add-k
overflow_add-k c =
    let p = place_of c in
    omega arith

pub put_two-requires : goal.put_two-requires
put_two-requires c = omega arith

pub loop-k-preserved : goal.loop-k-preserved
loop-k-preserved c =
    let loop = c.loop-k in
    let a = c.args in (
      put_more a.frame.now a.channels a.samples loop.k c.sample_at-x.ensures c.number_of.ensures loop.invariant.0 c.put_two.ensures,
      omega arith,
      c.put_two.auto.out ∙ loop.invariant.2,
    )

pub shape_of-out : goal.shape_of-out
shape_of-out c = c.loop-k.invariant.2

pub returns : goal.returns
returns c =
    let loop = c.loop-k in
    let done : loop.k ≡ length c.args.frame.now = omega arith in
    rw done at loop.invariant.0.are
