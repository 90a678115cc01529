-- `loudness::one_channel` meets its contract. The invariant: the sum and the peak so far, with those of the samples that are left, are those of all;
-- so many strides are left to go. The measure is the samples that are left. Assumes nothing.
use Rattle.std.proofs.Common.{◌≡◌, ◌∙◌, refl, arith}
use Rattle.wav_format.specs.Laws.Bytes.{two_read}
use Rattle.loudness.specs.Laws.Sound.{squares_most, one_square, one_peak, no_square, no_peak, one_less}
use Rattle.loudness.proofs.one_channel.Goals as goal

pub bounds-bytes-at : goal.bounds-bytes-at
bounds-bytes-at c = omega (arith, one_less c.args.stride c.loop-left.left c.loop-left-test.true)

pub bounds-bytes-at-in-loop-left : goal.bounds-bytes-at-in-loop-left
bounds-bytes-at-in-loop-left c = omega (arith, one_less c.args.stride c.loop-left.left c.loop-left-test.true)

pub overflow_add-square : goal.overflow_add-square
overflow_add-square c =
    let n = c.from_le_bytes-n.ensures ∙ two_read c.args.bytes.now c.loop-left.at refl refl in
    let sum = one_square c.args.bytes.now c.args.stride c.loop-left.at c.loop-left.left c.loop-left-test.true n c.magnitude-size.ensures.value in
    omega (arith, sum, squares_most c.args.bytes.now c.args.stride c.args.first c.args.samples)

pub loop-left-preserved : goal.loop-left-preserved
loop-left-preserved c =
    let taken = c.loop-left-test.true in
    let n = c.from_le_bytes-n.ensures ∙ two_read c.args.bytes.now c.loop-left.at refl refl in
    let sum = one_square c.args.bytes.now c.args.stride c.loop-left.at c.loop-left.left taken n c.magnitude-size.ensures.value in
    let peak = one_peak c.args.bytes.now c.args.stride c.loop-left.at c.loop-left.left taken n c.magnitude-size.ensures.value in (
      omega (arith, sum),
      omega (arith, peak, c.max-peak.ensures),
      omega (arith, one_less c.args.stride c.loop-left.left taken),
      omega arith,
    )

pub returns : goal.returns
returns c =
    let loop = c.loop-left in
    let none : loop.left ≡ 0 = omega arith in record {
      square_value = omega (arith, rw none at loop.invariant.0, no_square c.args.bytes.now c.args.stride loop.at);
      peak_value = omega (arith, rw none at loop.invariant.1, no_peak c.args.bytes.now c.args.stride loop.at);
    }
