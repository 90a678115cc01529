-- `loudness::all_channels` meets its contract. The invariant: the largest so far, or that of the channels that are left, is that of all.
-- Assumes nothing.
use Rattle.std.proofs.Common.{arith, length}
use Rattle.loudness.specs.Sound.{square_of, peak_of}
use Rattle.loudness.specs.Laws.Sound.{none_found, one_found, all_found, frame_facts}
use Rattle.loudness.proofs.all_channels.Goals as goal

pub loop-c-init : goal.loop-c-init
loop-c-init c =
    let a = c.args in
    (none_found (square_of a.bytes.now a.channels a.samples) a.channels, none_found (peak_of a.bytes.now a.channels a.samples) a.channels, omega arith)

pub overflow_mul-c : goal.overflow_mul-c
overflow_mul-c c =
    omega (arith, (frame_facts c.args.channels c.args.samples (length c.args.bytes.now) c.requires).0.eight)

pub overflow_mul-channels : goal.overflow_mul-channels
overflow_mul-channels c =
    omega (arith, (frame_facts c.args.channels c.args.samples (length c.args.bytes.now) c.requires).0.eight)

pub one_channel-one-requires : goal.one_channel-one-requires
one_channel-one-requires c =
    let known = frame_facts c.args.channels c.args.samples (length c.args.bytes.now) c.requires in
    record {
      first_bound = omega arith;
      bytes_len = known.1;
      stride_bound = omega (arith, known.0.eight);
      samples_bound = known.0.each.most;
    }

pub loop-c-preserved : goal.loop-c-preserved
loop-c-preserved c =
    let taken = c.loop-c-test.true in
    let loop = c.loop-c in
    let a = c.args in (
      one_found (square_of a.bytes.now a.channels a.samples) loop.c a.channels loop.square taken c.one_channel-one.ensures.square_value c.max-square.ensures loop.invariant.0,
      one_found (peak_of a.bytes.now a.channels a.samples) loop.c a.channels loop.peak taken c.one_channel-one.ensures.peak_value c.max-peak.ensures loop.invariant.1,
      omega arith,
    )

pub returns : goal.returns
returns c =
    let loop = c.loop-c in
    let a = c.args in record {
      square_value = all_found (square_of a.bytes.now a.channels a.samples) loop.c a.channels loop.square c.loop-c-test.false loop.invariant.0;
      peak_value = all_found (peak_of a.bytes.now a.channels a.samples) loop.c a.channels loop.peak c.loop-c-test.false loop.invariant.1;
    }
