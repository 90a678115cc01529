-- `wav_format::numbers::put_fours` meets its contract. The invariant: the bytes of the first k numbers stand at the place, and `out` is
-- otherwise as it was. Assumes nothing.
use Rattle.std.proofs.Common.{refl, ◌∙◌, arith}
use Rattle.wav_format.specs.Laws.Fours.{none_yet, put_next, all_put}
use Rattle.wav_format.proofs.numbers.put_fours.Goals as goal

pub loop-k-init : goal.loop-k-init
loop-k-init c =
    let a = c.args in
    (none_yet a.numbers.now a.out.now a.at (omega arith), omega arith, refl)

pub put_four-requires : goal.put_four-requires
put_four-requires c = omega arith

pub loop-k-smaller : goal.loop-k-smaller
loop-k-smaller c = omega arith

pub loop-k-preserved : goal.loop-k-preserved
loop-k-preserved c =
    let loop = c.loop-k in (
      put_next _ _ _ loop.k c.loop-k-test.true loop.invariant.0 c.put_four.ensures,
      omega arith,
      c.put_four.auto.out ∙ loop.invariant.2,
    )

pub shape_of-out : goal.shape_of-out
shape_of-out c = c.loop-k.invariant.2

pub returns : goal.returns
returns c =
    let loop = c.loop-k in
    all_put _ _ _ loop.k (omega arith) loop.invariant.0
