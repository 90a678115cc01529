-- `fixed_digital_level_estimator::frame_peaks` meets its contract. The invariant: what is done, then the peaks of the sub-frames that are left, are all of
-- them, where the sums are numbers; and what the highest peak and the sums tell of the samples. Assumes nothing.
use mathlib.Core.List.{◌++◌}
use mathlib.Core.Path.{◌≡◌}
use Prim.Native.Nat.{◌*◌, ◌-◌}
use lib.ListN.{length, take, drop, replicate}
use Rattle.floats.specs.Laws.Kinds.{nought}
use Rattle.fixed_digital_level_estimator.specs.Envelope.{silence}
use Rattle.fixed_digital_level_estimator.specs.Lanes.{starting, Real}
use Rattle.fixed_digital_level_estimator.specs.Laws.Columns.{peaks_down}
use Rattle.fixed_digital_level_estimator.specs.Laws.Tested.{Tested}
use Rattle.fixed_digital_level_estimator.proofs.frame_peaks.Given as goal

abbrev pub invariant-loop-k : goal.invariant-loop-k
invariant-loop-k l =
    (length l.peaks ≡ 20)
    × (Real (starting l.sum) → take l.k l.peaks ++ peaks_down l.channels l.samples l.part (replicate (20 - l.k) nought) (drop (l.k * l.part) l.frame) ≡ peaks_down l.channels l.samples l.part silence l.frame)
    × Tested l.frame l.channels l.samples l.part (20 - l.k) (drop (l.k * l.part) l.frame) l.highest (starting l.sum)
