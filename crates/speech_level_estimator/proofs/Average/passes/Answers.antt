-- `speech_level_estimator::Average::passes` meets its contract: 151 times the weight and the sum are exact in f64, so its last test is that of whole units. Where the weight is out of range both answers are false. Assumes nothing.
use Rattle.std.proofs.Common.{T, rules}
use lib.Ieee.{binary32, fits}
use Rattle.speech_level_estimator.specs.Laws.Facts.{passes_exact}
use Rattle.speech_level_estimator.proofs.Average.passes.Goals as goal

pub returns : goal.returns
returns c =
    let b = c in
    let a = b.args.self in
    let f : T (fits binary32 a.sum) = search rules in
    let g : T (fits binary32 a.weight) = search rules in
    rw (b.nearest_u32_to_f32-most.ensures, b.saturating_sub.ensures, b.f32_to_f64_with_nan-sum.ensures, b.f32_to_f64_with_nan-bound.ensures)
    (passes_exact a (record { sum = f; weight = g }))
