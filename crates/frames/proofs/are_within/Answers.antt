-- `frames::are_within` meets its contract: a bound that equals one of the two is that one, and its square tells the same. Assumes nothing.
use Rattle.std.proofs.Common.{◌≡◌, ◌∙◌, rules}
use lib.Ieee.{binary32, mul, le}
use Rattle.floats.specs.Laws.Kinds.{passed}
use Rattle.frames.specs.Samples.{within, largest_input, largest_level}
use Rattle.frames.specs.Squares.{Squares, input_square, level_square, squares_input, squares_level, same_input, same_level}
use Rattle.frames.proofs.are_within.Goals as goal

pub returns-then-bound : goal.returns-then-bound
unfolding Squares
returns-then-bound c =
    let start = c in
    let same : start.args.bound ≡ largest_input = same_input start.args.bound (passed start.well_formed.0.1) c.if-bound.true in
    rw same (c.is_each.ensures largest_input (λ x r held told. let by : r ≡ le (mul binary32 x x) input_square = search rules in by ∙ squares_input x held))

pub returns-then-bound-2 : goal.returns-then-bound-2
unfolding Squares
returns-then-bound-2 c =
    let start = c in
    let same : start.args.bound ≡ largest_level = same_level start.args.bound (passed start.well_formed.0.1) c.if-bound-2.true in
    rw same (c.is_each-then-bound-2.ensures largest_level (λ x r held told. let by : r ≡ le (mul binary32 x x) level_square = search rules in by ∙ squares_level x held))

pub returns-else-bound-2 : goal.returns-else-bound-2
unfolding within
returns-else-bound-2 c = c.is_each-else-bound-2.ensures c.args.bound (λ x r held told. search rules)
