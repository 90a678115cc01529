-- `interpolated_gain_curve::piece_of` meets its contract. The invariant: the search on what is left, with what was found so far, finds the piece. Assumes nothing.
use Rattle.std.proofs.Common.{◌≡◌, drop}
use Rattle.interpolated_gain_curve.specs.Gain.{last_below, knots, piece_of}
use Rattle.interpolated_gain_curve.proofs.piece_of.Given as goal

abbrev pub invariant-loop-i : goal.invariant-loop-i
invariant-loop-i l = last_below l.level l.i l.piece (drop l.i knots) ≡ piece_of l.level
