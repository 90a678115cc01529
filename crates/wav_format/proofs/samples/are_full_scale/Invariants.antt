-- `wav_format::samples::are_full_scale` meets its contract. The invariant: what was found so far, and the test of what is left, is the test of the whole.
-- Assumes nothing.
use Rattle.std.proofs.Common.{◌≡◌, ◌≤◌, ◌&&◌, length, drop}
use Rattle.wav_format.specs.Samples.{all_full_scale}
use Rattle.wav_format.proofs.samples.are_full_scale.Given as goal

abbrev pub invariant-loop-x : goal.invariant-loop-x
invariant-loop-x l = (l.x-index ≤ length l.frame) × (l.ok && all_full_scale (drop l.x-index l.frame) ≡ all_full_scale l.frame)
