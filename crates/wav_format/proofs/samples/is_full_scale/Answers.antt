-- `wav_format::samples::is_full_scale` meets its contract. Assumes nothing.
use Rattle.std.proofs.Common.{refl}
use Rattle.wav_format.specs.Samples.{full_scale}
use Rattle.wav_format.proofs.samples.is_full_scale.Goals as goal

pub returns : goal.returns
unfolding full_scale
returns c = refl
