-- What is told of a format that is refused for its channels or its rate. Laws.
-- Assumes nothing.
use Rattle.std.specs.Prelude.{◌≡◌, ℕ, ◌/◌, cond, ◌&&◌, List, nat_le, refl}
use Rattle.units.specs.Handed.{number_of}
use Rattle.units.specs.declared.refusals.Refusal.{Refusal}
use Rattle.units.specs.declared.refusals.Refusal.TheVariants as R
use Rattle.wav_format.specs.Head.{chunk_of}
use Rattle.recording_run.specs.Wave.{fault_of}
use Rattle.recording_run.specs.declared.wave.Fault.{Fault}
use Rattle.recording_run.specs.declared.wave.Fault.TheVariants.{Channels, Rate}

-- by the two sizes, where it is refused for none of the others
abbrev pub by_sizes : List ℕ → Fault
by_sizes bytes =
    let channels = (chunk_of bytes).name / 65536 in
    cond (nat_le 1 channels && nat_le channels 8) (Rate (chunk_of bytes).size) (Channels channels)

pub for_sizes : (e : Refusal) (bytes : List ℕ) → (e ≡ R.Cut → ⊥) → (e ≡ R.Version → ⊥) → (e ≡ R.Length → ⊥) → fault_of (number_of e) bytes ≡ by_sizes bytes
unfolding fault_of number_of
for_sizes R.Shape bytes c v l = refl
for_sizes R.Figure bytes c v l = refl
for_sizes R.Sample bytes c v l = refl
for_sizes R.Setting bytes c v l = refl
for_sizes R.Cut bytes c v l = absurd (c refl)
for_sizes R.Length bytes c v l = absurd (l refl)
for_sizes R.Version bytes c v l = absurd (v refl)
for_sizes R.Room bytes c v l = refl
for_sizes R.Unsaid bytes c v l = refl
