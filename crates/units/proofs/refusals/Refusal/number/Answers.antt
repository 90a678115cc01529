-- `units::refusals::Refusal::number` meets its contract: the numbers go up from 1 in the order in which the refusals are named. Assumes nothing.
use Rattle.std.specs.Prelude.{◌≡◌, refl, ◌+◌}
use Rattle.units.specs.declared.refusals.Refusal.{Refusal}
use Rattle.units.specs.declared.refusals.Refusal.TheVariants as R
use Rattle.units.specs.Handed.{number_of}
use Rattle.units.specs.contracts.refusals.Refusal as Contracts
use Rattle.units.proofs.refusals.Refusal.number.Goals as goal

numbered : (r : Refusal) → denote.Enum.Declared.tag_of Contracts.the_type r + 1 ≡ number_of r
unfolding number_of
numbered R.Shape = refl
numbered R.Figure = refl
numbered R.Sample = refl
numbered R.Setting = refl
numbered R.Cut = refl
numbered R.Length = refl
numbered R.Version = refl
numbered R.Room = refl
numbered R.Unsaid = refl

pub returns : goal.returns
returns c = numbered c.args.self
