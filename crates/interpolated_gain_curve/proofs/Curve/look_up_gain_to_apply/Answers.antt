-- `interpolated_gain_curve::Curve::look_up_gain_to_apply` meets its contract: where the state and the level pass, the step; otherwise nothing. Assumes nothing.
use Rattle.std.proofs.Common.{◌≡◌, ℕ, true}
use Rattle.std.specs.Prelude.{Result, Ok}
use Rattle.units.specs.declared.refusals.Refusal.{Refusal}
use lib.Ieee.{Float}
use Rattle.floats.specs.Laws.Kinds.{passed}
use Rattle.units.specs.Figures.{curve_level}
use Rattle.units.specs.Replies.{refusal}
use Rattle.units.specs.Laws.Replies.{none_refused}
use Rattle.units.specs.Handed.{handed}
use Rattle.units.specs.Laws.Handed.{refused_by, passed_done}
use Rattle.interpolated_gain_curve.specs.Gain.{region_of, gain_of}
use Rattle.interpolated_gain_curve.specs.Curve.{passes, in_region, looked, told}
use Rattle.interpolated_gain_curve.specs.declared.Curve.{Curve as State}
use Rattle.interpolated_gain_curve.specs.declared.Looked.{Looked}
use Rattle.interpolated_gain_curve.proofs.Curve.look_up_gain_to_apply.Goals as goal
use Rattle.interpolated_gain_curve.proofs.Curve.look_up_gain_to_apply.Goals.{In_ok-check}

pub returns-in_err-check : goal.returns-in_err-check
unfolding looked
returns-in_err-check c =
    refused_by _ _ _ tt _ c.from_residual.ensures.1 (rw (c.passes-state.ensures, c.is_curve_level-figure.ensures) at c.in_err-check.ensures)

-- the four tests, where nothing was refused
tests : (c : In_ok-check) → (true ≡ true) × (passes c.args.self ≡ true) × (curve_level c.args.level.0 ≡ true) × (true ≡ true)
tests c =
    let a = c.args in
    none_refused true (passes a.self) (curve_level a.level.0) true
    (passed_done _ _ _ (rw (c.passes-state.ensures, c.is_curve_level-figure.ensures) at c.in_ok-check.ensures))

pub in_region-requires : goal.in_region-requires
in_region-requires c = passed (tests c.before).1

-- what is handed out where both tests pass
taken : (s : State) (level : Float) (region : ℕ) (next : State) (gain : Float) → passes s ≡ true → curve_level level ≡ true → region ≡ region_of level
    → next ≡ in_region s region → gain ≡ gain_of level → ◌≡◌ {A = Result Looked Refusal} (Ok (record { curve = next; gain = gain })) (handed (looked s level).reply (told (looked s level)))
unfolding looked refusal handed
taken s level region next gain a b r n g = rw (n, g, r, a, b)

pub returns : goal.returns
returns c =
    let t = tests c.before.before.before in
    taken _ _ _ _ _ t.1 t.2 c.region_of.ensures c.in_region.ensures c.gain_of.ensures
