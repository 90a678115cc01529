-- `limiter::look_up` meets its contract. The invariant: what is done, then the gains and the counts of what is left; and nothing that is left is refused.
-- Assumes nothing.
use Rattle.std.proofs.Common.{◌≡◌, T, ℕ, ◌+◌, ◌<◌, List, refl, sym, ap, ◌∙◌, arith, rules, length, drop, get_or}
use lib.ListN.{length-set}
use Rattle.std.specs.Prelude.{Result, Ok, IsOk}
use Rattle.units.specs.Replies.{done}
use Rattle.units.specs.Handed.{handed}
use Rattle.units.specs.Laws.Handed.{handed_ok, handed_done}
use Rattle.units.specs.declared.refusals.Refusal.{Refusal}
use Rattle.interpolated_gain_curve.specs.declared.Curve.{Curve as State}
use Rattle.interpolated_gain_curve.specs.declared.Looked.{Looked}
use lib.Ieee.{Float, nan}
use Rattle.units.specs.declared.kinds.LinearS16.{LinearS16}
use Rattle.lists.specs.Each.{Each}
use Rattle.lists.specs.Loops.{across, across_done, scan, scan_done}
use Rattle.lists.specs.Stores.{next}
use Rattle.interpolated_gain_curve.specs.Curve as Curves
use Rattle.interpolated_gain_curve.specs.Laws.Passes.{accepts, still_passes}
use Rattle.fixed_digital_level_estimator.specs.Envelope.{plain}
use Rattle.fixed_digital_level_estimator.specs.Range.{Level}
use Rattle.fixed_digital_level_estimator.specs.Laws.Range.{level_passes}
use Rattle.limiter.specs.Limiter.{gains_of, curve_after}
use Rattle.limiter.proofs.look_up.Goals as goal

-- the level at k, and those after it
left : (levels : List LinearS16) (k : ℕ) (d : LinearS16) → k < length levels → Each Level (plain (drop k levels)) → Level (get_or levels k d).0 × Each Level (plain (drop (k + 1) levels))
unfolding plain Each
left levels k d h e = rw (next levels k d h) at e

-- an accepted look-up
answered : (c : State) (level : Float) (r : Looked) → T (Curves.passes c) → Level level
    → handed (Curves.looked c level).reply (Curves.told (Curves.looked c level)) ≡ Ok r → (r.gain ≡ (Curves.looked c level).gain) × (r.curve ≡ (Curves.looked c level).curve)
answered c level r s l h =
    let e = (handed_ok (Curves.looked c level).reply (Curves.told (Curves.looked c level)) r h).1 in
    (sym (ap (λ (z : Looked). z.gain) e), sym (ap (λ (z : Looked). z.curve) e))

taken : (c : State) (level : Float) (r : Result Looked Refusal) → T (Curves.passes c) → Level level → r ≡ handed (Curves.looked c level).reply (Curves.told (Curves.looked c level)) → IsOk r
taken c level r s l h =
    let done_it : (Curves.looked c level).reply ≡ done = ap (λ (z : Curves.Looked). z.reply) (accepts c level s (level_passes level l)) in
    rw (h, handed_done (Curves.looked c level).reply (Curves.told (Curves.looked c level)) done_it)

pub loop-k-init : goal.loop-k-init
loop-k-init c = (search rules, refl, refl, c.requires.0, c.requires.1)

pub unwrap-looked-requires : goal.unwrap-looked-requires
unwrap-looked-requires c =
    let loop = c.loop-k in
    let levels = c.args.levels in
    let twenty : length levels ≡ 20 = search rules in
    let d : LinearS16 = record { 0 = nan } in
    taken loop.counted (get_or levels loop.k d).0 _ loop.invariant.3 (left levels loop.k d (omega arith) loop.invariant.4).0 c.look_up_gain_to_apply.ensures

pub loop-k-preserved : goal.loop-k-preserved
unfolding gains_of curve_after plain
loop-k-preserved c =
    let loop = c.loop-k in
    let levels = c.args.levels in
    let twenty : length levels ≡ 20 = search rules in
    let d : LinearS16 = record { 0 = nan } in
    let two = left levels loop.k d (omega arith) loop.invariant.4 in
    let next_one = c.unwrap-looked.result in
    let e = answered loop.counted (get_or levels loop.k d).0 next_one loop.invariant.3 two.0 (sym c.look_up_gain_to_apply.ensures ∙ c.unwrap-looked.ensures) in (
      simp length-set loop.invariant.0,
      across (λ (ys : List LinearS16). gains_of loop.counted (plain ys)) (λ (ys : List LinearS16). gains_of next_one.curve (plain ys)) levels loop.gains loop.k d _ (omega arith) (omega arith)
          (rw (e.0, e.1))
          ∙ loop.invariant.1,
      scan (λ (ys : List LinearS16). curve_after loop.counted (plain ys)) (λ (ys : List LinearS16). curve_after next_one.curve (plain ys)) levels loop.k d (omega arith) (rw e.1)
          ∙ loop.invariant.2,
      rw e.1 (still_passes loop.counted (get_or levels loop.k d).0 loop.invariant.3),
      two.1,
    )

pub returns : goal.returns
unfolding gains_of curve_after plain
returns c =
    let loop = c.loop-k in
    let levels = c.args.levels in
    let twenty : length levels ≡ 20 = search rules in (
      sym (across_done (λ (ys : List LinearS16). gains_of loop.counted (plain ys)) levels loop.gains loop.k (omega arith) (omega arith) refl) ∙ loop.invariant.1,
      sym (scan_done (λ (ys : List LinearS16). curve_after loop.counted (plain ys)) levels loop.k (omega arith)) ∙ loop.invariant.2,
    )
