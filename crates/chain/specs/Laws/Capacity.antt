-- The capacity of both rings of a chain: no call changes it. (A new chain has the one asked for: `made_capacities` of Start.) Laws.
-- Assumes nothing.
use Rattle.std.specs.Prelude.{◌≡◌, refl, Bool, true, false, cond, List, ℕ, eqb, Float}
use Rattle.std.proofs.Common.{sym, ap, ◌∙◌, eqb-true}
use Rattle.units.specs.Figures.{accepted}
use Rattle.units.specs.Replies.{done}
use Rattle.units.specs.declared.figures.Figures.{Figures}
use Rattle.frames.specs.Samples.{largest_input}
use Rattle.frames.specs.Facts.{taken}
use Rattle.saturation_protector.specs.Protector.{capacities}
use Rattle.saturation_protector.specs.Laws.Capacity.{analyzed_capacities}
use Rattle.saturation_protector.proofs.Gaps as HeadroomGaps
use Rattle.saturation_protector.specs.Calls.{Next}
use Rattle.chain.specs.Chain.{passes, samples_of, capacities_of}
use Rattle.chain.specs.Calls.{stepped, refused, called, interrupted, gap}
use Rattle.chain.specs.Laws.Passing.{passed_all}
use Rattle.chain.specs.Laws.Gaps.{headroom_gap}
use Rattle.chain.specs.Laws.Steps.{heard}
use Rattle.chain.specs.declared.Chain.{Chain}

-- A frame leaves both capacities of a chain that passes,
pub stepped_capacities : (c : Chain) (f : Figures) (frame : List Float) (channels samples : ℕ) → passes c ≡ true
    → capacities_of (stepped c f frame channels samples).chain ≡ capacities_of c
unfolding stepped
stepped_capacities c f frame channels samples h =
    analyzed_capacities c.protector f.probability f.peak.0 (heard c f).level (passed_all c h).protector

-- and so does any call of one, accepted or not.
pub called_capacities : (c : Chain) (f : Figures) (frame : List Float) (channels samples : ℕ) → capacities_of (called c f frame channels samples).told.chain ≡ capacities_of c
unfolding called refused
called_capacities c f frame channels samples = go (eqb (refused c f frame channels samples) done) refl
  where
    go : (b : Bool) → eqb (refused c f frame channels samples) done ≡ b → capacities_of (cond b (stepped c f frame channels samples).chain c) ≡ capacities_of c
    go true e =
        let tests = taken frame channels samples (eqb samples (samples_of c)) (passes c) (accepted f) largest_input (eqb-true (refused c f frame channels samples) done e) in
        stepped_capacities c f frame channels samples tests.settings
    go false e = refl

-- And so does a gap.
pub interrupted_capacities : (c : Chain) → passes c ≡ true → capacities_of (interrupted c) ≡ capacities_of c
unfolding interrupted
interrupted_capacities c h =
    ap (λ (n : Next). capacities n.protector) (sym (headroom_gap c (passed_all c h).protector)) ∙ HeadroomGaps.gap_capacities c.protector

pub gap_capacities : (c : Chain) → capacities_of (gap c).chain ≡ capacities_of c
unfolding gap
gap_capacities c = go (passes c) refl
  where
    go : (b : Bool) → passes c ≡ b → capacities_of (cond b (interrupted c) c) ≡ capacities_of c
    go true h = interrupted_capacities c h
    go false h = refl
