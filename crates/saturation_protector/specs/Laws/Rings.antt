-- The ring refuses nothing of a state that passes: what its calls hand back. Laws.
-- Assumes nothing.
use Rattle.std.specs.Prelude.{◌≡◌, refl, Bool, true, false, cond, ℕ, Float, Result, Ok}
use Rattle.std.proofs.Common.{sym, ap, ◌∙◌}
use Rattle.std.specs.Float.Ieee.Scale.{finite}
use Rattle.units.specs.Replies.{refusal}
use Rattle.units.specs.Handed.{handed}
use Rattle.units.specs.declared.refusals.Refusal.{Refusal}
use Rattle.saturation_protector_buffer.specs.Ring.{is_capacity, empty, passes, push, reset}
use Rattle.saturation_protector_buffer.specs.Calls.{made, pushed, forgotten}
use Rattle.saturation_protector_buffer.specs.Laws.Passing.{pushed_passes}
use Rattle.saturation_protector_buffer.specs.declared.Ring.{Ring}

-- A new ring of a capacity is empty.
pub made_ring : (n : ℕ) → is_capacity n ≡ true → (made n).ring ≡ empty n
unfolding made
made_ring n h = rw h refl

-- A number is pushed into a ring that passes.
pub pushed_ring : (r : Ring) (v : Float) → passes r ≡ true → finite v ≡ true → (pushed r v).ring ≡ push r v
unfolding pushed
pushed_ring r v h f = rw (h, f) refl

-- A ring that passes is reset.
pub forgotten_ring : (r : Ring) → passes r ≡ true → (forgotten r).ring ≡ reset r
unfolding forgotten
forgotten_ring r h = rw h refl

-- So none of the three is refused.
pub made_given : (n : ℕ) → is_capacity n ≡ true → ◌≡◌ {A = Result Ring Refusal} (handed (made n).reply (made n).ring) (Ok (empty n))
unfolding made refusal handed
made_given n h = rw h refl

pub pushed_given : (r : Ring) (v : Float) → passes r ≡ true → finite v ≡ true
    → ◌≡◌ {A = Result Ring Refusal} (handed (pushed r v).reply (pushed r v).ring) (Ok (push r v))
unfolding pushed refusal handed
pushed_given r v h f = rw (h, f) refl

pub forgotten_given : (r : Ring) → passes r ≡ true → ◌≡◌ {A = Result Ring Refusal} (handed (forgotten r).reply (forgotten r).ring) (Ok (reset r))
unfolding forgotten refusal handed
forgotten_given r h = rw h refl

-- A ring that passes does so with a peak more, or without.
pub pushed_when_passes : (b : Bool) (r : Ring) (v : Float) → passes r ≡ true → finite v ≡ true → passes (cond b (push r v) r) ≡ true
pushed_when_passes true r v h f = ap passes (sym (pushed_ring r v h f)) ∙ pushed_passes r h v
pushed_when_passes false r v h f = h
