-- The capacity of a ring: that asked for where it is new, and no call changes it. Laws.
-- Assumes nothing.
use Rattle.std.specs.Prelude.{◌≡◌, refl, Bool, true, false, ◌&&◌, cond, List, [], ◌∷◌, ℕ, Float}
use Rattle.std.proofs.Common.{ap, ◌∙◌}
use Rattle.std.specs.Float.Ieee.Scale.{finite}
use Rattle.units.specs.Replies.{done}
use Rattle.saturation_protector_buffer.specs.Ring.{empty, passes, push, reset}
use Rattle.saturation_protector_buffer.specs.Calls.{Held, made, pushed, held, forgotten}
use Rattle.saturation_protector_buffer.specs.History.{after_pushes}
use Rattle.saturation_protector_buffer.specs.declared.Ring.{Ring}
use Rattle.saturation_protector_buffer.specs.Laws.Passing.{made_empty, made_passes}

-- A new ring that is not refused has the capacity asked for, and says so.
pub made_capacity : (n : ℕ) → (made n).reply ≡ done → (made n).ring.capacity ≡ n
unfolding empty
made_capacity n h = ap (λ (r : Ring). r.capacity) (made_empty n h).1

pub made_held : (n : ℕ) → (made n).reply ≡ done → ◌≡◌ {A = Held} (held (made n).ring) (record { reply = done; capacity = n })
unfolding held
made_held n h = rw (made_passes n h, made_capacity n h) refl

-- A push leaves it, accepted or not,
pub pushed_capacity : (r : Ring) (v : Float) → (pushed r v).ring.capacity ≡ r.capacity
unfolding pushed push
pushed_capacity r v = go (passes r && finite v)
  where
    go : (b : Bool) → (cond b (push r v) r).capacity ≡ r.capacity
    go true = refl
    go false = refl

-- and so does a reset,
pub forgotten_capacity : (r : Ring) → (forgotten r).ring.capacity ≡ r.capacity
unfolding forgotten reset
forgotten_capacity r = go (passes r)
  where
    go : (b : Bool) → (cond b (reset r) r).capacity ≡ r.capacity
    go true = refl
    go false = refl

-- and any number of pushes.
pub after_pushes_capacity : (r : Ring) (vs : List Float) → (after_pushes r vs).capacity ≡ r.capacity
unfolding after_pushes
after_pushes_capacity r [] = refl
after_pushes_capacity r (v ∷ vs) = after_pushes_capacity (pushed r v).ring vs ∙ pushed_capacity r v
