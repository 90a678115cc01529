-- What is stored from the capacity on: no call changes it, and none reads it. Laws.
-- Assumes nothing.
use Rattle.std.specs.Prelude.{◌≡◌, Bool, ◌&&◌, cond, ℕ, drop, Float}
use Rattle.std.proofs.Math.Path.{refl, ap₂}
use Rattle.std.proofs.Common.{sym, ap, ◌∙◌, drop-set-lt}
use Rattle.std.proofs.Math.Bool.{true, false}
use Rattle.std.proofs.Math.Seq.{take-set-lt}
use Rattle.std.specs.Float.Ieee.Scale.{finite}
use Rattle.saturation_protector_buffer.specs.Rings as Rings
use Rattle.saturation_protector_buffer.specs.Rings.{after, more}
use Rattle.saturation_protector_buffer.specs.Ring.{slots, fits, passes, push, reset, items}
use Rattle.saturation_protector_buffer.specs.Calls.{pushed, fronted, sized, held, forgotten, compared}
use Rattle.saturation_protector_buffer.specs.declared.Ring.{Ring}
use Rattle.saturation_protector_buffer.specs.Laws.Passing.{within}

-- ---- not changed
-- A push leaves what is stored from the capacity on, of any ring and any peak, accepted or not.
pub pushed_beyond : (r : Ring) (v : Float) → drop r.capacity (pushed r v).ring.stored ≡ drop r.capacity r.stored
unfolding pushed push
pushed_beyond r v = go (passes r) refl (finite v)
  where
    go : (b : Bool) → passes r ≡ b → (f : Bool) → drop r.capacity (cond (b && f) (push r v) r).stored ≡ drop r.capacity r.stored
    go true h true = drop-set-lt r.capacity r.stored r.place v (within r h).place
    go true h false = refl
    go false h f = refl

-- A reset leaves all of the storage.
pub forgotten_stored : (r : Ring) → (forgotten r).ring.stored ≡ r.stored
unfolding forgotten reset
forgotten_stored r = go (passes r)
  where
    go : (b : Bool) → (cond b (reset r) r).stored ≡ r.stored
    go true = refl
    go false = refl

-- ---- not read
-- two rings that differ at most in what is stored from their capacity on
pub record Agree (r s : Ring) : Type 0 where
  pub slots : slots r ≡ slots s
  pub capacity : r.capacity ≡ s.capacity
  pub place : r.place ≡ s.place
  pub size : r.size ≡ s.size

module _ (r s : Ring) (a : Agree r s) where
  -- the slots of the first, counted by the capacity of the second
  same_slots : Rings.slots s.capacity r.stored ≡ Rings.slots s.capacity s.stored
  same_slots = ap (λ (n : ℕ). Rings.slots n r.stored) (sym a.capacity) ∙ a.slots

  -- Both pass, or neither.
  pub agree_passes : passes r ≡ passes s
  unfolding passes fits
  agree_passes = rw (a.capacity, same_slots, a.place, a.size)

  -- They have the same items,
  pub agree_items : items r ≡ items s
  unfolding items Rings.items
  agree_items = rw (a.capacity, same_slots, a.place, a.size)

  -- the same front,
  pub agree_front : fronted r ≡ fronted s
  unfolding fronted
  agree_front = rw (agree_passes, agree_items)

  -- the same size and capacity,
  pub agree_size : sized r ≡ sized s
  unfolding sized
  agree_size = rw (agree_passes, a.size)

  pub agree_capacity : held r ≡ held s
  unfolding held
  agree_capacity = rw (agree_passes, a.capacity)

  -- and compare alike with any other ring, on either side.
  pub agree_compared : (t : Ring) → (compared r t ≡ compared s t) × (compared t r ≡ compared t s)
  unfolding compared
  agree_compared t = (rw (agree_passes, agree_items), rw (agree_passes, agree_items))

  -- After a push of the same peak they agree again, with the same reply.
  pub agree_pushed : (v : Float) → ((pushed r v).reply ≡ (pushed s v).reply) × Agree (pushed r v).ring (pushed s v).ring
  unfolding pushed push
  agree_pushed v = (rw agree_passes, rw agree_passes (go (passes s) refl (finite v)))
    where
      go : (b : Bool) → passes s ≡ b → (f : Bool) → Agree (cond (b && f) (push r v) r) (cond (b && f) (push s v) s)
      go true h true =
          let n = s.capacity in
          record {
            slots = rw (a.capacity, a.place, take-set-lt n r.stored s.place v (within s h).place, take-set-lt n s.stored s.place v (within s h).place, same_slots);
            capacity = a.capacity;
            place = ap₂ after a.capacity a.place;
            size = ap₂ more a.capacity a.size;
          }
      go true h false = a
      go false h f = a

  -- So they do after a reset.
  pub agree_forgotten : ((forgotten r).reply ≡ (forgotten s).reply) × Agree (forgotten r).ring (forgotten s).ring
  unfolding forgotten reset
  agree_forgotten = (rw agree_passes, rw agree_passes (go (passes s)))
    where
      go : (b : Bool) → Agree (cond b (reset r) r) (cond b (reset s) s)
      go true = record { slots = a.slots; capacity = a.capacity; place = refl; size = refl }
      go false = a
