-- From a new ring the items are the last accepted pushes in order, as many as its capacity, whatever was refused between. Laws.
-- Assumes nothing.
use Rattle.std.specs.Prelude.{◌≡◌, Bool, true, false, cond, List, [], ◌∷◌, ◌++◌, ℕ, ◌≤◌, length, Float}
use Rattle.std.proofs.Math.Path.{refl}
use Rattle.std.proofs.Common.{sym, ap, ◌∙◌, append-nil, arith}
use Rattle.std.proofs.lemmas.List.{length-replicate}
use Rattle.std.proofs.Math.Seq.{append_snoc}
use Rattle.std.specs.Float.{binary32}
use Rattle.std.specs.Float.Ieee.{of_bits}
use Rattle.std.specs.Float.Ieee.Scale.{finite}
use Rattle.units.specs.Replies.{done}
use Rattle.saturation_protector_buffer.specs.Rings as Rings
use Rattle.saturation_protector_buffer.specs.Rings.{last_of}
use Rattle.saturation_protector_buffer.specs.Ring.{largest, is_capacity, empty, passes, push, reset, items}
use Rattle.saturation_protector_buffer.specs.Calls.{made, pushed, oldest, fronted}
use Rattle.saturation_protector_buffer.specs.History.{accepted, after_pushes}
use Rattle.saturation_protector_buffer.specs.declared.Ring.{Ring}
use Rattle.saturation_protector_buffer.specs.Laws.Places.{length_items}
use Rattle.saturation_protector_buffer.specs.Laws.Pushes.{Sound, last_short, last_last, push_items, push_sound}
use Rattle.saturation_protector_buffer.specs.Laws.Capacity.{pushed_capacity}
use Rattle.saturation_protector_buffer.specs.Laws.Passing.{capacity_least, capacity_most, passed, made_empty, empty_passes, pushed_passes, reset_passes}

-- a ring that is sound for its capacity
abbrev pub SoundRing : Ring → Type 0
SoundRing r = Sound r.capacity r.stored r.place r.size

-- An empty ring is sound.
pub empty_sound : (n : ℕ) → is_capacity n ≡ true → SoundRing (empty n)
unfolding empty
empty_sound n h =
    record {
      long = omega (arith, length-replicate largest (of_bits binary32 0x0000_0000), capacity_most n h);
      inside = capacity_least n h;
      most = omega arith;
      early = λ less. refl;
    }

-- A ring that passes, and whose storage is long enough, is sound after a reset.
pub reset_sound : (r : Ring) → passes r ≡ true → r.capacity ≤ length r.stored → SoundRing (reset r)
unfolding reset
reset_sound r h long = record { long = long; inside = capacity_least r.capacity (passed r h).capacity; most = omega arith; early = λ less. refl }

-- one push more, before whatever comes after
one_push : (r : Ring) (v : Float) (ys : List Float) (b : Bool) → SoundRing r
    → SoundRing (cond b (push r v) r) × (last_of r.capacity (items (cond b (push r v) r) ++ ys) ≡ last_of r.capacity (items r ++ cond b (v ∷ ys) ys))
unfolding push items
one_push r v ys true s =
    let n = r.capacity in (
      push_sound n r.stored r.place r.size v s,
      ap (λ (xs : List Float). last_of n (xs ++ ys)) (push_items n r.stored r.place r.size v s)
          ∙ last_last n (items r ++ (v ∷ [])) ys
          ∙ ap (last_of n) (append_snoc (items r) v ys),
    )
one_push r v ys false s = (s, refl)

-- on a ring that passes, one call is one push of a finite number
one_call : (r : Ring) (v : Float) → passes r ≡ true → (pushed r v).ring ≡ cond (finite v) (push r v) r
unfolding pushed
one_call r v h = rw h

-- From any sound ring that passes, the promised calls leave the last of its items and of the accepted pushes in order, as many as its capacity.
pub history_from : (r : Ring) (vs : List Float) → passes r ≡ true → SoundRing r
    → items (after_pushes r vs) ≡ last_of r.capacity (items r ++ accepted vs)
unfolding after_pushes accepted items
history_from r [] h s =
    let n = r.capacity in
    sym (last_short n (items r ++ []) (rw append-nil (omega (arith, length_items n r.stored r.place r.size s.long s.inside s.most)))
    ∙ append-nil (items r))
history_from r (v ∷ vs) h s =
    let one = one_push r v (accepted vs) (finite v) s in
    let call = one_call r v h in
    history_from (pushed r v).ring vs (pushed_passes r h v) (rw call one.0)
    ∙ ap (λ (n : ℕ). last_of n (items (pushed r v).ring ++ accepted vs)) (pushed_capacity r v)
    ∙ rw call one.1

-- From an empty ring of n: the last n accepted pushes in order.
pub history_of : (n : ℕ) → is_capacity n ≡ true → (vs : List Float) → items (after_pushes (empty n) vs) ≡ last_of n (accepted vs)
unfolding empty items Rings.items
history_of n h vs = history_from (empty n) vs (empty_passes n h) (empty_sound n h)

-- And so from a reset.
pub history_reset : (r : Ring) (vs : List Float) → passes r ≡ true → r.capacity ≤ length r.stored
    → items (after_pushes (reset r) vs) ≡ last_of r.capacity (accepted vs)
unfolding reset items Rings.items
history_reset r vs h long = history_from (reset r) vs (reset_passes r h) (reset_sound r h long)

-- Whatever is pushed, a ring that passes goes on passing.
pub after_pushes_pass : (r : Ring) (vs : List Float) → passes r ≡ true → passes (after_pushes r vs) ≡ true
unfolding after_pushes
after_pushes_pass r [] h = h
after_pushes_pass r (v ∷ vs) h = after_pushes_pass (pushed r v).ring vs (pushed_passes r h v)

-- ---- a new ring of the capacity n, which was not refused
module _ (n : ℕ) (new : (made n).reply ≡ done) where
  -- Its calls leave the last n accepted pushes in order,
  pub pushed_history : (vs : List Float) → items (after_pushes (made n).ring vs) ≡ last_of n (accepted vs)
  pushed_history vs = let k = made_empty n new in rw k.1 (history_of n k.0 vs)

  -- so the front is the first of them: after n accepted pushes or more, the one that was pushed n pushes ago.
  pub oldest_history : (vs : List Float) → fronted (after_pushes (made n).ring vs) ≡ record { reply = done; front = oldest (last_of n (accepted vs)) }
  unfolding fronted
  oldest_history vs =
      let k = made_empty n new in
      rw (after_pushes_pass (made n).ring vs (rw k.1 (empty_passes n k.0)), pushed_history vs) refl
