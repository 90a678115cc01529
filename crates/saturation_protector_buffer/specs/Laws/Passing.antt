-- A new ring passes its test, and so does what every accepted call hands back: of any capacity. Laws.
-- Assumes nothing.
use Rattle.std.specs.Prelude.{◌≡◌, Bool, true, false, ◌&&◌, cond, List, [], ◌∷◌, ℕ, zero, suc, ◌<◌, ◌≤◌, ltb, leb, set, take, replicate, Float}
use Rattle.std.proofs.Math.Path.{refl, ap}
use Rattle.std.proofs.Common.{◌∙◌, arith, ltb-true, leb-true, lt-ltb, le-leb}
use Rattle.std.proofs.Math.Seq.{take-set-lt}
use Rattle.std.specs.Float.{binary32}
use Rattle.std.specs.Float.Ieee.{of_bits}
use Rattle.std.specs.Float.Ieee.Scale.{finite}
use Rattle.lists.specs.Tests.{each_of, ◌and◌}
use Rattle.units.specs.Replies.{done}
use Rattle.units.specs.Laws.Replies.{none_refused}
use Rattle.saturation_protector_buffer.specs.Rings.{all_finite}
use Rattle.saturation_protector_buffer.specs.Ring.{largest, is_capacity, empty, slots, fits, passes, push, reset}
use Rattle.saturation_protector_buffer.specs.Calls.{made, pushed, forgotten}
use Rattle.saturation_protector_buffer.specs.Steps.{Within}
use Rattle.saturation_protector_buffer.specs.declared.Ring.{Ring}
use Rattle.saturation_protector_buffer.specs.Laws.Pushes.{after_inside, more_most}

-- A finite number stored anywhere leaves everything finite.
pub finite_set : (xs : List Float) (i : ℕ) (v : Float) → all_finite xs ≡ true → finite v ≡ true → all_finite (set xs i v) ≡ true
unfolding all_finite
finite_set [] i v h f = refl
finite_set (x ∷ xs) zero v h f = f and each_of (finite x ∷ all_finite xs ∷ []) h 1
finite_set (x ∷ xs) (suc i) v h f =
    let p = each_of (finite x ∷ all_finite xs ∷ []) h in
    p 0 and finite_set xs i v (p 1) f

-- n times a finite number are finite.
pub finite_replicate : (n : ℕ) (v : Float) → finite v ≡ true → all_finite (replicate n v) ≡ true
unfolding all_finite
finite_replicate zero v f = refl
finite_replicate (suc n) v f = f and finite_replicate n v f

-- The first n of finite numbers are finite.
pub finite_take : (n : ℕ) (xs : List Float) → all_finite xs ≡ true → all_finite (take n xs) ≡ true
unfolding all_finite
finite_take zero xs h = refl
finite_take (suc n) [] h = refl
finite_take (suc n) (x ∷ xs) h =
    let p = each_of (finite x ∷ all_finite xs ∷ []) h in
    p 0 and finite_take n xs (p 1)

-- ---- the capacity
-- A capacity is from 1 to the largest.
pub capacity_least : (n : ℕ) → is_capacity n ≡ true → 0 < n
unfolding is_capacity
capacity_least n h = leb-true 1 n (each_of (leb 1 n ∷ leb n largest ∷ []) h 0)

pub capacity_most : (n : ℕ) → is_capacity n ≡ true → n ≤ largest
unfolding is_capacity
capacity_most n h = leb-true n largest (each_of (leb 1 n ∷ leb n largest ∷ []) h 1)

-- ---- the test
-- what a ring has that passes
pub record Passed (r : Ring) : Type 0 where
  pub capacity : is_capacity r.capacity ≡ true
  pub inside : r.place < r.capacity
  pub most : r.size ≤ r.capacity
  pub numbers : all_finite (slots r) ≡ true

-- A ring passes exactly where its capacity, place and size lie in their ranges and every slot is finite.
pub passed : (r : Ring) → passes r ≡ true → Passed r
unfolding passes fits
passed r h =
    let p = each_of (is_capacity r.capacity ∷ ltb r.place r.capacity ∷ leb r.size r.capacity ∷ all_finite (slots r) ∷ []) h in
    record { capacity = p 0; inside = ltb-true r.place r.capacity (p 1); most = leb-true r.size r.capacity (p 2); numbers = p 3 }

pub passing : (r : Ring) → Passed r → passes r ≡ true
unfolding passes fits
passing r p = p.capacity and lt-ltb r.place r.capacity p.inside and le-leb r.size r.capacity p.most and p.numbers

-- What the private steps ask is known of a ring whose numbers fit each other,
pub fitting : (r : Ring) → fits r ≡ true → Within r
unfolding fits
fitting r h =
    let p = each_of (is_capacity r.capacity ∷ ltb r.place r.capacity ∷ leb r.size r.capacity ∷ []) h in
    record {
      place = ltb-true r.place r.capacity (p 1);
      size = leb-true r.size r.capacity (p 2);
      capacity = capacity_most r.capacity (p 0);
    }

-- and so of one that passes.
pub within : (r : Ring) → passes r ≡ true → Within r
unfolding passes
within r h = fitting r (each_of (fits r ∷ all_finite (slots r) ∷ []) h 0)

-- ---- the calls
-- An empty ring of a capacity passes: its storage is all 0.
pub empty_passes : (n : ℕ) → is_capacity n ≡ true → passes (empty n) ≡ true
unfolding empty of_bits
empty_passes n h =
    passing (empty n)
    (record {
      capacity = h;
      inside = capacity_least n h;
      most = omega arith;
      numbers = finite_take n (empty n).stored (finite_replicate largest (of_bits binary32 0x0000_0000) refl);
    })

module _ (r : Ring) (h : passes r ≡ true) where
  push_passes : (v : Float) → finite v ≡ true → passes (push r v) ≡ true
  unfolding push
  push_passes v f =
      let was = passed r h in
      let n = r.capacity in
      passing (push r v)
      (record {
        capacity = was.capacity;
        inside = after_inside n r.place was.inside;
        most = more_most n r.size was.most;
        numbers = rw (take-set-lt n r.stored r.place v was.inside) (finite_set (slots r) r.place v was.numbers f);
      })

  kept : (v : Float) (b : Bool) → finite v ≡ b → passes (cond b (push r v) r) ≡ true
  kept v true f = push_passes v f
  kept v false f = h

  -- A ring that passes is handed back as one that passes, whatever is pushed.
  pub pushed_passes : (v : Float) → passes (pushed r v).ring ≡ true
  unfolding pushed
  pushed_passes v = ap (λ (b : Bool). passes (cond (b && finite v) (push r v) r)) h ∙ kept v (finite v) refl

  -- A ring that passes does so after a reset.
  pub reset_passes : passes (reset r) ≡ true
  unfolding reset
  reset_passes =
      let was = passed r h in
      passing (reset r) (record { capacity = was.capacity; inside = capacity_least r.capacity was.capacity; most = omega arith; numbers = was.numbers })

  -- And so as the call hands it back.
  pub forgotten_passes : passes (forgotten r).ring ≡ true
  unfolding forgotten
  forgotten_passes = rw h reset_passes

-- A new ring that is not refused is empty, and of the capacity asked for; so it passes.
pub made_empty : (n : ℕ) → (made n).reply ≡ done → (is_capacity n ≡ true) × ((made n).ring ≡ empty n)
unfolding made
made_empty n h = let k = (none_refused true (is_capacity n) true true h).1 in (k, rw k refl)

pub made_passes : (n : ℕ) → (made n).reply ≡ done → passes (made n).ring ≡ true
made_passes n h = let k = made_empty n h in rw k.1 (empty_passes n k.0)

-- An accepted push is one of a finite number into a ring that passes.
pub push_accepted : (r : Ring) (v : Float) → (pushed r v).reply ≡ done → (passes r ≡ true) × (finite v ≡ true)
unfolding pushed
push_accepted r v h = let k = none_refused true (passes r) (finite v) true h in (k.1, k.2)

-- An accepted reset is one of a ring that passes.
pub reset_accepted : (r : Ring) → (forgotten r).reply ≡ done → passes r ≡ true
unfolding forgotten
reset_accepted r h = (none_refused true (passes r) true true h).1

-- Every accepted push gives a ring that passes.
pub accepted_push_passes : (r : Ring) (v : Float) → (pushed r v).reply ≡ done → passes (pushed r v).ring ≡ true
accepted_push_passes r v h = pushed_passes r (push_accepted r v h).0 v

-- Every accepted reset gives a ring that passes.
pub accepted_reset_passes : (r : Ring) → (forgotten r).reply ≡ done → passes (forgotten r).ring ≡ true
accepted_reset_passes r h = forgotten_passes r (reset_accepted r h)
