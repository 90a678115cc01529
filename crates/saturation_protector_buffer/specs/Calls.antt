-- What each call of the ring answers, refusals first. Definitions only.
use Rattle.std.specs.Prelude.{Bool, true, ◌&&◌, cond, List, [], ◌∷◌, ℕ, Float, Option, None, Result, Ok, Err}
use Rattle.std.specs.Float.Ieee.Scale.{finite}
use Rattle.units.specs.Replies.{done, refusal}
use Rattle.units.specs.Handed.{number_of}
use Rattle.units.specs.declared.kinds.Dbfs.{Dbfs}
use Rattle.units.specs.declared.refusals.Refusal.{Refusal}
use Rattle.saturation_protector_buffer.specs.Rings.{same_items}
use Rattle.saturation_protector_buffer.specs.Ring.{is_capacity, empty, passes, push, reset, items, Said, said}
use Rattle.saturation_protector_buffer.specs.declared.Ring.{Ring}

-- a reply's number, and the ring that goes on from there: the one that came in where it is refused
pub record Next : Type 0 where
  pub reply : ℕ
  pub ring : Ring

-- a reply's number, and how many peaks there are: 0 where it is refused
pub record Counted : Type 0 where
  pub reply : ℕ
  pub size : ℕ

-- a reply's number, and how many peaks the ring can hold: 0 where it is refused
pub record Held : Type 0 where
  pub reply : ℕ
  pub capacity : ℕ

-- a reply's number, and whether two rings hold the same peaks: not, where it is refused
pub record Compared : Type 0 where
  pub reply : ℕ
  pub equal : Bool

-- a new ring: "4 for a size outside 1 to 16", and then all fields 0
unfoldable pub made : ℕ → Next
unfolding refusal is_capacity empty
made n = record { reply = refusal true (is_capacity n) true true; ring = empty (cond (is_capacity n) n 0) }

-- "A pushed peak is any finite number": 4 for the ring comes before 2 for the peak
unfoldable pub pushed : Ring → Float → Next
unfolding refusal passes push
pushed r v = record { reply = refusal true (passes r) (finite v) true; ring = cond (passes r && finite v) (push r v) r }

-- what an answer says: the reply's number, and the front by the paper's number and values of its case; none where it is refused
pub record Told : Type 0 where
  pub reply : ℕ
  pub front : Said

unfoldable pub told : Result (Option Dbfs) Refusal → Told
unfolding said number_of
told (Ok front) = record { reply = done; front = said front }
told (Err e) = record { reply = number_of e; front = said None }

-- the first of the items: none has no value, and the oldest has one
unfoldable pub oldest : List Float → Said
oldest [] = record { number = 0; values = [] }
oldest (x ∷ xs) = record { number = 1; values = x ∷ [] }

unfoldable pub fronted : Ring → Told
unfolding refusal passes items oldest
fronted r = record { reply = refusal true (passes r) true true; front = oldest (cond (passes r) (items r) []) }

unfoldable pub sized : Ring → Counted
unfolding refusal passes
sized r = record { reply = refusal true (passes r) true true; size = cond (passes r) r.size 0 }

unfoldable pub held : Ring → Held
unfolding refusal passes
held r = record { reply = refusal true (passes r) true true; capacity = cond (passes r) r.capacity 0 }

unfoldable pub forgotten : Ring → Next
unfolding refusal passes reset
forgotten r = record { reply = refusal true (passes r) true true; ring = cond (passes r) (reset r) r }

-- "Equality is of the items, oldest first.": also of two rings of unlike capacity
unfoldable pub compared : Ring → Ring → Compared
unfolding refusal passes items same_items
compared r s =
    let ok = passes r && passes s in
    record { reply = refusal true ok true true; equal = ok && same_items (items r) (items s) }
