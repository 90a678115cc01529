-- The ring that the code keeps, of a capacity that is a field of it. Definitions only.
use Rattle.std.specs.Prelude.{Bool, ◌&&◌, List, [], ◌∷◌, ℕ, leb, ltb, Float, set, replicate, Option, None, Some}
use Rattle.std.specs.Float.{binary32}
use Rattle.std.specs.Float.Ieee.{of_bits}
use Rattle.units.specs.declared.kinds.Dbfs.{Dbfs}
use Rattle.saturation_protector_buffer.specs.Rings as Rings
use Rattle.saturation_protector_buffer.specs.declared.Ring.{Ring}

-- ---- the capacity
-- "Let the peak ring hold 1 to 16 entries": the storage has a slot for each entry of the largest ring
abbrev pub largest : ℕ
largest = 16

-- "with 4 as the default"
abbrev pub usual : ℕ
usual = 4

-- "4 for a size outside 1 to 16"
unfoldable pub is_capacity : ℕ → Bool
is_capacity n = leb 1 n && leb n largest

-- ---- the ring
-- without items, of a capacity, and all slots 0
unfoldable pub empty : ℕ → Ring
empty n = record { stored = replicate largest (of_bits binary32 0x0000_0000); capacity = n; place = 0; size = 0 }

-- the slots of a ring: those below its capacity
abbrev pub slots : Ring → List Float
slots r = Rings.slots r.capacity r.stored

-- "4 .. for a state whose ring place or count doesn't fit its size"
unfoldable pub fits : Ring → Bool
unfolding is_capacity
fits r = is_capacity r.capacity && ltb r.place r.capacity && leb r.size r.capacity

-- and "stored items finite": every slot of the ring, also one that holds no item now
unfoldable pub passes : Ring → Bool
unfolding fits Rings.all_finite
passes r = fits r && Rings.all_finite (slots r)

-- the peak stored at the place, and one more of them
unfoldable pub push : Ring → Float → Ring
unfolding Rings.after Rings.more
push r v =
    record {
      stored = set r.stored r.place v;
      capacity = r.capacity;
      place = Rings.after r.capacity r.place;
      size = Rings.more r.capacity r.size;
    }

unfoldable pub items : Ring → List Float
unfolding Rings.items
items r = Rings.items r.capacity r.stored r.place r.size

-- "Reset forgets items, not their storage."
unfoldable pub reset : Ring → Ring
reset r = record { stored = r.stored; capacity = r.capacity; place = 0; size = 0 }

-- ---- the front
-- The paper's number and values of each case of the front: none has the number 0 and no value, the oldest the number 1 and its peak.
pub record Said : Type 0 where
  pub number : ℕ
  pub values : List Float

unfoldable pub said : Option Dbfs → Said
said None = record { number = 0; values = [] }
said (Some x) = record { number = 1; values = x.0 ∷ [] }
