-- Document 01's worked examples of the ring, of 4 as there: after 1, 2, 3, 4 and 5 the oldest is 2; an empty ring has none. And rings of 1 and of 16.
use Rattle.std.specs.Prelude.{◌≡◌, refl, List, [], ◌∷◌, ◌++◌, Float, replicate}
use Rattle.std.specs.Float.{binary32}
use Rattle.std.specs.Float.Ieee.{of_bits}
use Rattle.units.specs.Replies.{done}
use Rattle.saturation_protector_buffer.specs.Ring.{usual}
use Rattle.saturation_protector_buffer.specs.Calls.{Told, made, fronted}
use Rattle.saturation_protector_buffer.specs.History.{after_pushes}

-- 1, 2, 3, 4 and 5
abbrev pub one_to_five : List Float
one_to_five =
    of_bits binary32 0x3f80_0000 ∷ of_bits binary32 0x4000_0000 ∷ of_bits binary32 0x4040_0000 ∷ of_bits binary32 0x4080_0000 ∷ of_bits binary32 0x40a0_0000 ∷ []

-- the answer that the oldest is the number with these bits
abbrev it_is : Float → Told
it_is x = record { reply = done; front = record { number = 1; values = x ∷ [] } }

-- "Push 1 to 5: oldest is 2."
pub push_1_to_5 : fronted (after_pushes (made usual).ring one_to_five) ≡ it_is (of_bits binary32 0x4000_0000)
unfolding fronted after_pushes made of_bits
push_1_to_5 = refl

-- "Empty ring: none."
pub empty_none : fronted (made usual).ring ≡ record { reply = done; front = record { number = 0; values = [] } }
unfolding fronted made of_bits
empty_none = refl

-- A ring of 1 holds the last push,
pub last_of_one : fronted (after_pushes (made 1).ring one_to_five) ≡ it_is (of_bits binary32 0x40a0_0000)
unfolding fronted after_pushes made of_bits
last_of_one = refl

-- and one of 16 still has 1 to 5 after eleven pushes more; the next push takes the 1.
pub sixteen_ago : fronted (after_pushes (made 16).ring (one_to_five ++ replicate 11 (of_bits binary32 0x0000_0000))) ≡ it_is (of_bits binary32 0x3f80_0000)
unfolding fronted after_pushes made of_bits
sixteen_ago = refl

pub seventeen_ago : fronted (after_pushes (made 16).ring (one_to_five ++ replicate 12 (of_bits binary32 0x0000_0000))) ≡ it_is (of_bits binary32 0x4000_0000)
unfolding fronted after_pushes made of_bits
seventeen_ago = refl
