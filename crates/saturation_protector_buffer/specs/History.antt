-- Pushes one after the other. Definitions only.
use Rattle.std.specs.Prelude.{cond, List, [], ◌∷◌, Float}
use Rattle.std.specs.Float.Ieee.Scale.{finite}
use Rattle.saturation_protector_buffer.specs.Calls.{pushed}
use Rattle.saturation_protector_buffer.specs.declared.Ring.{Ring}

-- the pushes that are accepted, in order: those that are finite
unfoldable pub accepted : List Float → List Float
accepted [] = []
accepted (v ∷ vs) = cond (finite v) (v ∷ accepted vs) (accepted vs)

-- a ring after promised calls, whatever each replies
unfoldable pub after_pushes : Ring → List Float → Ring
unfolding pushed
after_pushes r [] = r
after_pushes r (v ∷ vs) = after_pushes (pushed r v).ring vs
