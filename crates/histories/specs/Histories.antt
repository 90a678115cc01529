-- The chain over a list of events, by the calls that are promised: frames and gaps. Definitions only.
use Rattle.std.specs.Prelude.{Bool, true, false, ◌&&◌, cond, List, [], ◌∷◌, ℕ, eqb, length, Float}
use Rattle.frames.specs.Shape.{is_shape}
use Rattle.frames.specs.Samples.{largest_input, all_within}
use Rattle.runs.specs.Runs.{speech}
use Rattle.units.specs.Figures.{accepted}
use Rattle.units.specs.declared.figures.Figures.{Figures}
use Rattle.chain.specs.Chain.{published}
use Rattle.chain.specs.Calls as Chaining
use Rattle.chain.specs.Calls.{called}
use Rattle.chain.specs.declared.Chain.{Chain}
use Rattle.chain.specs.declared.Published.{Published}

-- a frame of sound: the lent buffer, its channels and their samples
pub record Sound : Type 0 where
  pub buffer : List Float
  pub channels : ℕ
  pub samples : ℕ

-- a frame with its figures; or a gap, where frames were lost
pub data Event : Type 0 where
  frame : Figures → Sound → Event
  gap : Event

-- whether an event is a speech frame: "probability against 0.95"
unfoldable pub is_speech : Event → Bool
is_speech (frame f s) = speech f.probability
is_speech gap = false

-- whether a chain of n samples takes an event: shape, samples, figures and every sample are as they should be; a gap has none of them, and is taken
unfoldable pub takes : ℕ → Event → Bool
unfolding is_shape accepted all_within
takes n (frame f s) = is_shape s.channels s.samples (length s.buffer) && eqb s.samples n && accepted f && all_within largest_input s.buffer
takes n gap = true

-- the chain after the call that an event makes: "a refused call changes nothing"
unfoldable pub next : Chain → Event → Chain
unfolding called Chaining.gap
next c (frame f s) = (called c f s.buffer s.channels s.samples).told.chain
next c gap = (Chaining.gap c).chain

-- what comes out at an event: what the chain publishes after it, and the frame of sound; "a gap has no sound"
pub record Out : Type 0 where
  pub figures : Published
  pub sound : List Float

unfoldable pub out : Chain → Event → Out
unfolding called next
out c (frame f s) = record { figures = published (next c (frame f s)); sound = (called c f s.buffer s.channels s.samples).frame }
out c gap = record { figures = published (next c gap); sound = [] }

-- the chain after a history
unfoldable pub after : Chain → List Event → Chain
unfolding next
after c [] = c
after c (e ∷ es) = after (next c e) es

-- what comes out at each event of a history
unfoldable pub outputs : Chain → List Event → List Out
unfolding out next
outputs c [] = []
outputs c (e ∷ es) = out c e ∷ outputs (next c e) es

-- what comes out at the events that a chain of n samples takes: a refused call hands out nothing
unfoldable pub outputs_taken : ℕ → Chain → List Event → List Out
unfolding out next takes
outputs_taken n c [] = []
outputs_taken n c (e ∷ es) = cond (takes n e) (out c e ∷ outputs_taken n (next c e) es) (outputs_taken n (next c e) es)

-- the events of a history that a chain of n samples takes: "a history is that of the accepted calls"
unfoldable pub only_taken : ℕ → List Event → List Event
unfolding takes
only_taken n [] = []
only_taken n (e ∷ es) = cond (takes n e) (e ∷ only_taken n es) (only_taken n es)
