-- That the numbers of an event are f32, and a chain that passes. Definitions only.
use Rattle.std.specs.Prelude.{◌≡◌, ℕ}
use Rattle.fixed_digital_level_estimator.specs.Range.{Held}
use Rattle.chain.specs.Chain.{samples_of}
use Rattle.chain.specs.Held.{HeldFigures, Ready}
use Rattle.chain.specs.declared.Chain.{Chain}
use Rattle.histories.specs.Histories.{Event, frame, gap}

-- the numbers of an event are f32, which is what the borrow checker knows of what is handed in
abbrev pub HeldEvent : Event → Type 0
HeldEvent (frame f s) = HeldFigures f × Held s.buffer
HeldEvent gap = Unit {0}

-- a chain of n samples that passes
pub record ReadyAt (n : ℕ) (c : Chain) : Type 0 where
  pub ready : Ready c
  pub samples : samples_of c ≡ n
