-- The capacity of both rings over a history: it is what it was, of any chain and any events, passing or not, taken or refused. Laws.
-- Assumes nothing.
use Rattle.std.specs.Prelude.{◌≡◌, refl, List, [], ◌∷◌}
use Rattle.std.proofs.Common.{◌∙◌}
use Rattle.chain.specs.Chain.{capacities_of}
use Rattle.chain.specs.Laws.Capacity.{called_capacities, gap_capacities}
use Rattle.chain.specs.declared.Chain.{Chain}
use Rattle.histories.specs.Histories.{Event, frame, gap, next, after}

-- The call of an event leaves it,
pub next_capacities : (c : Chain) (e : Event) → capacities_of (next c e) ≡ capacities_of c
unfolding next
next_capacities c (frame f s) = called_capacities c f s.buffer s.channels s.samples
next_capacities c gap = gap_capacities c

-- and so does every history.
pub after_capacities : (c : Chain) (es : List Event) → capacities_of (after c es) ≡ capacities_of c
unfolding after
after_capacities c [] = refl
after_capacities c (e ∷ es) = after_capacities (next c e) es ∙ next_capacities c e
