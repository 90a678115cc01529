-- `strip_run::Run::new` meets its contract. Assumes nothing.
use Rattle.std.proofs.Common.{◌≡◌, ℕ, true, refl}
use Rattle.units.specs.Settings.{unset}
use Rattle.frames.specs.Shape.{is_samples}
use Rattle.chain.specs.Calls.{made, nothing}
use Rattle.chain.specs.declared.Chain.{Chain}
use Rattle.strip_reader.specs.Reader.{fresh}
use Rattle.strip_reader.specs.declared.Reader.{Reader}
use Rattle.strip_run.specs.Lines.{at_start}
use Rattle.strip_run.specs.Run.{new}
use Rattle.strip_run.proofs.Run.new.Goals as goal

-- there is no chain before the head: one that is refused is all 0
none : nothing ≡ (made unset 0 0 0).chain
unfolding made is_samples
none = refl

new_is : (capacity : ℕ) (m : Chain) (r : Reader) → m ≡ nothing → r ≡ fresh
    → record { reader = r; desk = record { chain = m; capacity = capacity; number = 0; more = true; reply = 0 } } ≡ new capacity
unfolding new at_start
new_is capacity m r e f = rw (e, f, none)

pub returns : goal.returns
returns c = new_is _ _ _ c.none.ensures c.new.ensures
