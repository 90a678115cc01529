-- The capacity of both rings of what is kept: a new chain has the one asked for, and no call changes it. Laws.
-- Assumes nothing.
use Rattle.std.specs.Prelude.{◌≡◌, refl, Bool, true, false, cond, List, ℕ, eqb, Float}
use Rattle.units.specs.Replies.{done}
use Rattle.units.specs.declared.figures.Figures.{Figures}
use Rattle.units.specs.declared.settings.Settings.{Settings}
use Rattle.adaptive_digital_gain_controller.specs.Range.{HeldSettings}
use Rattle.saturation_protector.specs.Protector.{capacities}
use Rattle.chain.specs.Calls as Chaining
use Rattle.chain.specs.Laws.Start as ChainStart
use Rattle.chain.specs.Laws.Capacity as ChainCapacity
use Rattle.kept.specs.States.{chain_of, kept_chain}
use Rattle.kept.specs.Calls.{chain_passes, chain_made, chain_stepped, chain_gapped}
use Rattle.kept.specs.declared.states.KeptChain.{KeptChain}

-- the capacity of the ring of the preliminary state, and of the reliable one
abbrev pub capacities_of : KeptChain → ℕ × ℕ
capacities_of k = capacities k.protector

-- A new chain that is not refused has the capacity that was asked for.
pub chain_made_capacities : (s : Settings) (t samples capacity : ℕ) → HeldSettings s → (chain_made s t samples capacity).reply ≡ done
    → capacities_of (chain_made s t samples capacity).chain ≡ (capacity, capacity)
unfolding chain_made kept_chain
chain_made_capacities s t samples capacity held ok = ChainStart.made_capacities s t samples capacity held ok

-- A frame leaves both, accepted or not,
pub chain_stepped_capacities : (k : KeptChain) (f : Figures) (frame : List Float) (channels samples : ℕ)
    → capacities_of (chain_stepped k f frame channels samples).next.chain ≡ capacities_of k
unfolding chain_stepped kept_chain chain_of
chain_stepped_capacities k f frame channels samples = go (eqb (chain_stepped k f frame channels samples).next.reply done)
  where
    go : (b : Bool) → capacities_of (cond b (kept_chain (Chaining.called (chain_of k) f frame channels samples).told.chain) k) ≡ capacities_of k
    go true = ChainCapacity.called_capacities (chain_of k) f frame channels samples
    go false = refl

-- and so does a gap.
pub chain_gapped_capacities : (k : KeptChain) → capacities_of (chain_gapped k).chain ≡ capacities_of k
unfolding chain_gapped kept_chain chain_of
chain_gapped_capacities k = go (chain_passes k)
  where
    go : (b : Bool) → capacities_of (cond b (kept_chain (Chaining.gap (chain_of k)).chain) k) ≡ capacities_of k
    go true = ChainCapacity.gap_capacities (chain_of k)
    go false = refl
