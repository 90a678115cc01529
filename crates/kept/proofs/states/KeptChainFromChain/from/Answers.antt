-- `kept::states::KeptChainFromChain::from` meets its contract: field by field. Assumes nothing.
use mathlib.Core.Path.{◌≡◌}
use mir.Syntax.{w32}
use mir.Val.{to_z, of_z}
use Rattle.kept.proofs.Flags.{flag_number}
use Rattle.kept.specs.States.{kept_chain}
use borrow.Author.Rules.{rules}
use Rattle.kept.proofs.states.KeptChainFromChain.from.Goals as goal
use Rattle.kept.proofs.states.KeptChainFromChain.from.Goals.{After-struct_told-1}

-- the applier's samples are the number of their own bits
back : (c : After-struct_told-1) → let n = c.args.chain.controller.applier.samples in to_z w32 (of_z w32 n) ≡ n
back c = search rules

pub returns : goal.returns
unfolding kept_chain
returns c = rw (c.from-confident.ensures, flag_number c.args.chain.estimator.confident, c.from-clip.ensures, flag_number c.args.chain.controller.applier.clip, c.from-limiter.ensures, back c)
