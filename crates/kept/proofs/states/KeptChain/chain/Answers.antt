-- `kept::states::KeptChain::chain` meets its contract: field by field. Assumes nothing.
use mathlib.Core.Path.{◌≡◌}
use mir.Syntax.{w32}
use mir.Val.{to_z, of_z}
use Rattle.kept.specs.States.{chain_of}
use borrow.Author.Rules.{rules}
use Rattle.kept.proofs.states.KeptChain.chain.Goals as goal
use Rattle.kept.proofs.states.KeptChain.chain.Goals.{After-struct_told-1}

-- the applier's samples are the number of their own bits
back : (c : After-struct_told-1) → let n = c.args.self.controller.applier.samples in to_z w32 (of_z w32 n) ≡ n
back c = search rules

pub returns : goal.returns
unfolding chain_of
returns c = rw (c.flag_of-confident.ensures, c.flag_of-clip.ensures, c.limiter-limiter.ensures, back c)
