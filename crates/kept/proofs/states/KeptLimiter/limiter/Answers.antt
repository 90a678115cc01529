-- `kept::states::KeptLimiter::limiter` meets its contract: field by field. Assumes nothing.
use mathlib.Core.Path.{◌≡◌}
use mir.Val.{to_z, of_z}
use mir.Syntax.{w64}
use Rattle.kept.specs.States.{limiter_of}
use borrow.Author.Rules.{rules}
use Rattle.kept.proofs.states.KeptLimiter.limiter.Goals as goal
use Rattle.kept.proofs.states.KeptLimiter.limiter.Goals.{After-struct_told-1}

-- a duration is the number of its own bits
back : (c : After-struct_told-1) → let n = c.args.self.curve.duration in to_z w64 (of_z w64 n) ≡ n
back c = search rules

pub returns : goal.returns
unfolding limiter_of
returns c = rw (c.estimator-estimator.ensures, c.flag_of-available.ensures, back c)
