-- `kept::states::KeptLimiterFromLimiter::from` meets its contract: field by field. Assumes nothing.
use mathlib.Core.Path.{◌≡◌}
use mir.Val.{to_z, of_z}
use mir.Syntax.{w64}
use Rattle.kept.proofs.Flags.{flag_number}
use Rattle.kept.specs.States.{kept_limiter}
use borrow.Author.Rules.{rules}
use Rattle.kept.proofs.states.KeptLimiterFromLimiter.from.Goals as goal
use Rattle.kept.proofs.states.KeptLimiterFromLimiter.from.Goals.{After-struct_told-1}

-- a duration is the number of its own bits
back : (c : After-struct_told-1) → let n = c.args.limiter.curve.duration in to_z w64 (of_z w64 n) ≡ n
back c = search rules

pub returns : goal.returns
unfolding kept_limiter
returns c = rw (c.from-estimator.ensures, c.from-available.ensures, flag_number c.args.limiter.curve.available, back c)
