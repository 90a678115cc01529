-- `limiter::Limiter::reset` meets its contract: a state that passes has an estimator that does. Assumes nothing.
use Rattle.std.proofs.Common.{◌≡◌, true}
use Rattle.std.specs.Prelude.{Ok}
use lib.Ieee.{binary32, of_bits}
use Rattle.units.specs.Replies.{refusal}
use Rattle.units.specs.Handed.{handed}
use Rattle.fixed_digital_level_estimator.specs.declared.Estimator.{Estimator}
use Rattle.fixed_digital_level_estimator.specs.Estimator as E
use Rattle.limiter.specs.declared.Limiter.{Limiter}
use Rattle.limiter.specs.Laws.Taking.{parts_pass}
use Rattle.units.specs.Laws.Replies.{none_refused}
use Rattle.units.specs.Laws.Handed.{refused_by, passed_done}
use Rattle.limiter.specs.Limiter.{passes, cleared, hearing}
use Rattle.limiter.proofs.Limiter.reset.Goals as goal

pub returns-in_err-check : goal.returns-in_err-check
unfolding cleared
returns-in_err-check c = refused_by _ _ _ tt _ c.from_residual.ensures.1 (rw c.passes.ensures at c.in_err-check.ensures)

-- then its estimator is reset
silent : (l : Limiter) → passes l ≡ true
    → handed (E.cleared l.estimator).reply (E.cleared l.estimator).estimator ≡ Ok (record { level = of_bits binary32 0x0000_0000; samples = l.estimator.samples; part = l.estimator.part })
unfolding E.cleared refusal handed
silent l h = rw (parts_pass l h).estimator

with_it : (l : Limiter) (e : Estimator) → passes l ≡ true → Ok e ≡ handed (E.cleared l.estimator).reply (E.cleared l.estimator).estimator
    → Ok (record { estimator = e; curve = l.curve; carried = l.carried }) ≡ handed (cleared l).reply (cleared l).limiter
unfolding cleared hearing refusal handed
with_it l e h k =
    let is : e ≡ record { level = of_bits binary32 0x0000_0000; samples = l.estimator.samples; part = l.estimator.part } = cc (silent l h, k) in
    rw (h, is)

pub returns-in_err-silent : goal.returns-in_err-silent
returns-in_err-silent c =
    let a = c.args in
    let t = none_refused true (passes a.self) true true (passed_done _ _ _ (rw c.passes.ensures at c.in_ok-check.ensures)) in
    absurd (cc (silent a.self t.1, c.in_err-silent.ensures))

pub returns : goal.returns
returns c =
    let a = c.args in
    let t = none_refused true (passes a.self) true true (passed_done _ _ _ (rw c.passes.ensures at c.in_ok-check.ensures)) in
    with_it a.self _ t.1 c.in_ok-silent.ensures
