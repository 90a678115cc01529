-- `gain_applier::ramp` meets its contract: a part that is multiplied by as many gains is ramped. Assumes nothing.
use Rattle.std.proofs.Common.{◌≡◌, ℕ, ◌≤◌, List, length, take, length-take, arith, refl, sym, ap, ◌∙◌, rules}
use lib.Ieee.{Float}
use Rattle.gain_applier.specs.Sound.{ramped}
use Rattle.gain_applier.specs.Gains.{gains_from, multiplied, by_gains}
use Rattle.gain_applier.proofs.ramp.Goals as goal

-- there is room for the gains of a channel
start-long : (n : ℕ) (xs : List Float) → n ≤ 480 → length xs ≡ 480 → length (take n xs) ≡ n
start-long n xs h l = let t = length-take n xs in omega arith

pub returns : goal.returns
returns c =
    let filled = c in
    let a = filled.args in
    c.each_channel.ensures (ramped a.from a.step)
    (λ part after long r.
    let by : after.now ≡ multiplied filled.fill_gains.new.gains part.now = search rules in
    by
    ∙ ap (λ (gains : List Float). multiplied gains part.now) filled.fill_gains.ensures
    ∙ ap (λ (n : ℕ). multiplied (gains_from n a.from a.step) part.now) (start-long a.samples _ filled.requires.1 refl ∙ sym long)
    ∙ by_gains a.from a.step part.now)
