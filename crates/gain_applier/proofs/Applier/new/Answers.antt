-- `gain_applier::Applier::new` meets its contract: the check refuses what the definition refuses. Assumes nothing.
use Rattle.std.proofs.Common.{◌≡◌, ◌∙◌, Bool, true, sym, refl, Ok}
use lib.Ieee.{Float, of_bits, neg}
use Rattle.units.specs.Figures.{gain_factor}
use Rattle.units.specs.Replies.{refusal}
use Rattle.units.specs.Laws.Replies.{none_refused}
use Rattle.units.specs.Handed.{handed}
use Rattle.units.specs.Laws.Handed.{passed_done, handed_done}
use Rattle.gain_applier.specs.Applier.{starting, made}
use Rattle.gain_applier.proofs.Applier.new.Goals as goal

-- what is made of a factor that is in range
accepted : (clip : Bool) (factor : Float) → gain_factor factor ≡ true → Ok (starting clip factor) ≡ handed (made clip factor).reply (made clip factor).applier
unfolding made refusal
accepted clip factor h = rw h (sym (handed_done _ (starting clip factor) refl))

pub returns : goal.returns
unfolding starting neg of_bits
returns c =
    accepted c.args.clip c.args.factor
    (sym c.is_gain_factor.ensures ∙ (none_refused true true c.is_gain_factor.result true (passed_done _ _ _ c.in_ok-check.ensures)).2)
