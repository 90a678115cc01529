-- `decibels::ratio` meets its contract: the check refuses what the definition refuses. Assumes nothing.
use Rattle.std.proofs.Common.{◌≡◌, ◌∙◌, Bool, true, false, sym, ap}
use Rattle.std.specs.Prelude.{refl, ℕ, Float, cond, from_bits, Ok}
use Rattle.std.specs.Float.{binary32}
use Rattle.floats.specs.Laws.Kinds.{passed}
use Rattle.decibels.specs.Ratio.{Answer, ratio_of, answer}
use Rattle.units.specs.Figures.{gain}
use Rattle.units.specs.Replies.{done, bad_figure, refusal}
use Rattle.units.specs.Laws.Replies.{none_refused}
use Rattle.units.specs.Handed.{handed}
use Rattle.units.specs.Laws.Handed.{refused_by, passed_done, handed_done}
use Rattle.decibels.proofs.ratio.Goals as goal
use Rattle.decibels.proofs.ratio.Goals.{In_ok-check}

-- the definition, by what the test of the gain finds
by-test : Bool → Float → Float → Answer
by-test b x y = cond b (record { reply = done; ratio = x }) (record { reply = bad_figure; ratio = y })

-- its reply is the check's
replies : (b : Bool) (x y : Float) → refusal true true b true ≡ (by-test b x y).reply
unfolding by-test refusal
replies true x y = refl
replies false x y = refl

reply-of : (x : Float) → refusal true true (gain x) true ≡ (answer x).reply
unfolding answer by-test
reply-of x = replies (gain x) (ratio_of x) (from_bits binary32 0x0000_0000)

accepted : (x : Float) → gain x ≡ true → handed (answer x).reply (answer x).ratio ≡ Ok (ratio_of x)
unfolding answer
accepted x h = rw (h, handed_done done (ratio_of x) refl)

is-gain : (c : In_ok-check) → gain c.args.gain.0 ≡ true
is-gain c = sym c.is_gain.ensures ∙ (none_refused true true c.is_gain.result true (passed_done _ _ _ c.in_ok-check.ensures)).2

pub returns-in_err-check : goal.returns-in_err-check
returns-in_err-check c =
    let x = c.args.gain.0 in
    refused_by c.from_residual.result c.in_err-check.field-0.0 (refusal true true c.is_gain.result true) tt (answer x).ratio c.from_residual.ensures.1 c.in_err-check.ensures
    ∙ ap (λ (n : ℕ). handed n (answer x).ratio) (ap (λ (b : Bool). refusal true true b true) c.is_gain.ensures ∙ reply-of x)

pub worked_out-requires : goal.worked_out-requires
worked_out-requires c = passed (is-gain c)

pub returns : goal.returns
returns c = ap Ok c.worked_out.ensures ∙ sym (accepted c.args.gain.0 (is-gain c.before))
