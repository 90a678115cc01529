-- `chain::take` meets its contract: the controller decides whether the frame is taken; the other parts refuse nothing that the chain takes. Assumes nothing.
use Rattle.std.proofs.Common.{refl, sym, ap, ◌∙◌, Err}
use Rattle.std.proofs.lemmas.Result.{err_from_is_err_and}
use Rattle.units.specs.Laws.Handed.{handed_ok, refused_not_done}
use Rattle.chain.specs.Calls.{informed, told, Called}
use Rattle.chain.specs.Laws.Calls.{ended, level_takes, headroom_takes, controller_number, late_told, limiter_takes, accepted_late, late_full_scale}
use Rattle.chain.proofs.take.Goals as goal

pub returns-in_err-spoken : goal.returns-in_err-spoken
returns-in_err-spoken c =
    let a = c.args in
    let q = c.requires in
    absurd (refused_not_done _ _ _ c.in_err-spoken.ensures (level_takes a.last a.figures a.frame.now a.channels a.samples q.numbers q.figure_numbers q.sound q.tests))

pub returns-in_err-safe : goal.returns-in_err-safe
returns-in_err-safe c =
    let a = c.args in
    let q = c.requires in
    let spoken = (handed_ok _ _ _ (sym c.in_ok-spoken.ensures)).1 in
    absurd (refused_not_done _ _ _ c.in_err-safe.ensures
    (rw (← spoken) (headroom_takes a.last a.figures a.frame.now a.channels a.samples q.numbers q.figure_numbers q.sound q.tests)))

pub returns-in_err-levelled : goal.returns-in_err-levelled
unfolding informed
returns-in_err-levelled c =
    let a = c.args in
    let q = c.requires in
    let spoken = (handed_ok _ _ _ (sym c.in_ok-spoken.ensures)).1 in
    let safe = (handed_ok _ _ _ (sym c.in_ok-safe.ensures)).1 in
    let refused = c.in_err-levelled.ensures in
    let out = err_from_is_err_and c.from_residual-in_err-levelled.result c.from_residual-in_err-levelled.ensures.1 in
    let both =
    late_told a.last a.figures a.frame.now a.channels a.samples q.numbers q.figure_numbers q.sound q.tests
    {report = informed c.in_ok-spoken.spoken c.in_ok-safe.safe a.figures} (sym spoken) (sym safe) refl refl refused.frame_after
    c.from_residual-in_err-levelled.result c.in_err-levelled.field-0.0 (out.1 ∙ ap Err out.2)
    (controller_number _ _ _ _ _ _ _ refused.value) (refused_not_done _ _ _ refused.value) in
    record { result_value = both.0; frame_after = both.1; scale = rw out.1 tt }

pub returns-in_err-limited : goal.returns-in_err-limited
unfolding informed
returns-in_err-limited c =
    let a = c.args in
    let q = c.requires in
    let spoken = (handed_ok _ _ _ (sym c.in_ok-spoken.ensures)).1 in
    let safe = (handed_ok _ _ _ (sym c.in_ok-safe.ensures)).1 in
    let levelled = handed_ok _ _ _ (sym c.in_ok-levelled.ensures.value) in
    absurd (refused_not_done _ _ _ c.in_err-limited.ensures.value
    (limiter_takes a.last a.figures a.frame.now a.channels a.samples q.numbers q.figure_numbers q.sound q.tests
    {report = informed c.in_ok-spoken.spoken c.in_ok-safe.safe a.figures} (sym spoken) (sym safe) refl refl c.in_ok-levelled.ensures.frame_after levelled.0 c.in_err-limited.ensures.frame_after))

pub returns : goal.returns
unfolding informed told ended
returns c =
    let a = c.args in
    let q = c.requires in
    let spoken = (handed_ok _ _ _ (sym c.in_ok-spoken.ensures)).1 in
    let safe = (handed_ok _ _ _ (sym c.in_ok-safe.ensures)).1 in
    let levelled = handed_ok _ _ _ (sym c.in_ok-levelled.ensures.value) in
    let limited = (handed_ok _ _ _ (sym c.in_ok-limited.ensures.value)).1 in
    let report = informed c.in_ok-spoken.spoken c.in_ok-safe.safe a.figures in
    let e =
    accepted_late a.last a.figures a.frame.now a.channels a.samples q.numbers q.figure_numbers q.sound q.tests
    {report = report} (sym spoken) (sym safe) refl refl c.in_ok-levelled.ensures.frame_after levelled.0 c.in_ok-limited.ensures.frame_after in
    record {
      result_value = rw (c.answer_of-answer.ensures, c.is_speech-speech.ensures, ← levelled.1, ← limited) (sym (ap (λ (z : Called). z.told) e));
      frame_after = sym (ap (λ (z : Called). z.frame) e);
      scale =
          late_full_scale a.last a.figures a.frame.now a.channels a.samples q.numbers q.figure_numbers q.sound q.tests
          {report = report} (sym spoken) (sym safe) refl refl c.in_ok-levelled.ensures.frame_after levelled.0 c.in_ok-limited.ensures.frame_after;
    }
