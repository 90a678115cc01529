-- `chain::Chain::step` meets its contract: the first three tests refuse the frame, or it is taken. Assumes nothing.
use Rattle.std.proofs.Common.{ap, ◌∙◌, Err}
use Rattle.std.proofs.lemmas.Result.{err_from_is_err_and}
use Rattle.units.specs.Laws.Handed.{check_number, number_not_done, passed_done}
use Rattle.chain.specs.Held.{HeldChain, HeldFigures}
use Rattle.chain.specs.Laws.Calls.{refused_told, refused_all}
use denote.Floats.{passes as passed-test}
use Rattle.chain.proofs.Chain.step.Goals as goal
use Rattle.chain.proofs.Chain.step.Goals.{Start}

-- the numbers of what comes in are f32: the search does not go so deep, so each is read at its place, where .1 .1 opens a struct and .1 passes a field by
chain_held : (s : Start) → HeldChain s.args.self
chain_held s =
    let parts = s.well_formed.0.1.1 in
    let e = parts.0.1.1 in
    let es = e.0.1.1 in
    let ep = e.1.1.1.0.1.1 in
    let er = e.1.1.1.1.0.1.1 in
    let p = parts.1.0.1.1 in
    let g = parts.1.1.0.1.1 in
    let ga = g.0.1.1 in
    let gs = g.1.0.1.1 in
    let l = parts.1.1.1.0.1.1 in
    record {
      estimator =
          record {
            settings = record { headroom = passed-test _ es.0.1.1.0.1; initial = passed-test _ es.1.1.0.1.1.0.1 };
            initial = passed-test _ e.1.1.0.1;
            level = passed-test _ e.1.1.1.1.1.0.1;
            preliminary = record { sum = passed-test _ ep.1.0.1; weight = passed-test _ ep.1.1.0.1 };
            reliable = record { sum = passed-test _ er.1.0.1; weight = passed-test _ er.1.1.0.1 };
          };
      protector =
          record {
            headroom = passed-test _ p.1.1.1.0.1;
            preliminary = passed-test _ p.1.1.1.1.0.1.1.0.1;
            reliable = passed-test _ p.1.1.1.1.1.0.1.1.0.1;
          };
      controller =
          record {
            settings =
                record {
                  headroom = passed-test _ gs.0.1.1.0.1;
                  largest = passed-test _ gs.1.0.1.1.0.1;
                  initial = passed-test _ gs.1.1.0.1.1.0.1;
                  change = passed-test _ gs.1.1.1.0.1;
                  noise = passed-test _ gs.1.1.1.1.0.1.1.0.1;
                };
            change = passed-test _ g.1.1.1.0.1;
            gain = passed-test _ g.1.1.1.1.1.0.1;
            last = passed-test _ ga.1.0.1;
            current = passed-test _ ga.1.1.0.1;
          };
      level = passed-test _ l.0.1.1.0.1;
      carried = passed-test _ l.1.1.0.1;
    }

figures-held : (s : Start) → HeldFigures s.args.figures
figures-held s =
    let f = s.well_formed.1.0.1.1 in
    record {
      probability = passed-test _ f.0.1;
      rms = passed-test _ f.1.0.1.1.0.1;
      peak = passed-test _ f.1.1.0.1.1.0.1;
      noise = passed-test _ f.1.1.1.0.1.1.0.1;
      envelope = passed-test _ f.1.1.1.1.0.1.1.0.1;
    }

pub returns-in_err-check-clause-result_value : goal.returns-in_err-check-clause-result_value
returns-in_err-check-clause-result_value c =
    let a = c.args in
    let out = err_from_is_err_and c.from_residual.result c.from_residual.ensures.1 in
    refused_told a.self a.figures a.frame.now a.channels a.samples c.from_residual.result c.in_err-check.field-0.0 (out.1 ∙ ap Err out.2) (check_number _ _ _ _ tt _ c.in_err-check.ensures)

pub returns-in_err-check-clause-frame_after : goal.returns-in_err-check-clause-frame_after
returns-in_err-check-clause-frame_after c =
    let a = c.args in
    (refused_all a.self a.figures a.frame.now a.channels a.samples (check_number _ _ _ _ tt _ c.in_err-check.ensures) (number_not_done c.in_err-check.field-0.0)).1.0

pub take-requires : goal.take-requires
take-requires c =
    let s = c.before.before.before.before.before in
    record {
      tests = passed_done _ _ _ c.in_ok-check.ensures;
      numbers = chain_held s;
      figure_numbers = figures-held s;
      sound = c.slice_known-1.given;
    }
