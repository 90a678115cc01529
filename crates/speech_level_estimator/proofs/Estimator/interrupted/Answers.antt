-- `speech_level_estimator::Estimator::interrupted` meets its contract: what `runs` tells of a frame that is not speech is how a run is closed. Assumes nothing.
use Rattle.runs.specs.Runs.{closed, turned}
use Rattle.speech_level_estimator.specs.Estimator.{interrupted}
use Rattle.speech_level_estimator.proofs.Estimator.interrupted.Goals as goal

pub returns : goal.returns
unfolding interrupted closed turned
returns c =
    let two = c in
    rw (c.is_trusted-confident.ensures, two.pick-reliable.ensures, two.pick-preliminary.ensures, two.step-ended.ensures)
