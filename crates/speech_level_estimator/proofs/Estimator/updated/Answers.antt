-- `speech_level_estimator::Estimator::updated` meets its contract: the parts that the code works out are those of the run (`turned_framed`). Assumes nothing.
use Rattle.std.proofs.Common.{◌≡◌, Bool, cond, refl}
use lib.Ieee.{Float}
use Rattle.runs.specs.Laws.Counts.{turned_framed}
use Rattle.runs.specs.Runs.{speech, turned}
use Rattle.runs.specs.declared.Turn.{Turn}
use Rattle.speech_level_estimator.specs.Average.{advanced, level}
use Rattle.speech_level_estimator.specs.Estimator.{run, trusted, updated}
use Rattle.speech_level_estimator.specs.declared.Average.{Average as State}
use Rattle.speech_level_estimator.specs.declared.Estimator.{Estimator}
use Rattle.speech_level_estimator.proofs.Estimator.updated.Goals as goal

-- the parts that the code works out, one after the other, make the estimator that the definition says
built : (e : Estimator) (rms p : Float) (turn : Turn) (pre rel : State) (l : Float) (b : Bool)
    → turn ≡ turned (speech p) e.threshold e.count
    → pre ≡ cond (speech p) (advanced rms p e.preliminary) (cond turn.throw e.reliable e.preliminary)
    → rel ≡ cond turn.keep e.preliminary e.reliable
    → l ≡ cond turn.publish (level pre) e.level
    → b ≡ trusted e.threshold turn.count pre.left rel.left
    → ◌≡◌ {A = Estimator}
    (record {
      settings = e.settings;
      threshold = e.threshold;
      initial = e.initial;
      preliminary = pre;
      reliable = rel;
      level = l;
      confident = b;
      count = turn.count;
    })
    (updated e rms p)
unfolding updated turned
built e rms p turn pre rel l b t h k f g = rw (turned_framed (speech p) (advanced rms p) e.threshold (run e), g, f, k, h, t) refl

pub returns : goal.returns
returns c =
    let p = c in
    let t = p in
    let a = t.args in
    built a.self a.rms a.probability t.step-turn.result p.pick-preliminary.result c.pick-reliable.result c.pick-level.result c.is_trusted-confident.result
    (rw (t.step-turn.ensures, t.is_speech-speech.ensures))
    (rw (p.pick-preliminary.ensures, t.is_speech-speech.ensures, p.advanced-more.ensures, p.pick-back.ensures))
    c.pick-reliable.ensures
    (rw (c.pick-level.ensures, c.level.ensures))
    c.is_trusted-confident.ensures
