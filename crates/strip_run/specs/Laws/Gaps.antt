-- A gap: its line is printed with the number that comes next, what comes after it has one more, and the run goes on. Laws.
-- Assumes nothing.
use Rattle.std.specs.Prelude.{◌≡◌, ℕ, true, List, ◌∷◌, ◌++◌}
use Rattle.std.proofs.Math.Path.{ap}
use Rattle.std.proofs.Common.{◌∙◌}
use Rattle.lists.specs.Tests.{◌and◌}
use Rattle.units.specs.Replies.{done, refusal}
use Rattle.speech_level_estimator.specs.Estimator as Level
use Rattle.speech_level_estimator.specs.Laws.Again as Levels
use Rattle.saturation_protector.specs.Protector as Headroom
use Rattle.saturation_protector.specs.Laws.Tests as Headrooms
use Rattle.adaptive_digital_gain_controller.specs.Controller as Gain
use Rattle.adaptive_digital_gain_controller.specs.Laws.States as Gains
use Rattle.chain.specs.Calls as Chaining
use Rattle.chain.specs.Calls.{interrupted, published_told}
use Rattle.chain.specs.Held.{Ready}
use Rattle.chain.specs.Laws.Gaps.{gap_taken, gap_ready}
use Rattle.chain.specs.Laws.Passing.{passed_all, published_level}
use Rattle.chain.specs.declared.Chain.{Chain}
use Rattle.strip_format.specs.Format.{gap}
use Rattle.strip_lines.specs.Lines.{gap_kind, record_line}
use Rattle.strip_lines.specs.Calls.{record_refusal}
use Rattle.strip_reader.specs.Reader.{Handed, entry}
use Rattle.strip_reader.specs.Telling.{Shown, lines_of}
use Rattle.strip_run.specs.Lines.{after, lined, published_with, published, gapped_with, gapped, shown, told}
use Rattle.strip_run.specs.declared.Desk.{Desk}

-- ---- what a chain that passes publishes can be printed
figures_fine : (c : Chain) → Ready c → record_refusal c.estimator.level c.protector.headroom c.controller.gain ≡ done
unfolding record_refusal refusal
figures_fine c r =
    let p = passed_all c r.state in
    let level = published_level c.estimator.level r.held.estimator.level (Levels.sound c.estimator p.estimator).level in
    let headroom = (Headrooms.passed_whole c.protector p.protector).headroom in
    let gain = (Gains.passed_all c.controller p.controller).gain in
    rw (level and headroom and gain)

module _ (d : Desk) (c : Chain) (kind : ℕ) (r : Ready c) where
  -- So a line of its figures is printed, and the run goes on with the next number.
  pub published_printed : published d c kind
      ≡ record {
        desk = record { chain = c; capacity = d.capacity; number = after d.number; more = true; reply = d.reply };
        line = record_line d.number kind c.estimator.level c.protector.headroom c.controller.gain c.estimator.confident;
      }
  unfolding published published_with published_told lined refusal
  published_printed = rw r.state (rw (figures_fine c r))

-- ---- a desk whose chain passes
-- the desk after a gap: the chain's run is broken, and the next number is one more
abbrev pub gap_desk : Desk → Desk
gap_desk d = record { chain = interrupted d.chain; capacity = d.capacity; number = after d.number; more = true; reply = d.reply }

-- the gap's line: the desk's number, G, and the level, the headroom and the gain that stood before
abbrev pub gap_line : Desk → List ℕ
gap_line d =
    record_line d.number gap_kind d.chain.estimator.level d.chain.protector.headroom d.chain.controller.gain
    (interrupted d.chain).estimator.confident

module _ (d : Desk) (r : Ready d.chain) where
  taken : Chaining.gap d.chain ≡ record { reply = done; chain = interrupted d.chain }
  taken = gap_taken d.chain r.state

  -- Its chain passes after a gap, so a next gap is taken too.
  pub gap_again : Ready (interrupted d.chain)
  gap_again = rw taken at (gap_ready d.chain r)

  -- A gap prints its line, and does not end the run.
  pub gap_printed : gapped d ≡ record { desk = gap_desk d; line = gap_line d }
  unfolding gapped gapped_with interrupted Level.interrupted Headroom.interrupted Gain.interrupted
  gap_printed = ap (gapped_with d) taken ∙ published_printed d (interrupted d.chain) gap_kind gap_again

  -- In a strip: its line, and then what comes after it, with the next number.
  pub gap_next : (rest : List Handed) → d.more ≡ true → lines_of told d (entry gap ∷ rest) ≡ gap_line d ++ lines_of told (gap_desk d) rest
  unfolding lines_of told shown
  gap_next rest m = rw m (ap (λ (s : Shown Desk). s.line ++ lines_of told s.desk rest) gap_printed)
