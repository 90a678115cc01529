-- What a frame does to each part of a chain, where no run reaches the threshold by it: nothing new is published, and the gain does not rise. And what a
-- gap does: it closes a run as a frame does that is not speech. Laws.
-- Assumes nothing.
use Rattle.std.specs.Prelude.{◌≡◌, refl, Bool, true, false, ◌||◌, ℕ, ◌+◌, ◌≤◌, ◌<◌, eqb, Float}
use Rattle.std.proofs.Common.{sym, ap, ◌∙◌, arith, ne_eqb}
use Rattle.std.specs.Float.{binary32}
use Rattle.std.specs.Float.Ieee.{of_bits, add, le, lt, eq}
use Rattle.std.proofs.lemmas.Bool.{lt-leb}
use Rattle.units.specs.declared.settings.Settings.{Settings}
use Rattle.runs.specs.Runs.{speech}
use Rattle.runs.specs.Histories.{Frame, Shown, showing}
use Rattle.runs.proofs.Near.{Near, near_stays, near_closed}
use Rattle.speech_level_estimator.specs.Average as Average
use Rattle.speech_level_estimator.specs.Estimator as Level
use Rattle.speech_level_estimator.specs.Laws.Gaps as LevelGaps
use Rattle.speech_level_estimator.specs.declared.Average.{Average as LevelState}
use Rattle.speech_level_estimator.specs.declared.Estimator.{Estimator}
use Rattle.saturation_protector.specs.Peaks as Peaks
use Rattle.saturation_protector.specs.Protector as Headroom
use Rattle.saturation_protector.proofs.Gaps as HeadroomGaps
use Rattle.saturation_protector.specs.declared.Peaks.{Peaks as PeakState}
use Rattle.saturation_protector.specs.declared.Protector.{Protector}
use Rattle.gain_applier.specs.declared.Applier.{Applier}
use Rattle.adaptive_digital_gain_controller.specs.Target.{target}
use Rattle.adaptive_digital_gain_controller.specs.Change.{waits, increase, changed}
use Rattle.adaptive_digital_gain_controller.specs.Controller as Gain
use Rattle.adaptive_digital_gain_controller.specs.Laws.Waiting.{closed_waits_again}
use Rattle.adaptive_digital_gain_controller.specs.declared.Info.{Info}
use Rattle.adaptive_digital_gain_controller.specs.declared.Controller.{Controller}

-- ---- a frame that is not speech, which stands for a gap: all its figures are 0
abbrev pub nought : Float
nought = of_bits binary32 0x0000_0000

pub nought_silent : speech nought ≡ false
unfolding of_bits le lt eq
nought_silent = refl

-- ---- the level estimator, as `runs` has it
-- its run, and the level that was published last
abbrev pub shown_level : Estimator → Shown LevelState Float
shown_level e = record { run = Level.run e; value = e.level }

-- a frame to its average
abbrev pub level_frame : Float → Float → Frame LevelState
level_frame rms p = record { speech = speech p; advance = Average.advanced rms p }

-- the estimator with this run and this level
unfoldable pub with_level : Settings → ℕ → Float → Shown LevelState Float → Estimator
unfolding Level.trusted
with_level settings t initial x =
    record {
      settings = settings;
      threshold = t;
      initial = initial;
      preliminary = x.run.preliminary;
      reliable = x.run.reliable;
      level = x.value;
      confident = Level.trusted t x.run.count x.run.preliminary.left x.run.reliable.left;
      count = x.run.count;
    }

-- An update is a frame to the run and to what is published.
pub updated_is : (e : Estimator) (rms p : Float)
    → Level.updated e rms p ≡ with_level e.settings e.threshold e.initial (showing Average.level e.threshold (level_frame rms p) (shown_level e))
unfolding Level.updated with_level showing
updated_is e rms p = refl

-- two estimators that differ only in a run that has not reached the threshold
pub record LevelBeside (t : ℕ) (a b : Estimator) : Type 0 where
  pub first : a.threshold ≡ t
  pub second : b.threshold ≡ t
  pub settings : a.settings ≡ b.settings
  pub initial : a.initial ≡ b.initial
  pub near : Near Average.level t (shown_level a) (shown_level b)

or_false : (b : Bool) → b || false ≡ b
or_false true = refl
or_false false = refl

-- Below a threshold of two or more only the reliable state is trusted.
pub trusted_below : (t count left reliable : ℕ) → 1 < t → count < t → Level.trusted t count left reliable ≡ eqb reliable 0
unfolding Level.trusted
trusted_below t count left reliable two h = rw (ne_eqb t 1 (λ (e : t ≡ 1). omega (arith, two, e)), lt-leb t count h) (or_false (eqb reliable 0))

-- the estimators with one of two runs that are near each other
with_level_beside : (t : ℕ) (s u : Settings) (i j : Float) (x y : Shown LevelState Float) → s ≡ u → i ≡ j → Near Average.level t x y → LevelBeside t (with_level s t i x) (with_level u t j y)
unfolding with_level
with_level_beside t s u i j x y settings initial near = record { first = refl; second = refl; settings = settings; initial = initial; near = near }

module _ (t : ℕ) (a b : Estimator) (two : 1 < t) (n : LevelBeside t a b) where
  -- the two after a frame each
  first_is : (r p : Float) → Level.updated a r p ≡ with_level a.settings t a.initial (showing Average.level t (level_frame r p) (shown_level a))
  first_is r p = updated_is a r p ∙ ap (λ (z : ℕ). with_level a.settings z a.initial (showing Average.level z (level_frame r p) (shown_level a))) n.first

  second_is : (r p : Float) → Level.updated b r p ≡ with_level b.settings t b.initial (showing Average.level t (level_frame r p) (shown_level b))
  second_is r p = updated_is b r p ∙ ap (λ (z : ℕ). with_level b.settings z b.initial (showing Average.level z (level_frame r p) (shown_level b))) n.second

  -- They stay so after any frame that does not reach the threshold.
  pub level_stays : (r q p o : Float) → (speech p ≡ true → a.count + 1 < t) → (speech o ≡ true → b.count + 1 < t)
      → LevelBeside t (Level.updated a r p) (Level.updated b q o)
  level_stays r q p o more other =
      rw (first_is r p, second_is q o)
      (with_level_beside t a.settings b.settings a.initial b.initial (showing Average.level t (level_frame r p) (shown_level a)) (showing Average.level t (level_frame q o) (shown_level b)) n.settings n.initial
      (near_stays Average.level t (level_frame r p) (level_frame q o) (shown_level a) (shown_level b) two n.near more other))

  -- After the same non-speech frame they are the same.
  pub level_closes : (r p : Float) → speech p ≡ false → Level.updated a r p ≡ Level.updated b r p
  level_closes r p silent =
      first_is r p
      ∙ rw (n.settings, n.initial, near_closed Average.level t (level_frame r p) (shown_level a) (shown_level b) two n.near silent) refl
      ∙ sym (second_is r p)

  -- And so after a gap.
  pub level_interrupted : Level.interrupted a ≡ Level.interrupted b
  level_interrupted =
      LevelGaps.interrupted_is_quiet a nought nought nought_silent ∙ level_closes nought nought nought_silent ∙ sym (LevelGaps.interrupted_is_quiet b nought nought nought_silent)

-- Two estimators that differ only in a run below the threshold publish the same level,
pub level_published : (t : ℕ) (a b : Estimator) → LevelBeside t a b → a.level ≡ b.level
level_published t a b n = n.near.value

-- ---- the protector
abbrev pub headroom_of : PeakState → Float
headroom_of s = s.headroom

abbrev pub shown_headroom : Protector → Shown PeakState Float
shown_headroom s = record { run = Headroom.run s; value = s.headroom }

abbrev pub headroom_frame : Float → Float → Float → Frame PeakState
headroom_frame p peak level = record { speech = speech p; advance = Peaks.advanced peak level }

unfoldable pub with_headroom : Float → ℕ → Shown PeakState Float → Protector
with_headroom initial t x =
    record { initial = initial; threshold = t; count = x.run.count; headroom = x.value; preliminary = x.run.preliminary; reliable = x.run.reliable }

-- An analysis is a frame to the run and to what is published.
pub analyzed_is : (s : Protector) (p peak level : Float)
    → Headroom.analyzed s p peak level ≡ with_headroom s.initial s.threshold (showing headroom_of s.threshold (headroom_frame p peak level) (shown_headroom s))
unfolding Headroom.analyzed with_headroom showing
analyzed_is s p peak level = refl

-- two protectors that differ only in a run that has not reached the threshold
pub record HeadroomBeside (t : ℕ) (a b : Protector) : Type 0 where
  pub first : a.threshold ≡ t
  pub second : b.threshold ≡ t
  pub initial : a.initial ≡ b.initial
  pub near : Near headroom_of t (shown_headroom a) (shown_headroom b)

with_headroom_beside : (t : ℕ) (i j : Float) (x y : Shown PeakState Float) → i ≡ j → Near headroom_of t x y → HeadroomBeside t (with_headroom i t x) (with_headroom j t y)
unfolding with_headroom
with_headroom_beside t i j x y initial near = record { first = refl; second = refl; initial = initial; near = near }

module _ (t : ℕ) (a b : Protector) (two : 1 < t) (n : HeadroomBeside t a b) where
  first_headroom : (p peak level : Float) → Headroom.analyzed a p peak level ≡ with_headroom a.initial t (showing headroom_of t (headroom_frame p peak level) (shown_headroom a))
  first_headroom p peak level = analyzed_is a p peak level ∙ ap (λ (z : ℕ). with_headroom a.initial z (showing headroom_of z (headroom_frame p peak level) (shown_headroom a))) n.first

  second_headroom : (p peak level : Float) → Headroom.analyzed b p peak level ≡ with_headroom b.initial t (showing headroom_of t (headroom_frame p peak level) (shown_headroom b))
  second_headroom p peak level = analyzed_is b p peak level ∙ ap (λ (z : ℕ). with_headroom b.initial z (showing headroom_of z (headroom_frame p peak level) (shown_headroom b))) n.second

  -- They stay so after any frame that does not reach the threshold.
  pub headroom_stays : (p x u o y v : Float) → (speech p ≡ true → a.count + 1 < t) → (speech o ≡ true → b.count + 1 < t)
      → HeadroomBeside t (Headroom.analyzed a p x u) (Headroom.analyzed b o y v)
  headroom_stays p x u o y v more other =
      rw (first_headroom p x u, second_headroom o y v)
      (with_headroom_beside t a.initial b.initial (showing headroom_of t (headroom_frame p x u) (shown_headroom a)) (showing headroom_of t (headroom_frame o y v) (shown_headroom b)) n.initial
      (near_stays headroom_of t (headroom_frame p x u) (headroom_frame o y v) (shown_headroom a) (shown_headroom b) two n.near more other))

  -- After the same non-speech frame they are the same.
  pub headroom_closes : (p peak level : Float) → speech p ≡ false → Headroom.analyzed a p peak level ≡ Headroom.analyzed b p peak level
  headroom_closes p peak level silent =
      first_headroom p peak level
      ∙ rw (n.initial, near_closed headroom_of t (headroom_frame p peak level) (shown_headroom a) (shown_headroom b) two n.near silent) refl
      ∙ sym (second_headroom p peak level)

  -- And so after a gap.
  pub headroom_interrupted : Headroom.interrupted a ≡ Headroom.interrupted b
  headroom_interrupted =
      HeadroomGaps.interrupted_is_quiet a nought nought nought nought_silent
      ∙ headroom_closes nought nought nought nought_silent
      ∙ sym (HeadroomGaps.interrupted_is_quiet b nought nought nought nought_silent)

-- ---- the controller
-- the controller after a frame at which the gain may not rise
unfoldable pub lowered : Applier → Settings → ℕ → Float → Float → ℕ → Float → Controller
unfolding Gain.aimed changed
lowered applier settings t step gain waiting goal =
    let change = changed goal gain false step step in
    record {
      applier = Gain.aimed applier change (add binary32 gain change);
      settings = settings;
      threshold = t;
      change = step;
      waiting = waiting;
      gain = add binary32 gain change;
    }

-- While frames are still to come, what a frame does turns on its level, noise, headroom and envelope, and not on its probability.
pub decided_is : (c : Controller) (i : Info) (t w : ℕ) → c.threshold ≡ t → waits (speech i.probability) t c.waiting ≡ w → 0 < w
    → Gain.decided c i ≡ lowered c.applier c.settings t c.change c.gain w (target c.settings c.gain i)
unfolding Gain.decided lowered increase
decided_is c i t w e h some = rw (e, h, ne_eqb w 0 (λ (z : w ≡ 0). omega (arith, some, z))) refl

-- two controllers that differ only in how many frames are still to come, behind k frames of a run that has not reached the threshold
pub record GainBeside (t k : ℕ) (a b : Controller) : Type 0 where
  pub first : a.threshold ≡ t
  pub second : b.threshold ≡ t
  pub applier : a.applier ≡ b.applier
  pub settings : a.settings ≡ b.settings
  pub change : a.change ≡ b.change
  pub gain : a.gain ≡ b.gain
  pub waiting : a.waiting + k ≡ t
  pub other : t ≤ b.waiting + k

-- two infos that differ only in their probability
pub record InfoBeside (i j : Info) : Type 0 where
  pub level : i.level ≡ j.level
  pub reliable : i.reliable ≡ j.reliable
  pub noise : i.noise ≡ j.noise
  pub headroom : i.headroom ≡ j.headroom
  pub envelope : i.envelope ≡ j.envelope

-- They ask for the same gain.
same_target : (s : Settings) (gain : Float) (i j : Info) → InfoBeside i j → target s gain i ≡ target s gain j
unfolding target
same_target s gain i j n = rw (n.level, n.reliable, n.noise, n.headroom, n.envelope) refl

-- how many frames are still to come after a frame of a run that does not reach the threshold
waits_some : (speech : Bool) (t k waiting : ℕ) → k + 1 < t → t ≤ waiting + k → t ≤ waits speech t waiting + (k + 1)
unfolding waits
waits_some true t k waiting h some = omega (arith, some)
waits_some false t k waiting h some = omega arith

waits_speech : (t k waiting : ℕ) → k + 1 < t → waiting + k ≡ t → waits true t waiting + (k + 1) ≡ t
unfolding waits
waits_speech t k waiting h e = omega (arith, e)

lowered_beside : (t k : ℕ) (p q : Applier) (s u : Settings) (c d x y : Float) (v w : ℕ) (m n : Float) → p ≡ q → s ≡ u → c ≡ d → x ≡ y → m ≡ n → v + k ≡ t → t ≤ w + k
    → GainBeside t k (lowered p s t c x v m) (lowered q u t d y w n)
unfolding lowered
lowered_beside t k p q s u c d x y v w m n applier settings change gain goal first other =
    record {
      first = refl;
      second = refl;
      applier = rw (applier, change, gain, goal) refl;
      settings = settings;
      change = change;
      gain = rw (change, gain, goal) refl;
      waiting = first;
      other = other;
    }

module _ (t k : ℕ) (a b : Controller) (i j : Info) (n : GainBeside t k a b) (same : InfoBeside i j) where
  wished : target a.settings a.gain i ≡ target b.settings b.gain j
  wished = rw (n.settings, n.gain) (same_target b.settings b.gain i j same)

  -- They stay so after a speech frame of the first that does not reach the threshold, whatever the second has.
  pub gain_stays : speech i.probability ≡ true → k + 1 < t → GainBeside t (k + 1) (Gain.decided a i) (Gain.decided b j)
  gain_stays spoken h =
      let v = waits (speech i.probability) t a.waiting in
      let w = waits (speech j.probability) t b.waiting in
      let e : v + (k + 1) ≡ t = rw spoken (waits_speech t k a.waiting h n.waiting) in
      let o : t ≤ w + (k + 1) = waits_some (speech j.probability) t k b.waiting h n.other in
      rw (decided_is a i t v n.first refl (omega (arith, e, h)), decided_is b j t w n.second refl (omega (arith, o, h)))
      (lowered_beside t (k + 1) a.applier b.applier a.settings b.settings a.change b.change a.gain b.gain v w (target a.settings a.gain i) (target b.settings b.gain j)
      n.applier n.settings n.change n.gain wished e o)

  -- After the same non-speech frame they are the same.
  pub gain_closes : speech i.probability ≡ false → speech j.probability ≡ false → 0 < t → Gain.decided a i ≡ Gain.decided b j
  gain_closes silent other some =
      decided_is a i t t n.first (closed_waits_again (speech i.probability) t a.waiting silent) some
      ∙ rw (n.applier, n.settings, n.change, n.gain, same_target b.settings b.gain i j same) refl
      ∙ sym (decided_is b j t t n.second (closed_waits_again (speech j.probability) t b.waiting other) some)

-- After a gap they are the same too: of both all frames are to come again.
pub gain_interrupted : (t k : ℕ) (a b : Controller) → GainBeside t k a b → Gain.interrupted a ≡ Gain.interrupted b
unfolding Gain.interrupted
gain_interrupted t k a b n = rw (n.applier, n.settings, n.change, n.gain, n.first, n.second) refl
