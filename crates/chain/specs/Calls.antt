-- What each call of the chain answers, refusals first. Definitions only.
use Rattle.std.specs.Prelude.{true, false, ◌&&◌, cond, List, ℕ, eqb, Float, Result, Ok, Err}
use Rattle.std.specs.Float.{binary32}
use Rattle.std.specs.Float.Ieee.{of_bits}
use Rattle.units.specs.Handed.{number_of}
use Rattle.units.specs.Replies.{done, refusal}
use Rattle.units.specs.declared.refusals.Refusal.{Refusal}
use Rattle.units.specs.Settings as Settings
use Rattle.units.specs.declared.settings.Settings.{Settings as Set}
use Rattle.frames.specs.Shape.{is_samples}
use Rattle.frames.specs.Samples.{largest_input}
use Rattle.frames.specs.Refusal.{frame_refusal}
use Rattle.runs.specs.Runs.{speech}
use Rattle.speech_level_estimator.specs.Estimator as Level
use Rattle.speech_level_estimator.specs.declared.Estimator.{Estimator}
use Rattle.saturation_protector_buffer.specs.Ring.{is_capacity}
use Rattle.saturation_protector.specs.declared.Protector.{Protector}
use Rattle.saturation_protector.specs.Protector as Headroom
use Rattle.adaptive_digital_gain_controller.specs.Controller as Gain
use Rattle.adaptive_digital_gain_controller.specs.Calls as Gaining
use Rattle.adaptive_digital_gain_controller.specs.declared.Info.{Info}
use Rattle.gain_applier.specs.Applier as Applying
use Rattle.limiter.specs.Limiter as Limiting
use Rattle.chain.specs.Answer.{Said, said, non_speech, answer_of}
use Rattle.units.specs.Figures.{accepted}
use Rattle.chain.specs.Chain.{initial, passes, samples_of, published}
use Rattle.chain.specs.declared.Chain.{Chain}
use Rattle.units.specs.declared.figures.Figures.{Figures}
use Rattle.chain.specs.declared.Next.{Next}
use Rattle.chain.specs.declared.Published.{Published}

-- ---- a new chain
-- a reply's number, and the chain that was made: all 0, false and identity where it is refused
pub record Made : Type 0 where
  pub reply : ℕ
  pub chain : Chain

-- with settings, a threshold, the samples of a channel and the capacity of the protector's rings
unfoldable pub fresh : Set → ℕ → ℕ → ℕ → Chain
unfolding Level.fresh Level.starting_level Headroom.fresh Gain.fresh Limiting.starting
fresh s t samples capacity =
    record {
      estimator = Level.fresh s t (Level.starting_level s);
      protector = Headroom.fresh initial t capacity;
      controller = Gain.fresh s t;
      limiter = Limiting.starting samples;
    }

-- all fields 0, false and identity
unfoldable pub nothing : Chain
unfolding Level.nothing Headroom.nothing Gain.nothing Limiting.none
nothing = record { estimator = Level.nothing; protector = Headroom.nothing; controller = Gain.nothing; limiter = Limiting.none }

-- 1 for the samples comes before 4 for the settings, the threshold and the capacity
unfoldable pub made : Set → ℕ → ℕ → ℕ → Made
unfolding refusal is_samples Settings.accepted is_capacity fresh nothing
made s t samples capacity =
    let setting = Settings.accepted s && Settings.threshold t && is_capacity capacity in
    record { reply = refusal (is_samples samples) setting true true; chain = cond (is_samples samples && setting) (fresh s t samples capacity) nothing }

-- ---- a frame
-- "Protector and controller take this same frame's published level, the controller its headroom too": what the controller is told
unfoldable pub informed : Estimator → Protector → Figures → Info
informed e s f =
    record {
      probability = f.probability;
      level = record { 0 = e.level };
      reliable = e.confident;
      noise = f.noise;
      headroom = record { 0 = s.headroom };
      envelope = f.envelope;
    }

-- a chain after a frame, the frame as it leaves it, and what it was
pub record Stepped : Type 0 where
  pub chain : Chain
  pub frame : List Float
  pub answer : Said

-- "the chain (level estimator, protector, controller, limiter, in that order ..)": the controller decides on the gain, its applier puts it on the frame
unfoldable pub stepped : Chain → Figures → List Float → ℕ → ℕ → Stepped
unfolding Level.updated Headroom.analyzed Gain.decided Applying.applied Gaining.with_applier Limiting.processed informed answer_of
stepped c f frame channels samples =
    let e = Level.updated c.estimator f.rms.0 f.probability in
    let s = Headroom.analyzed c.protector f.probability f.peak.0 e.level in
    let g = Gain.decided c.controller (informed e s f) in
    let put = Applying.applied g.applier frame channels samples in
    let limited = Limiting.processed c.limiter put.frame channels samples in
    record {
      chain = record { estimator = e; protector = s; controller = Gaining.with_applier g put.next.applier; limiter = limited.next.limiter };
      frame = limited.frame;
      answer = answer_of (speech f.probability) e.threshold e.count e.level s.headroom;
    }

-- what an answer says: the reply's number, what the frame was, and the chain
pub record Told : Type 0 where
  pub reply : ℕ
  pub answer : Said
  pub chain : Chain

-- of a chain and what its call hands back: a refusal tells N and the chain that came in
unfoldable pub told : Chain → Result Next Refusal → Told
unfolding said number_of
told c (Ok n) = record { reply = done; answer = said n.answer; chain = n.chain }
told c (Err e) = record { reply = number_of e; answer = non_speech; chain = c }

-- what a frame is refused with: "1: .. or samples not those the .. chain was set to"; the bound of a sample is the controller's
unfoldable pub refused : Chain → Figures → List Float → ℕ → ℕ → ℕ
unfolding frame_refusal passes accepted
refused c f frame channels samples = frame_refusal frame channels samples (eqb samples (samples_of c)) (passes c) (accepted f) largest_input

-- a call over a lent frame: what it tells, and the frame as it leaves it; a refused one changes nothing and answers N
pub record Called : Type 0 where
  pub told : Told
  pub frame : List Float

unfoldable pub called : Chain → Figures → List Float → ℕ → ℕ → Called
unfolding refused stepped
called c f frame channels samples =
    let reply = refused c f frame channels samples in
    let next = stepped c f frame channels samples in
    record {
      told = record { reply = reply; answer = cond (eqb reply done) next.answer non_speech; chain = cond (eqb reply done) next.chain c };
      frame = cond (eqb reply done) next.frame frame;
    }

-- ---- a gap
-- a reply's number, and the chain that goes on after a gap: the one that came in, where it is refused
pub record Gapped : Type 0 where
  pub reply : ℕ
  pub chain : Chain

-- "It ends the run as a non-speech frame does, sets the controller's waiting count back to T, handles no samples and moves no gain."
unfoldable pub interrupted : Chain → Chain
unfolding Level.interrupted Headroom.interrupted Gain.interrupted
interrupted c =
    record {
      estimator = Level.interrupted c.estimator;
      protector = Headroom.interrupted c.protector;
      controller = Gain.interrupted c.controller;
      limiter = c.limiter;
    }

-- it has neither figures nor sound, so it is refused for the state alone
unfoldable pub gap : Chain → Gapped
unfolding refusal passes interrupted
gap c = record { reply = refusal true (passes c) true true; chain = cond (passes c) (interrupted c) c }

-- ---- what a chain tells of itself, where it passes: otherwise 4, and "any other result 0, false"
abbrev pub nothing_published : Published
nothing_published =
    let zero = of_bits binary32 0x0000_0000 in
    record { level = record { 0 = zero }; headroom = record { 0 = zero }; gain = record { 0 = zero }; confident = false }

-- a reply's number, and what the chain publishes
pub record Reading : Type 0 where
  pub reply : ℕ
  pub published : Published

unfoldable pub published_told : Chain → Reading
unfolding refusal passes
published_told c = record { reply = refusal true (passes c) true true; published = cond (passes c) (published c) nothing_published }

-- a reply's number, and the samples of a channel that the chain was made for
pub record SamplesRead : Type 0 where
  pub reply : ℕ
  pub samples : ℕ

unfoldable pub samples_told : Chain → SamplesRead
unfolding refusal passes
samples_told c = record { reply = refusal true (passes c) true true; samples = cond (passes c) (samples_of c) 0 }
