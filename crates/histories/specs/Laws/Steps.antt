-- One event to two chains that differ only in a run below the threshold: what comes out is the same, and once the run is closed so are the chains. Laws.
-- Assumes nothing.
use Rattle.std.specs.Prelude.{◌≡◌, refl, Bool, true, false, cond, List, [], ℕ, ◌+◌, ◌≤◌, ◌<◌, eqb, Float}
use Rattle.std.proofs.Common.{sym, ◌∙◌, arith}
use Rattle.std.proofs.Math.Path.{ap}
use Rattle.std.proofs.lemmas.Bool.{false≢true}
use Rattle.runs.specs.Runs.{speech, longer}
use Rattle.runs.specs.Laws.Counts.{longer_below, framed_count}
use Rattle.speech_level_estimator.specs.Average as Average
use Rattle.speech_level_estimator.specs.Estimator as Level
use Rattle.speech_level_estimator.specs.declared.Average.{Average as State}
use Rattle.speech_level_estimator.specs.declared.Estimator.{Estimator}
use Rattle.saturation_protector.specs.Peaks as Peaks
use Rattle.saturation_protector.specs.Protector as Headroom
use Rattle.saturation_protector.specs.declared.Protector.{Protector}
use Rattle.gain_applier.specs.Applier as Applying
use Rattle.gain_applier.specs.declared.Applier.{Applier}
use Rattle.adaptive_digital_gain_controller.specs.Controller as Gain
use Rattle.adaptive_digital_gain_controller.specs.Calls.{with_applier}
use Rattle.adaptive_digital_gain_controller.specs.declared.Controller.{Controller}
use Rattle.limiter.specs.Limiter as Limiting
use Rattle.limiter.specs.declared.Limiter.{Limiter}
use Rattle.chain.specs.Chain.{published}
use Rattle.chain.specs.Calls.{informed, stepped, interrupted}
use Rattle.chain.specs.Laws.Steps.{heard, safe, info}
use Rattle.chain.specs.declared.Chain.{Chain}
use Rattle.units.specs.declared.figures.Figures.{Figures}
use Rattle.histories.specs.Histories.{Sound, Event, frame, gap, is_speech, Out}
use Rattle.histories.specs.Laws.Parts.{LevelBeside, level_stays, level_closes, level_interrupted, trusted_below, HeadroomBeside, headroom_stays, headroom_closes, headroom_interrupted, GainBeside, InfoBeside, gain_stays, gain_closes, gain_interrupted}

-- what a chain makes of an event that it takes: the chain after it, and what comes out
pub record Step : Type 0 where
  pub chain : Chain
  pub out : Out

-- what a gap comes to: the chain after it, and no sound
abbrev silent_step : Chain → Step
silent_step c = record { chain = c; out = record { figures = published c; sound = [] } }

unfoldable pub step_of : Chain → Event → Step
unfolding stepped interrupted
step_of c (frame f s) =
    let step = stepped c f s.buffer s.channels s.samples in
    record { chain = step.chain; out = record { figures = published step.chain; sound = step.frame } }
step_of c gap = silent_step (interrupted c)

-- ---- what an update leaves of the estimator, and an analysis of the protector
pub updated_count : (e : Estimator) (r p : Float) → (Level.updated e r p).count ≡ cond (speech p) (longer e.threshold e.count) 0
unfolding Level.updated
updated_count e r p = framed_count (speech p) (Average.advanced r p) e.threshold (Level.run e)

pub analyzed_count : (s : Protector) (p peak level : Float) → (Headroom.analyzed s p peak level).count ≡ cond (speech p) (longer s.threshold s.count) 0
unfolding Headroom.analyzed
analyzed_count s p peak level = framed_count (speech p) (Peaks.advanced peak level) s.threshold (Headroom.run s)

updated_confident : (e : Estimator) (r p : Float)
    → (Level.updated e r p).confident
    ≡ Level.trusted e.threshold (Level.updated e r p).count (Level.updated e r p).preliminary.left (Level.updated e r p).reliable.left
unfolding Level.updated
updated_confident e r p = refl

-- a count of a run behind k frames, after a speech frame, and after any frame of a run that has no more
one_more : (b : Bool) (t k count u : ℕ) → b ≡ true → u ≡ t → count ≡ k → k < t → cond b (longer u count) 0 ≡ k + 1
one_more true t k count u e f g h = rw (f, g) (longer_below t k h)
one_more false t k count u e f g h = absurd (false≢true e)

no_more : (b : Bool) (t k count u : ℕ) → u ≡ t → count ≤ k → k < t → cond b (longer u count) 0 ≤ k + 1
no_more true t k count u f g h = rw f (omega (arith, longer_below t count (omega (arith, g, h)), g))
no_more false t k count u f g h = omega arith

-- ---- two chains that differ only in a run of k frames, which is below the threshold
pub record Beside (t k : ℕ) (a b : Chain) : Type 0 where
  pub level : LevelBeside t a.estimator b.estimator
  pub level_count : a.estimator.count ≡ k
  pub level_other : b.estimator.count ≤ k
  pub headroom : HeadroomBeside t a.protector b.protector
  pub headroom_count : a.protector.count ≡ k
  pub headroom_other : b.protector.count ≤ k
  pub gain : GainBeside t k a.controller b.controller
  pub limiter : a.limiter ≡ b.limiter

-- the applier inside has put the same gain on the same frame
applied_beside : (t k : ℕ) (a b : Controller) (p q : Applier) → GainBeside t k a b → p ≡ q → GainBeside t k (with_applier a p) (with_applier b q)
unfolding with_applier
applied_beside t k a b p q n e =
    record {
      first = n.first;
      second = n.second;
      applier = e;
      settings = n.settings;
      change = n.change;
      gain = n.gain;
      waiting = n.waiting;
      other = n.other;
    }

-- Below the threshold an estimator is confident by its reliable state alone.
pub reliable_only : (t : ℕ) → 1 < t → (e : Estimator) (r p : Float) → e.threshold ≡ t → (Level.updated e r p).count < t
    → (Level.updated e r p).confident ≡ eqb (Level.updated e r p).reliable.left 0
reliable_only t two e r p same below =
    let u = Level.updated e r p in
    updated_confident e r p
    ∙ ap (λ (z : ℕ). Level.trusted z u.count u.preliminary.left u.reliable.left) same
    ∙ trusted_below t u.count u.preliminary.left u.reliable.left two below

-- what the controller of a chain comes to at a frame, and what its applier and the limiter make of the sound
abbrev chosen : Chain → Figures → Controller
chosen c f = Gain.decided c.controller (info c f)

abbrev applied : Controller → Sound → Applying.Applied
applied g s = Applying.applied g.applier s.buffer s.channels s.samples

abbrev limited : Limiter → Controller → Sound → Limiting.Processed
limited l g s = Limiting.processed l (applied g s).frame s.channels s.samples

-- the same level, headroom, gain and confidence, and the same sound
same_out : {l l' h h' g g' : Float} {c c' : Bool} {x x' : List Float} → l ≡ l' → h ≡ h' → g ≡ g' → c ≡ c' → x ≡ x'
    → ◌≡◌ {A = Out} (record { figures = record { level = record { 0 = l }; headroom = record { 0 = h }; gain = record { 0 = g }; confident = c }; sound = x })
    (record { figures = record { level = record { 0 = l' }; headroom = record { 0 = h' }; gain = record { 0 = g' }; confident = c' }; sound = x' })
same_out p q r u v = rw (p, q, r, u, v)

module _ (t k : ℕ) (a b : Chain) (two : 1 < t) (n : Beside t k a b) (f g : Figures) (noise : f.noise ≡ g.noise) (envelope : f.envelope ≡ g.envelope)
    (s : Sound) (spoken : speech f.probability ≡ true) (short : k + 1 < t) where
  levels : LevelBeside t (heard a f) (heard b g)
  levels =
      level_stays t a.estimator b.estimator two n.level f.rms.0 g.rms.0 f.probability g.probability
      (λ e. omega (arith, n.level_count, short)) (λ e. omega (arith, n.level_other, short))

  trusts : (heard a f).confident ≡ (heard b g).confident
  trusts =
      reliable_only t two a.estimator f.rms.0 f.probability n.level.first levels.near.apart.first
      ∙ ap (λ (x : State). eqb x.left 0) levels.near.apart.same
      ∙ sym (reliable_only t two b.estimator g.rms.0 g.probability n.level.second levels.near.apart.second)

  headrooms : HeadroomBeside t (safe a f) (safe b g)
  headrooms =
      headroom_stays t a.protector b.protector two n.headroom f.probability f.peak.0 (heard a f).level g.probability g.peak.0 (heard b g).level
      (λ e. omega (arith, n.headroom_count, short)) (λ e. omega (arith, n.headroom_other, short))

  infos : InfoBeside (info a f) (info b g)
  unfolding informed
  infos =
      record {
        level = rw levels.near.value refl;
        reliable = trusts;
        noise = noise;
        headroom = rw headrooms.near.value refl;
        envelope = envelope;
      }

  gains : GainBeside t (k + 1) (chosen a f) (chosen b g)
  unfolding informed
  gains = gain_stays t k a.controller b.controller (info a f) (info b g) n.gain infos spoken short

  -- the same gain is put on the same frame
  put : applied (chosen a f) s ≡ applied (chosen b g) s
  put = ap (λ (x : Applier). Applying.applied x s.buffer s.channels s.samples) gains.applier

  limits : limited a.limiter (chosen a f) s ≡ limited b.limiter (chosen b g) s
  limits = rw (n.limiter, put) refl

  -- After a speech frame of the first chain that does not reach the threshold they stay so,
  pub step_stays : Beside t (k + 1) (step_of a (frame f s)).chain (step_of b (frame g s)).chain
  unfolding step_of stepped
  step_stays =
      record {
        level = levels;
        level_count =
            updated_count a.estimator f.rms.0 f.probability
            ∙ one_more (speech f.probability) t k a.estimator.count a.estimator.threshold spoken n.level.first n.level_count (omega (arith, short));
        level_other = rw (updated_count b.estimator g.rms.0 g.probability) (no_more (speech g.probability) t k b.estimator.count b.estimator.threshold n.level.second n.level_other (omega (arith, short)));
        headroom = headrooms;
        headroom_count =
            analyzed_count a.protector f.probability f.peak.0 (heard a f).level
            ∙ one_more (speech f.probability) t k a.protector.count a.protector.threshold spoken n.headroom.first n.headroom_count (omega (arith, short));
        headroom_other = rw (analyzed_count b.protector g.probability g.peak.0 (heard b g).level) (no_more (speech g.probability) t k b.protector.count b.protector.threshold n.headroom.second n.headroom_other (omega (arith, short)));
        gain =
            applied_beside t (k + 1) (chosen a f) (chosen b g) (applied (chosen a f) s).next.applier (applied (chosen b g) s).next.applier gains
            (ap (λ (x : Applying.Applied). x.next.applier) put);
        limiter = ap (λ (x : Limiting.Processed). x.next.limiter) limits;
      }

  -- and the same comes out.
  pub step_same : (step_of a (frame f s)).out ≡ (step_of b (frame g s)).out
  unfolding step_of stepped with_applier
  step_same = same_out levels.near.value headrooms.near.value gains.gain trusts (ap (λ (x : Limiting.Processed). x.frame) limits)

-- the step by its parts: what the estimator, the protector and the controller have come to, and the limiter before it
unfoldable joined : Estimator → Protector → Controller → Limiter → Sound → Step
unfolding Applying.applied with_applier Limiting.processed
joined e p g l s =
    let chain : Chain = record { estimator = e; protector = p; controller = with_applier g (applied g s).next.applier; limiter = (limited l g s).next.limiter } in
    record { chain = chain; out = record { figures = published chain; sound = (limited l g s).frame } }

joined_is : (c : Chain) (f : Figures) (s : Sound) → step_of c (frame f s) ≡ joined (heard c f) (safe c f) (chosen c f) c.limiter s
unfolding step_of stepped joined
joined_is c f s = refl

joined_same : {e e' : Estimator} {p p' : Protector} {g g' : Controller} {l l' : Limiter} (s : Sound) → e ≡ e' → p ≡ p' → g ≡ g' → l ≡ l' → joined e p g l s ≡ joined e' p' g' l' s
joined_same s a b c d = rw (a, b, c, d)

same_infos : (e d : Estimator) (p q : Protector) (f : Figures) → e ≡ d → p ≡ q → InfoBeside (informed e p f) (informed d q f)
unfolding informed
same_infos e d p q f first second = rw (first, second) (record { level = refl; reliable = refl; noise = refl; headroom = refl; envelope = refl })

-- After a gap both chains are the same.
interrupted_same : (t k : ℕ) (a b : Chain) → 1 < t → Beside t k a b → interrupted a ≡ interrupted b
unfolding interrupted
interrupted_same t k a b two n =
    rw (level_interrupted t a.estimator b.estimator two n.level, headroom_interrupted t a.protector b.protector two n.headroom, gain_interrupted t k a.controller b.controller n.gain, n.limiter)
    refl

-- After the same event that is not speech both chains are the same, and so is what comes out.
pub step_closes : (t k : ℕ) (a b : Chain) → 1 < t → Beside t k a b → (e : Event) → is_speech e ≡ false → step_of a e ≡ step_of b e
unfolding informed is_speech step_of
step_closes t k a b two n (frame f s) silent =
    let levels : heard a f ≡ heard b f = level_closes t a.estimator b.estimator two n.level f.rms.0 f.probability silent in
    let headrooms : safe a f ≡ safe b f =
    ap (λ (x : Estimator). Headroom.analyzed a.protector f.probability f.peak.0 x.level) levels
    ∙ headroom_closes t a.protector b.protector two n.headroom f.probability f.peak.0 (heard b f).level silent in
    let infos = same_infos (heard a f) (heard b f) (safe a f) (safe b f) f levels headrooms in
    let gains : chosen a f ≡ chosen b f = gain_closes t k a.controller b.controller (info a f) (info b f) n.gain infos silent silent (omega (arith, two)) in
    joined_is a f s ∙ joined_same s levels headrooms gains n.limiter ∙ sym (joined_is b f s)
step_closes t k a b two n gap silent = ap silent_step (interrupted_same t k a b two n)
