-- A state that passes, given accepted figures, decides on a state that passes: its gain lies from 0 to 51, its factor from 1 to 355.
use Rattle.std.specs.Prelude.{◌≡◌, ℕ, ◌-◌, ◌^◌, ◌<◌, ◌≤◌, Bool, true, false, cond, ◌&&◌, T, leb, [], ◌∷◌, ◌==◌, ◌≢◌, nat_le, nat_lt, Float}
use Rattle.std.proofs.Common.{lt_of_le_of_lt, leb-true, le-leb, ne_eqb, lit<}
use native.Mathlib.Omega.{arith}
use Rattle.std.specs.Float.Ieee.{binary32, of_bits, add, eq, ne, le, lt, fits, size as bits}
use Rattle.std.specs.Float.Ieee.Bits.{is_true}
use Rattle.rounding.specs.Laws.Order.{le→units, units→le}
use Rattle.rounding.specs.Laws.Exact.{constant_number}
use Rattle.lists.specs.Tests.{each_of, ◌and◌}
use Rattle.intervals.specs.Interval.{Boxed}
use Rattle.intervals.specs.Laws.Choice.{leq_trans}
use Rattle.units.specs.Figures as Figures
use Rattle.units.specs.Settings as Settings
use Rattle.runs.specs.Runs.{speech}
use Rattle.decibels.specs.Ratio.{answer}
use Rattle.gain_applier.specs.Applier as Applier
use Rattle.gain_applier.specs.Laws.Again.{aimed_passes}
use Rattle.gain_applier.specs.declared.Applier.{Applier as Gainer}
use Rattle.adaptive_digital_gain_controller.specs.Target.{target}
use Rattle.adaptive_digital_gain_controller.specs.Change.{per_frame, waits, increase, changed}
use Rattle.adaptive_digital_gain_controller.specs.Controller.{accepted, largest, passes, aimed, decided}
use Rattle.adaptive_digital_gain_controller.specs.Calls.{with_applier}
use Rattle.adaptive_digital_gain_controller.specs.Range.{zero, Goal, Gain, HeldInfo, HeldState, Ready}
use Rattle.adaptive_digital_gain_controller.specs.Laws.Boxes.{from_to, closed_box, InSettings, in_settings, in_figures}
use Rattle.adaptive_digital_gain_controller.specs.Laws.Target.{target_in_range}
use Rattle.adaptive_digital_gain_controller.specs.Laws.Change.{Step, change_step, rise_step, frame_box, equal_box, stays, held_down}
use Rattle.adaptive_digital_gain_controller.specs.Laws.Factor.{factor_stays, factor_passes}
use Rattle.adaptive_digital_gain_controller.specs.declared.Info.{Info}
use Rattle.adaptive_digital_gain_controller.specs.declared.Controller.{Controller}

-- what a state that passes has passed
pub record Passed (c : Controller) : Type 0 where
  pub settings : Settings.accepted c.settings ≡ true
  pub threshold : Settings.threshold c.threshold ≡ true
  pub change : eq c.change (per_frame c.settings.change) ≡ true
  pub waiting : leb c.waiting c.threshold ≡ true
  pub gain : Figures.gain c.gain ≡ true
  pub applier : Applier.passes c.applier ≡ true
  pub last : le c.applier.last largest ≡ true
  pub current : le c.applier.current largest ≡ true

-- A state that passes has passed each of the eight tests.
pub passed_all : (c : Controller) → passes c ≡ true → Passed c
unfolding passes
passed_all c h =
    let p = each_of (_ ∷ _ ∷ _ ∷ _ ∷ _ ∷ _ ∷ _ ∷ _ ∷ []) h in
    record { settings = p 0; threshold = p 1; change = p 2; waiting = p 3; gain = p 4; applier = p 5; last = p 6; current = p 7 }

-- And what has passed all eight passes.
pub passing : (c : Controller) → Passed c → passes c ≡ true
unfolding passes
passing c p = p.settings and p.threshold and p.change and p.waiting and p.gain and p.applier and p.last and p.current

-- A threshold that passes is at most the largest.
pub threshold_most : (n : ℕ) → Settings.threshold n ≡ true → n ≤ Settings.largest_threshold
threshold_most n h = leb-true n Settings.largest_threshold (each_of (nat_le 1 n ∷ nat_le n Settings.largest_threshold ∷ []) h 1)

-- So it is an f32 as it stands: the largest is below 2 ^ 24. No law here asks more of that number.
pub threshold_exact : (n : ℕ) → Settings.threshold n ≡ true → n < 2 ^ 24
threshold_exact n h = lt_of_le_of_lt (threshold_most n h) (lit< tt)

-- A gain that passes lies from 0 to 51.
pub gain_in : (x : Float) → T (fits binary32 x) → Figures.gain x ≡ true → Gain x
unfolding of_bits
gain_in x t h = (closed_box 0x0000_0000 0x424c_0000 tt tt x t h).inside

-- And what lies there passes.
pub gain_passes : (x : Float) → Gain x → Figures.gain x ≡ true
unfolding of_bits
gain_passes x g =
    let top = of_bits binary32 0x424c_0000 in
    is_true (le zero x) (units→le zero x (constant_number 0x0000_0000 tt) g.number g.above) and is_true (le x top) (units→le x top g.number (constant_number 0x424c_0000 tt) g.below)

-- An initial gain that is accepted passes.
pub initial_passes : (x : Float) → Boxed (from_to 0x0000_0000 0x4248_0000) x → Figures.gain x ≡ true
unfolding of_bits le lt eq bits
initial_passes x b =
    let top = of_bits binary32 0x4248_0000 in
    let end = of_bits binary32 0x424c_0000 in
    let up = le→units top end (constant_number 0x4248_0000 tt) (constant_number 0x424c_0000 tt) tt in
    gain_passes x (record { number = b.inside.number; above = b.inside.above; below = leq_trans x top end b.inside.below up })

-- The frames that are still to come are at most the threshold.
pub waits_most : (talks : Bool) (threshold waiting : ℕ) → nat_le waiting threshold ≡ true → nat_le (waits talks threshold waiting) threshold ≡ true
unfolding waits
waits_most true threshold waiting h = le-leb (waiting - 1) threshold (let k = leb-true waiting threshold h in omega arith)
waits_most false threshold waiting h = le-leb threshold threshold (omega arith)

-- ---- the applier
-- an applier that passes, with factors up to 355 that are f32
pub record Sure (a : Gainer) : Type 0 where
  pub last : T (fits binary32 a.last)
  pub current : T (fits binary32 a.current)
  pub state : Applier.passes a ≡ true
  pub small : le a.last largest ≡ true
  pub next : le a.current largest ≡ true

-- Where the gain lies from 0 to 51, the applier that is aimed at its ratio passes, with factors up to 355.
pub aimed_sure : (a : Gainer) (change gain : Float) → Sure a → Gain gain → Sure (aimed a change gain)
unfolding aimed Applier.aimed
aimed_sure a change gain s g =
    let f = factor_stays gain g.number.held (gain_passes gain g) in
    let p = factor_passes (answer gain).ratio f in
    go (ne change zero) (rw (s.state, p.0) (record { last = s.last; current = f.number.held; state = rw (s.state, p.0) at (aimed_passes a (answer gain).ratio s.state p.0); small = s.small; next = p.1 }))
  where
    go : {next : Gainer} (b : Bool) → Sure next → Sure (cond b next a)
    go true k = k
    go false k = s

-- ---- the state that a frame's figures decide on
module _ (c : Controller) (i : Info) (h : HeldState c) (k : HeldInfo i) (p : passes c ≡ true) (a : accepted i ≡ true) where
  all : Passed c
  all = passed_all c p

  settings : InSettings c.settings
  settings = in_settings c.settings h.settings all.settings

  old : Gain c.gain
  old = gain_in c.gain h.gain all.gain

  -- The target is a number from 0 to the f32 next above 50.
  pub goal : Goal (target c.settings c.gain i)
  goal = target_in_range c.settings c.gain i settings old (in_figures i k a)

  per_frame_lem : Boxed (from_to 0x0000_0000 0x3f80_0000) c.change
  per_frame_lem = equal_box (from_to 0x0000_0000 0x3f80_0000) c.change (per_frame c.settings.change) h.change (frame_box c.settings.change settings.change) all.change

  most : Step c.change
  most = change_step c.change per_frame_lem

  rise : (first : Bool) → Step (increase first c.threshold c.change)
  rise first = rise_step first c.threshold c.change (threshold_exact c.threshold all.threshold) per_frame_lem

  -- From a state that passes and accepted figures the new gain is a number from 0 to 51.
  pub gain_stays : Gain (decided c i).gain
  unfolding decided
  gain_stays =
      let waiting = waits (speech i.probability) c.threshold c.waiting in
      let first = waiting == 0 && nat_lt 0 c.waiting in
      stays (target c.settings c.gain i) c.gain c.change (increase first c.threshold c.change) (waiting == 0) goal old most (rise first)

  -- Where a frame is still to come, it is not above the gain before it.
  pub gain_waits : 0 < (decided c i).waiting → le (decided c i).gain c.gain ≡ true
  unfolding decided
  gain_waits w =
      let waiting = waits (speech i.probability) c.threshold c.waiting in
      let first = waiting == 0 && nat_lt 0 c.waiting in
      let d = held_down (target c.settings c.gain i) c.gain c.change (increase first c.threshold c.change) (waiting == 0) goal old most (rise first) (ne_eqb waiting 0 (λ (e : waiting ≡ 0). some waiting w e)) in
      is_true (le (decided c i).gain c.gain) (units→le (decided c i).gain c.gain d.number old.number d.below)
    where
      some : (n : ℕ) → 0 < n → n ≢ 0
      some n h e = omega arith

  -- The applier inside passes, with factors up to 355.
  pub applier_sure : Sure (decided c i).applier
  unfolding decided
  applier_sure =
      let waiting = waits (speech i.probability) c.threshold c.waiting in
      let first = waiting == 0 && nat_lt 0 c.waiting in
      let change = changed (target c.settings c.gain i) c.gain (waiting == 0) c.change (increase first c.threshold c.change) in
      aimed_sure c.applier change (add binary32 c.gain change) (record { last = h.last; current = h.current; state = all.applier; small = all.last; next = all.current })
      (stays (target c.settings c.gain i) c.gain c.change (increase first c.threshold c.change) (waiting == 0) goal old most (rise first))

  -- The state passes with any applier that passes with factors up to 355, if that is put in its place.
  pub decided_ready : (b : Gainer) → Sure b → Ready (with_applier (decided c i) b)
  unfolding decided with_applier
  decided_ready b s =
      record {
        held = record { settings = h.settings; change = h.change; gain = gain_stays.number.held; last = s.last; current = s.current };
        state = passing (with_applier (decided c i) b)
            (record {
              settings = all.settings;
              threshold = all.threshold;
              change = all.change;
              waiting = waits_most (speech i.probability) c.threshold c.waiting all.waiting;
              gain = gain_passes (decided c i).gain gain_stays;
              applier = s.state;
              last = s.small;
              current = s.next;
            });
      }
