-- The capacity of both rings: that asked for where the protector is new, and no call changes it. Laws.
-- Assumes nothing.
use Rattle.std.specs.Prelude.{◌≡◌, refl, Bool, true, false, ◌&&◌, cond, List, [], ◌∷◌, ℕ, ◌+◌, ltb, Float}
use Rattle.std.proofs.Common.{sym, ap, ap₂, ◌∙◌}
use Rattle.floats.specs.Choice.{larger}
use Rattle.lists.specs.Tests.{◌and◌}
use Rattle.units.specs.Figures.{headroom}
use Rattle.units.specs.Settings.{threshold}
use Rattle.units.specs.Replies.{done}
use Rattle.units.specs.Laws.Replies.{none_refused}
use Rattle.runs.specs.Runs.{speech, turned}
use Rattle.saturation_protector_buffer.specs.Ring as Ring
use Rattle.saturation_protector.specs.Peaks as Peaks
use Rattle.saturation_protector.specs.Peaks.{longest, frame_time}
use Rattle.saturation_protector.specs.Protector.{capacities, passes, nothing, fresh, again, analyzed}
use Rattle.saturation_protector.specs.Calls.{made, figures, stepped, reset}
use Rattle.saturation_protector.specs.History.{Figures, heard}
use Rattle.saturation_protector.specs.declared.Peaks.{Peaks as State}
use Rattle.saturation_protector.specs.declared.Protector.{Protector}
use Rattle.saturation_protector.specs.Laws.Tests.{passed_whole}
use Rattle.saturation_protector.specs.Laws.Frames.{preliminary_of, turned_to, analyzed_turned}

-- ---- one state
-- A speech frame leaves the capacity of its ring.
pub advanced_capacity : (peak level : Float) (s : State) → (Peaks.advanced peak level s).ring.capacity ≡ s.ring.capacity
unfolding Peaks.advanced Ring.push
advanced_capacity peak level s = go (ltb longest (s.elapsed + frame_time))
  where
    go : (b : Bool) → (cond b (Ring.push s.ring (larger s.largest peak)) s.ring).capacity ≡ s.ring.capacity
    go true = refl
    go false = refl

either_capacity : (b : Bool) (x y : State) (n : ℕ) → x.ring.capacity ≡ n → y.ring.capacity ≡ n → (cond b x y).ring.capacity ≡ n
either_capacity true x y n h k = h
either_capacity false x y n h k = k

-- ---- the calls
-- A new protector that is not refused has two rings of the capacity asked for.
pub made_capacities : (initial : Float) (t n : ℕ) → (made initial t n).reply ≡ done → capacities (made initial t n).protector ≡ (n, n)
unfolding made fresh Peaks.starting Ring.empty
made_capacities initial t n h =
    let k = none_refused true (threshold t && Ring.is_capacity n) (headroom initial) true h in
    ap (λ (b : Bool). capacities (cond b (fresh initial t n) nothing)) (k.1 and k.2)

-- Of a protector that passes, a frame leaves both capacities, whether it is speech or not,
turned_capacities : (s : Protector) (b : Bool) (peak level : Float) → passes s ≡ true → capacities (turned_to b peak level s) ≡ capacities s
unfolding turned_to preliminary_of
turned_capacities s b peak level h =
    let alike = (passed_whole s h).alike in
    let turn = turned b s.threshold s.count in
    let n = s.preliminary.ring.capacity in
    let back = either_capacity turn.throw s.reliable s.preliminary n (sym alike) refl in
    ap₂ {C = ℕ × ℕ} (λ (x y : ℕ). (x, y))
    (either_capacity b (Peaks.advanced peak level s.preliminary) (cond turn.throw s.reliable s.preliminary) n (advanced_capacity peak level s.preliminary) back)
    (either_capacity turn.keep s.preliminary s.reliable s.reliable.ring.capacity alike refl)

-- so they stay one number;
pub turned_alike : (s : Protector) (b : Bool) (peak level : Float) → passes s ≡ true
    → (turned_to b peak level s).preliminary.ring.capacity ≡ (turned_to b peak level s).reliable.ring.capacity
turned_alike s b peak level h =
    let same = turned_capacities s b peak level h in
    ap (λ (x : ℕ × ℕ). x.0) same ∙ (passed_whole s h).alike ∙ sym (ap (λ (x : ℕ × ℕ). x.1) same)

pub analyzed_capacities : (s : Protector) (p peak level : Float) → passes s ≡ true → capacities (analyzed s p peak level) ≡ capacities s
analyzed_capacities s p peak level h = ap capacities (analyzed_turned s p peak level) ∙ turned_capacities s (speech p) peak level h

-- and so does any call of one, accepted or not.
pub stepped_capacities : (s : Protector) (p peak level : Float) → capacities (stepped s p peak level).protector ≡ capacities s
unfolding stepped
stepped_capacities s p peak level = go (passes s) refl (figures p peak level)
  where
    go : (b : Bool) → passes s ≡ b → (f : Bool) → capacities (cond (b && f) (analyzed s p peak level) s) ≡ capacities s
    go true h true = analyzed_capacities s p peak level h
    go true h false = refl
    go false h f = refl

-- A reset leaves them,
pub reset_capacities : (s : Protector) → capacities (reset s).protector ≡ capacities s
unfolding reset again Peaks.restarted Ring.reset
reset_capacities s = go (passes s)
  where
    go : (b : Bool) → capacities (cond b (again s) s) ≡ capacities s
    go true = refl
    go false = refl

-- and any number of frames.
pub heard_capacities : (s : Protector) (fs : List Figures) → capacities (heard s fs) ≡ capacities s
unfolding heard
heard_capacities s [] = refl
heard_capacities s (f ∷ fs) =
    heard_capacities (stepped s f.probability f.peak f.level).protector fs ∙ stepped_capacities s f.probability f.peak f.level
