-- `saturation_protector::Peaks::advanced` meets its contract: what is pushed is a number, so that the ring does not refuse it. Assumes nothing.
use mathlib.Core.Path.{◌≡◌}
use mathlib.Core.Bool.{true, cond}
use Prim.Native.Nat.{ℕ, ◌+◌}
use lib.Dec.{ltb}
use lib.Ieee.{Float, binary32, sub}
use Rattle.floats.specs.Choice.{larger}
use Rattle.units.specs.Figures.{level}
use native.Mathlib.Omega.{arith}
use Rattle.saturation_protector_buffer.specs.Ring.{push, items}
use Rattle.saturation_protector_buffer.specs.declared.Ring.{Ring}
use Rattle.saturation_protector.specs.Peaks.{lowest, longest, frame_time, oldest_or, nearer, passes, advanced}
use Rattle.saturation_protector.specs.declared.Peaks.{Peaks}
use Rattle.saturation_protector.specs.Laws.Tests.{passed, time_most, level_finite, larger_level}
use Rattle.saturation_protector.specs.Laws.Rings.{pushed_when_passes}
use Rattle.saturation_protector.proofs.Peaks.advanced.Goals as goal

pub overflow_add-later : goal.overflow_add-later
overflow_add-later c = omega (arith, time_most c.args.self c.requires.0)

-- what is pushed is a level
new-level : (s : Peaks) (peak new : Float) → passes s ≡ true → level peak ≡ true → new ≡ larger s.largest peak → level new ≡ true
new-level s peak new h t e = rw e (larger_level s.largest peak (passed s h).largest t)

pub pushed_when-ring-requires : goal.pushed_when-ring-requires
pushed_when-ring-requires c =
    let at = c in
    ((passed at.args.self at.requires.0).ring, new-level at.args.self at.args.peak c.larger-larger.result at.requires.0 at.requires.1 c.larger-larger.ensures)

pub oldest_or-requires : goal.oldest_or-requires
oldest_or-requires c =
    let when = c in
    let larger = when in
    let at = larger in
    rw when.pushed_when-ring.ensures
    (pushed_when_passes (ltb longest (at.args.self.elapsed + frame_time)) at.args.self.ring larger.larger-larger.result (passed at.args.self at.requires.0).ring
    (level_finite larger.larger-larger.result (new-level at.args.self at.args.peak c.larger-larger.result at.requires.0 at.requires.1 c.larger-larger.ensures)))

-- the definition, step by step
joined : (peak speech : Float) (s : Peaks) (new : Float) (ring : Ring) (largest : Float) (elapsed : ℕ) (oldest headroom : Float) → new ≡ larger s.largest peak
    → ring ≡ cond (ltb longest (s.elapsed + frame_time)) (push s.ring new) s.ring
    → largest ≡ cond (ltb longest (s.elapsed + frame_time)) lowest new
    → elapsed ≡ cond (ltb longest (s.elapsed + frame_time)) 0 (s.elapsed + frame_time)
    → oldest ≡ oldest_or (items ring) largest
    → headroom ≡ nearer s.headroom (sub binary32 oldest speech)
    → ◌≡◌ {A = Peaks} (record { headroom = headroom; ring = ring; largest = largest; elapsed = elapsed }) (advanced peak speech s)
unfolding advanced
joined peak speech s new ring largest elapsed oldest headroom n r l e o h = rw (h, o, r, l, e, n)

pub returns : goal.returns
returns c =
    let picks = c in
    let when = picks in
    joined _ _ _ _ _ _ _ _ _ when.larger-larger.ensures when.pushed_when-ring.ensures picks.pick-largest.ensures picks.pick-elapsed.ensures c.oldest_or.ensures
    c.nearer-headroom.ensures
