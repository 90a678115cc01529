-- Each count is the number of past accepted levels in its region, modulo 2^64; a handed-in state's counts go on from where they stand.
use Rattle.std.specs.Prelude.{◌≡◌, ℕ, zero, suc, ◌+◌, ◌%◌, ◌^◌, ◌<◌, Bool, true, false, cond, ◌&&◌, T, List, [], ◌∷◌, ◌==◌, Float}
use Rattle.std.proofs.Math.Path.{refl}
use Rattle.std.proofs.Common.{sym, ap, ◌∙◌, subst, zero-add, arith, lit<}
use Rattle.units.specs.Figures.{curve_level}
use Rattle.interpolated_gain_curve.specs.Gain.{region_of}
use Rattle.interpolated_gain_curve.specs.Curve.{fresh, passes, counted, in_region, looked}
use Rattle.interpolated_gain_curve.specs.History.{after, is_in, times, count}
use Rattle.interpolated_gain_curve.specs.Laws.Passes.{fresh_passes, still_passes}
use Rattle.interpolated_gain_curve.specs.declared.Curve.{Curve}

-- ---- one look-up
-- the count of each of the four regions goes by the one rule
each : (region : ℕ) → region < 4 → (c : Curve) (now : ℕ) → count region (in_region c now) ≡ counted (now == region) (count region c)
unfolding count in_region
each zero h c now = refl
each (suc zero) h c now = refl
each (suc (suc zero)) h c now = refl
each (suc (suc (suc zero))) h c now = refl
each (suc (suc (suc (suc n)))) h c now = absurd (omega arith)

-- the count is one more, modulo 2^64, where the level is accepted and lies in the region, and otherwise the same
one : (region : ℕ) → region < 4 → (c : Curve) (level : Float) → T (passes c)
    → count region (looked c level).curve ≡ cond (is_in region level) ((count region c + 1) % 2 ^ 64) (count region c)
unfolding looked is_in
one region h c level t = go (passes c) t (curve_level level)
  where
    go : (a : Bool) → T a → (b : Bool) → count region (cond (a && b) (in_region c (region_of level)) c) ≡ cond (b && region_of level == region) ((count region c + 1) % 2 ^ 64) (count region c)
    go true t true = unfold counted in each region h c (region_of level)
    go true t false = refl
    go false t b = absurd t

-- ---- in whole numbers
small : (n : ℕ) → n < 2 ^ 64 → n ≡ (n + 0) % 2 ^ 64
small n h = omega arith

more : (n k : ℕ) → ((n + 1) % 2 ^ 64 + k) % 2 ^ 64 ≡ (n + (1 + k)) % 2 ^ 64
more n k = omega arith

added : (b : Bool) (n k : ℕ) → (cond b ((n + 1) % 2 ^ 64) n + k) % 2 ^ 64 ≡ (n + (cond b 1 0 + k)) % 2 ^ 64
added true n k = more n k
added false n k = ap (λ (z : ℕ). (n + z) % 2 ^ 64) (sym (zero-add k))

under : (b : Bool) (n : ℕ) → n < 2 ^ 64 → cond b ((n + 1) % 2 ^ 64) n < 2 ^ 64
under true n h = omega arith
under false n h = h

-- ---- a history
-- From any passing state, whose counts are 64-bit numbers, each count goes on from where it stands: the number of accepted levels in its region is added, modulo 2^64.
pub counts_go_on : (region : ℕ) → region < 4 → (levels : List Float) (c : Curve) → T (passes c) → count region c < 2 ^ 64
    → count region (after c levels) ≡ (count region c + times region levels) % 2 ^ 64
unfolding after times
counts_go_on region h [] c t w = small (count region c) w
counts_go_on region h (level ∷ levels) c t w =
    let n = count region c in
    let e = one region h c level t in
    let b = is_in region level in
    counts_go_on region h levels (looked c level).curve (still_passes c level t) (subst (λ (z : ℕ). z < 2 ^ 64) (sym e) (under b n w))
    ∙ ap (λ (z : ℕ). (z + times region levels) % 2 ^ 64) e
    ∙ added b n (times region levels)

-- From a new curve each count is the number of past accepted levels in its region, modulo 2^64.
pub counts_from_new : (region : ℕ) → region < 4 → (levels : List Float) → count region (after fresh levels) ≡ times region levels % 2 ^ 64
counts_from_new region h levels =
    let z = none region in
    counts_go_on region h levels fresh fresh_passes (subst (λ (n : ℕ). n < 2 ^ 64) (sym z) (lit< tt))
    ∙ ap (λ (n : ℕ). (n + times region levels) % 2 ^ 64) z
    ∙ ap (λ (n : ℕ). n % 2 ^ 64) (zero-add (times region levels))
  where
    none : (region : ℕ) → count region fresh ≡ 0
    none zero = unfold count fresh in refl
    none (suc zero) = unfold count fresh in refl
    none (suc (suc zero)) = unfold count fresh in refl
    none (suc (suc (suc zero))) = unfold count fresh in refl
    none (suc (suc (suc (suc n)))) = unfold count fresh in refl
