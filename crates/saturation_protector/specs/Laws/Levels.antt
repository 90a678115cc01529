-- Lists of levels: the slots of the ring of a state that passes, and so its items. Laws.
-- Assumes nothing.
use Rattle.std.specs.Prelude.{◌≡◌, refl, Bool, true, false, ◌&&◌, cond, List, [], ◌∷◌, ◌++◌, ℕ, zero, suc, set, take, drop, replicate, Float}
use Rattle.std.proofs.Common.{sym, ap, ◌∙◌}
use Rattle.std.proofs.lemmas.Bool.{false≢true}
use Rattle.std.specs.Float.{binary32}
use Rattle.std.specs.Float.Ieee.{of_bits, le, lt, eq}
use Rattle.lists.specs.Each.{Each, each_take, each_drop, each_append}
use Rattle.lists.specs.Tests.{each_of, ◌and◌}
use Rattle.units.specs.Figures.{level, headroom}
use Rattle.saturation_protector_buffer.specs.Rings as Rings
use Rattle.saturation_protector_buffer.specs.Ring as Ring
use Rattle.saturation_protector_buffer.specs.declared.Ring.{Ring as Stored}
use Rattle.saturation_protector.specs.Peaks.{all_levels, lowest, oldest_or, time, passes}
use Rattle.saturation_protector.specs.declared.Peaks.{Peaks}
use Rattle.saturation_protector.specs.Laws.Tests.{level_finite}

-- x is a level
abbrev pub Level : Float → Type 0
Level x = level x ≡ true

-- Where all are levels, each is.
pub levels_each : (xs : List Float) → all_levels xs ≡ true → Each Level xs
unfolding all_levels Each
levels_each [] h = tt
levels_each (x ∷ xs) h = let p = each_of (level x ∷ all_levels xs ∷ []) h in (p 0, levels_each xs (p 1))

-- Levels are numbers.
pub levels_finite : (xs : List Float) → all_levels xs ≡ true → Rings.all_finite xs ≡ true
unfolding all_levels Rings.all_finite
levels_finite [] h = refl
levels_finite (x ∷ xs) h = let p = each_of (level x ∷ all_levels xs ∷ []) h in level_finite x (p 0) and levels_finite xs (p 1)

-- A level stored anywhere leaves all levels.
pub levels_set : (xs : List Float) (i : ℕ) (v : Float) → all_levels xs ≡ true → level v ≡ true → all_levels (set xs i v) ≡ true
unfolding all_levels
levels_set [] i v h k = refl
levels_set (x ∷ xs) zero v h k = k and each_of (level x ∷ all_levels xs ∷ []) h 1
levels_set (x ∷ xs) (suc i) v h k =
    let p = each_of (level x ∷ all_levels xs ∷ []) h in
    p 0 and levels_set xs i v (p 1) k

-- As many of one level as asked for, and the first n of levels, are levels.
pub levels_replicate : (storage : ℕ) (v : Float) → level v ≡ true → all_levels (replicate storage v) ≡ true
unfolding all_levels
levels_replicate zero v k = refl
levels_replicate (suc storage) v k = k and levels_replicate storage v k

pub levels_take : (n : ℕ) (xs : List Float) → all_levels xs ≡ true → all_levels (take n xs) ≡ true
unfolding all_levels
levels_take zero xs h = refl
levels_take (suc n) [] h = refl
levels_take (suc n) (x ∷ xs) h =
    let p = each_of (level x ∷ all_levels xs ∷ []) h in
    p 0 and levels_take n xs (p 1)

-- The slots of a new ring are levels.
pub empty_levels : (n : ℕ) → all_levels (Ring.slots (Ring.empty n)) ≡ true
unfolding Ring.empty le lt eq of_bits
empty_levels n = levels_take n (Ring.empty n).stored (levels_replicate Ring.largest (of_bits binary32 0x0000_0000) refl)

-- The lowest level is one.
pub lowest_level : level lowest ≡ true
unfolding le lt eq of_bits
lowest_level = refl

-- The items of a ring whose slots are levels are levels.
pub items_levels : (r : Stored) → all_levels (Ring.slots r) ≡ true → Each Level (Ring.items r)
unfolding Ring.items Rings.items
items_levels r h =
    let slots = Ring.slots r in
    let all = levels_each slots h in
    let i = Rings.start r.capacity r.place r.size in
    each_take Level r.size (drop i slots ++ take i slots)
    (each_append Level (drop i slots) (take i slots) (each_drop Level i slots all) (each_take Level i slots all))

-- The oldest of levels, or another one, is a level.
pub oldest_level : (xs : List Float) (other : Float) → Each Level xs → level other ≡ true → level (oldest_or xs other) ≡ true
unfolding oldest_or Each
oldest_level [] other h k = k
oldest_level (x ∷ xs) other h k = h.0

-- Whichever of two levels is chosen is one.
pub either_level : (b : Bool) (x y : Float) → level x ≡ true → level y ≡ true → level (cond b x y) ≡ true
either_level true x y h k = h
either_level false x y h k = k

-- A state whose ring's numbers fit each other passes where its headroom, its slots, its largest peak and its time do: what is a level is finite.
pub fitting_passes : (s : Peaks) → Ring.fits s.ring ≡ true
    → headroom s.headroom && all_levels (Ring.slots s.ring) && level s.largest && time s.elapsed ≡ passes s
unfolding passes Ring.passes
fitting_passes s h =
    go (headroom s.headroom) (Rings.all_finite (Ring.slots s.ring)) (all_levels (Ring.slots s.ring)) (levels_finite (Ring.slots s.ring))
    ∙ ap (λ (b : Bool). b && Rings.all_finite (Ring.slots s.ring) && headroom s.headroom && all_levels (Ring.slots s.ring) && level s.largest && time s.elapsed) (sym h)
  where
    go : (a f l : Bool) → (l ≡ true → f ≡ true)
        → a && l && level s.largest && time s.elapsed ≡ true && f && a && l && level s.largest && time s.elapsed
    go a true l k = refl
    go true false true k = absurd (false≢true (k refl))
    go false false true k = refl
    go true false false k = refl
    go false false false k = refl

-- One whose ring's numbers do not fit fails.
pub unfit_fails : (s : Peaks) → Ring.fits s.ring ≡ false → passes s ≡ false
unfolding passes Ring.passes
unfit_fails s h = rw h refl
