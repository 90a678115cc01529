-- A gap: it does what any accepted frame does that is not speech, so all that is proved of such a frame holds of it. Laws.
-- Assumes nothing.
use Rattle.std.specs.Prelude.{◌≡◌, refl, Bool, true, false, ◌&&◌, cond, Float}
use Rattle.std.proofs.Common.{sym, ap, ◌∙◌}
use Rattle.std.proofs.lemmas.Bool.{false≢true}
use Rattle.std.specs.Float.{binary32}
use Rattle.std.specs.Float.Ieee.{of_bits, le, lt, eq}
use Rattle.units.specs.Replies.{done, refusal}
use Rattle.runs.specs.Runs.{speech, framed, published}
use Rattle.saturation_protector.specs.Calls.{Next, figures, stepped, gap}
use Rattle.saturation_protector.specs.Protector.{capacities, passes, analyzed, interrupted}
use Rattle.saturation_protector.specs.Laws.Again.{stepped_passes}
use Rattle.saturation_protector.specs.Laws.Capacity.{stepped_capacities}
use Rattle.saturation_protector.specs.declared.Protector.{Protector}

-- A protector after a gap is the one after a frame that is not speech, whatever its peak and the level.
pub interrupted_is_quiet : (s : Protector) (p peak level : Float) → speech p ≡ false → interrupted s ≡ analyzed s p peak level
unfolding interrupted analyzed framed published
interrupted_is_quiet s p peak level quiet = rw quiet

-- So a gap is what any accepted frame does that is not speech: the reply, and the protector that goes on.
pub gap_is_quiet : (s : Protector) (p peak level : Float) → figures p peak level ≡ true → speech p ≡ false → gap s ≡ stepped s p peak level
unfolding gap stepped
gap_is_quiet s p peak level inside quiet = go (passes s) (figures p peak level) inside
  where
    go : (b q : Bool) → q ≡ true
        → ◌≡◌ {A = Next}
        (record { reply = refusal true b true true; protector = cond b (interrupted s) s })
        (record { reply = refusal true b q true; protector = cond (b && q) (analyzed s p peak level) s })
    go true true h = rw (interrupted_is_quiet s p peak level quiet)
    go false true h = refl
    go b false h = absurd (false≢true h)

-- ---- such a frame: of probability, peak and level 0
abbrev zero : Float
zero = of_bits binary32 0x0000_0000

as_quiet : (s : Protector) → gap s ≡ stepped s zero zero zero
unfolding of_bits le lt eq
as_quiet s = gap_is_quiet s zero zero zero refl refl

-- A protector that passes, passes after a gap.
pub gap_passes : (s : Protector) → (gap s).reply ≡ done → passes (gap s).protector ≡ true
gap_passes s h = rw (as_quiet s) (stepped_passes s zero zero zero (ap (λ (n : Next). n.reply) (sym (as_quiet s)) ∙ h))

-- A gap leaves the capacity of both rings.
pub gap_capacities : (s : Protector) → capacities (gap s).protector ≡ capacities s
gap_capacities s = ap (λ (n : Next). capacities n.protector) (as_quiet s) ∙ stepped_capacities s zero zero zero
