-- A gap: it does what any accepted frame does that is not speech, so all that is proved of such a frame holds of it. Laws.
-- Assumes nothing.
use Rattle.std.specs.Prelude.{◌≡◌, Bool, true, false, cond, ◌&&◌, T, refl, Float}
use Rattle.std.proofs.Common.{sym, ap, ◌∙◌}
use Rattle.std.proofs.lemmas.Bool.{false≢true}
use Rattle.std.specs.Float.{binary32}
use Rattle.std.specs.Float.Ieee.{fits, of_bits, le, lt, eq}
use Rattle.units.specs.Replies.{done, refusal}
use Rattle.runs.specs.Runs.{speech, framed, published}
use Rattle.speech_level_estimator.specs.Calls.{figures, stepped, gap}
use Rattle.speech_level_estimator.specs.Calls.{Next}
use Rattle.speech_level_estimator.specs.Estimator.{passes, updated, interrupted}
use Rattle.speech_level_estimator.specs.Held.{HeldEstimator}
use Rattle.speech_level_estimator.specs.Laws.Again.{stepped_passes, stepped_held}
use Rattle.speech_level_estimator.specs.declared.Estimator.{Estimator}

-- An estimator after a gap is the one after a frame that is not speech, whatever its level.
pub interrupted_is_quiet : (e : Estimator) (rms p : Float) → speech p ≡ false → interrupted e ≡ updated e rms p
unfolding interrupted updated framed published
interrupted_is_quiet e rms p quiet = rw quiet

-- So a gap is what any accepted frame does that is not speech: the reply, and the estimator that goes on.
pub gap_is_quiet : (e : Estimator) (rms p : Float) → figures rms p ≡ true → speech p ≡ false → gap e ≡ stepped e rms p
unfolding gap stepped
gap_is_quiet e rms p inside quiet = go (passes e) (figures rms p) inside
  where
    go : (b q : Bool) → q ≡ true
        → ◌≡◌ {A = Next}
        (record { reply = refusal true b true true; estimator = cond b (interrupted e) e })
        (record { reply = refusal true b q true; estimator = cond (b && q) (updated e rms p) e })
    go true true h = rw (interrupted_is_quiet e rms p quiet)
    go false true h = refl
    go b false h = absurd (false≢true h)

-- ---- such a frame: of probability 0 and level 0
abbrev zero : Float
zero = of_bits binary32 0x0000_0000

zero_fits : T (fits binary32 zero)
unfolding of_bits fits
zero_fits = tt

as_quiet : (e : Estimator) → gap e ≡ stepped e zero zero
unfolding of_bits le lt eq
as_quiet e = gap_is_quiet e zero zero refl refl

-- An estimator that passes, passes after a gap,
pub gap_passes : (e : Estimator) → HeldEstimator e → (gap e).reply ≡ done → passes (gap e).estimator ≡ true
gap_passes e held h =
    rw (as_quiet e) (stepped_passes e zero zero held zero_fits zero_fits (ap (λ (n : Next). n.reply) (sym (as_quiet e)) ∙ h))

-- and its numbers are f32 then.
pub gap_held : (e : Estimator) → HeldEstimator e → (gap e).reply ≡ done → HeldEstimator (gap e).estimator
gap_held e held h =
    rw (as_quiet e) (stepped_held e zero zero held zero_fits zero_fits (ap (λ (n : Next). n.reply) (sym (as_quiet e)) ∙ h))
