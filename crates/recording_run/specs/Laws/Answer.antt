-- What the program says when it ends: 0 only where all went well. Laws.
-- Assumes nothing.
use Rattle.std.specs.Prelude.{◌≡◌, ℕ, Bool, true, false, cond, not, [], ◌∷◌, nat_lt, refl, Option, Some, None}
use Rattle.std.proofs.lemmas.Bool.{false≢true, not-true}
use Rattle.std.proofs.Common.{arith, ltb-true}
use Rattle.lists.specs.Tests.{each_of}
use Rattle.recording_run.specs.Answer.{Answer, is_nothing, all_well, refusal_answer, run_answer}
use Rattle.recording_run.specs.declared.levelling.Told.{Told}
use Rattle.recording_run.specs.declared.levelling.Run.{Run}

nothing_told : (told : Option Told) → is_nothing told ≡ true → told ≡ None
nothing_told None e = refl
nothing_told (Some told) e = absurd (false≢true e)

-- ---- where 0 is said, the frames went well, nothing is told at the end, no read failed there, and all is written
pub record Well (well : Bool) (told : Option Told) (failed written : Bool) : Type 0 where
  pub frames : well ≡ true
  pub silent : told ≡ None
  pub read : failed ≡ false
  pub closed : written ≡ true

pub all_is_well : (well : Bool) (told : Option Told) (failed written : Bool) → all_well well told failed written ≡ true → Well well told failed written
all_is_well well told failed written e =
    let each = each_of (well ∷ is_nothing told ∷ not failed ∷ written ∷ []) e in
    record { frames = each 0; silent = nothing_told told (each 1); read = not-true failed (each 2); closed = each 3 }

-- a refusal does not say 0
no_refusal : (refused : ℕ) (some ok : Bool) → nat_lt 0 refused ≡ some
    → (cond {A = Answer} some (refusal_answer refused) (record { tell = ok; reply = 0 })).tell ≡ true
    → (cond {A = Answer} some (refusal_answer refused) (record { tell = ok; reply = 0 })).reply ≡ 0 → ok ≡ true
no_refusal refused true ok e t z = absurd (omega (arith, ltb-true 0 refused e))
no_refusal refused false ok e t z = t

pub zero_is_well : (run : Run) (told : Option Told) (failed written : Bool)
    → (run_answer run told failed written).tell ≡ true → (run_answer run told failed written).reply ≡ 0 → Well run.well told failed written
unfolding run_answer
zero_is_well run told failed written t z =
    all_is_well run.well told failed written (no_refusal run.refused (nat_lt 0 run.refused) (all_well run.well told failed written) refl t z)
