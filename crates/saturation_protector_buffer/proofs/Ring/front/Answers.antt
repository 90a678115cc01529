-- `saturation_protector_buffer::Ring::front` meets its contract. Assumes nothing.
use Rattle.std.specs.Prelude.{◌≡◌, refl, Bool, true, false, cond, List, [], Float, Option, None, Result, Err}
use Rattle.std.specs.Result.{IsErrAnd}
use Rattle.units.specs.Replies.{bad_setting, refusal}
use Rattle.units.specs.Handed.{number_of, refusal_of, handed}
use Rattle.units.specs.Laws.Handed.{refused_by}
use Rattle.units.specs.declared.kinds.Dbfs.{Dbfs}
use Rattle.units.specs.declared.refusals.Refusal.{Refusal}
use Rattle.units.specs.declared.refusals.Refusal.TheVariants as R
use Rattle.saturation_protector_buffer.specs.Ring.{said}
use Rattle.saturation_protector_buffer.specs.Calls.{told, oldest, fronted}
use Rattle.saturation_protector_buffer.proofs.Ring.front.Goals as goal

-- what is told of a ring that is refused: its number, and no front
told_refused : {A : Type 0} (r : Result (Option Dbfs) Refusal) (e : Refusal) (b : Bool) (made : A) (xs : List Float)
    → IsErrAnd r (λ d. d ≡ e) → Err e ≡ handed (refusal true b true true) made
    → told r ≡ record { reply = refusal true b true true; front = oldest (cond b xs []) }
unfolding handed refusal refusal_of number_of told said oldest
told_refused r e true made xs out h = absurd (cc)
told_refused r e false made xs out h =
    let k : r ≡ Err R.Setting = refused_by r e bad_setting made None out h in
    rw k refl

pub returns-in_err-checked : goal.returns-in_err-checked
unfolding fronted
returns-in_err-checked c = told_refused _ _ _ _ _ c.from_residual.ensures.1 c.in_err-checked.ensures
