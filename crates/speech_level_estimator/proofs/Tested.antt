-- What a state shows that was handed on by its test. Assumes nothing.
use Rattle.std.proofs.Common.{◌≡◌, sym, Bool, true, Ok}
use Rattle.units.specs.Handed.{handed}
use Rattle.units.specs.Laws.Handed.{handed_ok, goes_on}
use Rattle.units.specs.Laws.Replies.{none_refused}
use Rattle.units.specs.Replies.{refusal}

-- it is the state that was tested, and the test has passed
pub passed_on : {A : Type 0} (ok : Bool) (state after : A) → Ok after ≡ handed (refusal true ok true true) state → (ok ≡ true) × (state ≡ after)
passed_on ok state after h =
    let both = handed_ok (refusal true ok true true) state after (sym h) in
    ((none_refused true ok true true both.0).1, both.1)

-- so what is made of it is handed on too
pub carried_on : {A B : Type 0} (ok : Bool) (state after : A) (made more : B)
    → Ok after ≡ handed (refusal true ok true true) state
    → (ok ≡ true → state ≡ after → made ≡ more)
    → Ok made ≡ handed (refusal true ok true true) more
carried_on ok state after made more h f =
    let both = passed_on ok state after h in
    rw (f both.0 both.1) (sym (goes_on (refusal true ok true true) state after more (sym h)))
