-- What a call hands back shows of its reply, and the other way round. Laws.
-- Assumes nothing.
use Rattle.std.specs.Prelude.{◌≡◌, refl, Bool, true, false, cond, ℕ, eqb, Result, Ok, Err, IfOk, IfErr}
use Rattle.std.proofs.lemmas.Bool.{eqb-true, eq-eqb, false≢true}
use Rattle.std.proofs.Common.{sym, ◌∙◌, ap, arith}
use Rattle.std.specs.Result.{IsErrAnd}
use Rattle.std.proofs.lemmas.Result.{IfOk-at_ok, IfErr-at_err, err_from_is_err_and}
use Rattle.units.specs.Replies.{done, refusal}
use Rattle.units.specs.Handed.{number_of, refusal_of, handed}
use Rattle.units.specs.declared.refusals.Refusal.{Refusal}
use Rattle.units.specs.declared.refusals.Refusal.TheVariants as R

-- ---- a choice between what was made and a refusal
chosen : {A : Type 0} (b : Bool) (e : Refusal) (made : A) → b ≡ true → cond b (Ok made) (Err e) ≡ Ok made
chosen true e made h = refl
chosen false e made h = absurd (false≢true h)

ok_shows : {A : Type 0} (b : Bool) (e : Refusal) (made : A) → IfOk (cond b (Ok made) (Err e)) (λ x. (b ≡ true) × (made ≡ x))
ok_shows true e made = (refl, refl)
ok_shows false e made = tt

err_shows : {A B : Type 0} (b : Bool) (e : Refusal) (made : A) (more : B) → IfErr (cond b (Ok made) (Err e)) (λ d. cond b (Ok more) (Err e) ≡ Err d)
err_shows true e made more = tt
err_shows false e made more = refl

-- ---- of a reply
-- where nothing is refused, what was made is handed back
pub handed_done : {A : Type 0} (reply : ℕ) (made : A) → reply ≡ done → handed reply made ≡ Ok made
unfolding handed
handed_done reply made h = chosen (eqb reply done) (refusal_of reply) made (eq-eqb reply done h)

-- what was handed back is what was made, and then nothing is refused
pub handed_ok : {A : Type 0} (reply : ℕ) (made other : A) → handed reply made ≡ Ok other → (reply ≡ done) × (made ≡ other)
unfolding handed
handed_ok reply made other h =
    let both = IfOk-at_ok (λ x. (eqb reply done ≡ true) × (made ≡ x)) h (ok_shows (eqb reply done) (refusal_of reply) made) in
    (eqb-true reply done both.0, both.1)

-- a refusal is handed on, whatever else would have been made
pub refused_too : {A B : Type 0} (reply : ℕ) (made : A) (more : B) (e : Refusal) → handed reply made ≡ Err e → handed reply more ≡ Err e
unfolding handed
refused_too reply made more e h = IfErr-at_err (λ d. handed reply more ≡ Err d) h (err_shows (eqb reply done) (refusal_of reply) made more)

-- where nothing was refused, anything else is handed on as well
pub goes_on : {A B : Type 0} (reply : ℕ) (made other : A) (more : B) → handed reply made ≡ Ok other → handed reply more ≡ Ok more
goes_on reply made other more h = handed_done reply more (handed_ok reply made other h).0

-- ---- of a check whose answer goes on by `?`
-- what `?` hands out where the check refused: the refusal, whatever would have been made
pub refused_by : {A B : Type 0} (r : Result A Refusal) (e : Refusal) (reply : ℕ) (made : B) (more : A)
    → IsErrAnd r (λ d. d ≡ e) → Err e ≡ handed reply made → r ≡ handed reply more
refused_by r e reply made more out h =
    let told = err_from_is_err_and r out in
    told.1 ∙ ap Err told.2 ∙ sym (refused_too reply made more e (sym h))

-- and what may be made where it did not
pub passed_by : {A B : Type 0} (reply : ℕ) (made other : B) (more : A) → Ok other ≡ handed reply made → Ok more ≡ handed reply more
passed_by reply made other more h = sym (goes_on reply made other more (sym h))

-- nothing was refused then
pub passed_done : {B : Type 0} (reply : ℕ) (made other : B) → Ok other ≡ handed reply made → reply ≡ done
passed_done reply made other h = (handed_ok reply made other (sym h)).0

-- ---- of a refusal's number
number_back : (e : Refusal) → refusal_of (number_of e) ≡ e
unfolding number_of refusal_of
number_back R.Shape = refl
number_back R.Figure = refl
number_back R.Sample = refl
number_back R.Setting = refl
number_back R.Cut = refl
number_back R.Length = refl
number_back R.Version = refl
number_back R.Room = refl
number_back R.Unsaid = refl

-- A refusal's number determines it,
pub number_one : (d e : Refusal) → number_of d ≡ number_of e → d ≡ e
number_one d e h = sym (number_back d) ∙ ap refusal_of h ∙ number_back e

-- and none is done.
pub number_not_done : (e : Refusal) → number_of e ≡ done → ⊥
unfolding number_of
number_not_done R.Shape h = absurd (omega arith)
number_not_done R.Figure h = absurd (omega arith)
number_not_done R.Sample h = absurd (omega arith)
number_not_done R.Setting h = absurd (omega arith)
number_not_done R.Cut h = absurd (omega arith)
number_not_done R.Length h = absurd (omega arith)
number_not_done R.Version h = absurd (omega arith)
number_not_done R.Room h = absurd (omega arith)
number_not_done R.Unsaid h = absurd (omega arith)

-- what refuses is not done
pub refused_not_done : {A : Type 0} (reply : ℕ) (made : A) (e : Refusal) → Err e ≡ handed reply made → reply ≡ done → ⊥
refused_not_done reply made e h k = cc (h ∙ handed_done reply made k)

-- the number of a check's refusal is the reply that it gave
numbered : {A : Type 0} (shape setting figure sample : Bool) (made : A)
    → IfErr (handed (refusal shape setting figure sample) made) (λ d. number_of d ≡ refusal shape setting figure sample)
unfolding handed refusal refusal_of number_of
numbered true true true true made = tt
numbered true true true false made = refl
numbered true true false sample made = refl
numbered true false figure sample made = refl
numbered false setting figure sample made = refl

pub check_number : {A : Type 0} (shape setting figure sample : Bool) (made : A) (e : Refusal)
    → Err e ≡ handed (refusal shape setting figure sample) made → number_of e ≡ refusal shape setting figure sample
check_number shape setting figure sample made e h =
    IfErr-at_err (λ d. number_of d ≡ refusal shape setting figure sample) (sym h) (numbered shape setting figure sample made)
