-- What is said of a call's reply, and of a flag. Laws.
-- Assumes nothing.
use Rattle.std.specs.Prelude.{◌≡◌, ℕ, eqb, Bool, true, false, cond, Option, Some, None, Ok, Err, refl}
use Rattle.std.specs.Result.{is_ok, result_unwrap_or}
use Rattle.std.specs.Bool.{then_some}
use Rattle.units.specs.Replies.{done, refusal}
use Rattle.chain.specs.Chain.{passes}
use Rattle.chain.specs.Calls.{interrupted, gap}
use Rattle.chain.specs.declared.Chain.{Chain}
use Rattle.units.specs.Handed.{handed, refusal_of}
use Rattle.units.specs.declared.refusals.Refusal.{Refusal}

-- a call went well where its reply is that of one that is done
went_well : {A : Type 0} (b : Bool) (made : A) (e : Refusal) → is_ok (cond b (Ok made) (Err e)) ≡ b
went_well true made e = refl
went_well false made e = refl

pub ok_handed : {A : Type 0} (reply : ℕ) (made : A) → is_ok (handed reply made) ≡ eqb reply done
unfolding handed
ok_handed reply made = went_well (eqb reply done) made (refusal_of reply)

-- what is given by a flag, or nothing
pub by_flag : {A : Type 0} (b : Bool) (x : A) → then_some b x ≡ cond b (Some x) None
by_flag true x = refl
by_flag false x = refl

-- the chain after a gap, or the one before where it is refused: a refused gap leaves the chain as it was
or_same : (ok : Bool) (e : Refusal) (after before : Chain) → result_unwrap_or (cond (eqb (refusal true ok true true) done) (Ok (cond ok after before)) (Err e)) before ≡ cond ok after before
unfolding refusal
or_same true e after before = refl
or_same false e after before = refl

pub gap_or_same : (c : Chain) → result_unwrap_or (handed (gap c).reply (gap c).chain) c ≡ (gap c).chain
unfolding handed gap
gap_or_same c = or_same (passes c) (refusal_of (refusal true (passes c) true true)) (interrupted c) c
