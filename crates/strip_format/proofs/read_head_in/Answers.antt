-- `strip_format::read_head_in` meets its contract: the place is judged first, and then the head. Assumes nothing.
use Rattle.std.proofs.Common.{◌≡◌, refl, sym, ap, ◌∙◌, Bool, true, false, cond, eqb, List, ℕ, Result, Ok, Err, eqb-true}
use Rattle.std.specs.Result.{IsErrAnd}
use Rattle.units.specs.Replies.{done}
use Rattle.units.specs.Handed.{handed}
use Rattle.units.specs.Laws.Handed.{handed_done, refused_by, passed_done}
use Rattle.units.specs.declared.refusals.Refusal.{Refusal}
use Rattle.strip_format.specs.Fields.{fields_at}
use Rattle.strip_format.specs.Format.{head_fields, head_of}
use Rattle.strip_format.specs.Calls.{HeadRead, head_refusal, judged_head, refused_head, read_head}
use Rattle.strip_format.specs.Steps.{head_place}
use Rattle.strip_format.specs.Laws.Steps.{head_by_place, head_there}
use Rattle.strip_format.specs.declared.Version.{Version}
use Rattle.strip_format.specs.declared.Head.{Head}
use Rattle.strip_format.proofs.read_head_in.Goals as goal

-- what an answer hands back
abbrev back : HeadRead → Result Head Refusal
back x = handed x.reply x.head

-- what refuses the place refuses the head, whatever it would have been
refused_at : (n : ℕ) (x : HeadRead) (r : Result Head Refusal) (e : Refusal) → IsErrAnd r (λ d. d ≡ e) → Err e ≡ handed n (tt {0}) → r ≡ back (cond (eqb n done) x (refused_head n))
unfolding refused_head
refused_at n x r e out h = go (eqb n done) refl
  where
    go : (b : Bool) → eqb n done ≡ b → r ≡ back (cond b x (refused_head n))
    go true t = absurd (cc (h ∙ handed_done n (tt {0}) (eqb-true n done t)))
    go false t = refused_by r e n (tt {0}) (refused_head n).head out h

module _ (v : Version) (strip : List ℕ) where
  misplaced : (r : Result Head Refusal) (e : Refusal) → IsErrAnd r (λ d. d ≡ e) → Err e ≡ handed (head_place v strip) (tt {0}) → r ≡ back (read_head v strip)
  misplaced r e out h = refused_at (head_place v strip) (judged_head (head_of v (fields_at (head_fields v) strip 0))) r e out h ∙ ap back (sym (head_by_place v strip))

  module _ (p : Ok (tt {0}) ≡ handed (head_place v strip) (tt {0})) (head : Head) (m : head ≡ head_of v (fields_at (head_fields v) strip 0)) where
    placed : read_head v strip ≡ judged_head head
    placed = head_by_place v strip ∙ rw (passed_done (head_place v strip) (tt {0}) (tt {0}) p, m)

    judged_badly : (r : Result Head Refusal) (e : Refusal) → IsErrAnd r (λ d. d ≡ e) → Err e ≡ handed (head_refusal head) (tt {0}) → r ≡ back (read_head v strip)
    unfolding judged_head
    judged_badly r e out h = refused_at (head_refusal head) (record { reply = done; head = head }) r e out h ∙ ap back (sym placed)

    judged_well : Ok (tt {0}) ≡ handed (head_refusal head) (tt {0}) → Ok head ≡ back (read_head v strip)
    unfolding judged_head
    judged_well h = sym (ap back (placed ∙ rw (passed_done (head_refusal head) (tt {0}) (tt {0}) h)) ∙ handed_done done head refl)

pub returns-in_err-check_head_place : goal.returns-in_err-check_head_place
returns-in_err-check_head_place c = misplaced c.args.version c.args.strip.now _ _ c.from_residual.ensures.1 c.in_err-check_head_place.ensures

pub head_at-head-requires : goal.head_at-head-requires
head_at-head-requires c = (head_there c.args.version c.args.strip.now (passed_done _ (tt {0}) (tt {0}) c.in_ok-check_head_place.ensures)).whole

pub returns-in_err-check_head : goal.returns-in_err-check_head
returns-in_err-check_head c =
    judged_badly c.args.version c.args.strip.now c.in_ok-check_head_place.ensures _ c.head_at-head.ensures _ _ c.from_residual-in_err-check_head.ensures.1 c.in_err-check_head.ensures

pub returns : goal.returns
returns c = judged_well c.args.version c.args.strip.now c.in_ok-check_head_place.ensures _ c.head_at-head.ensures c.in_ok-check_head.ensures
