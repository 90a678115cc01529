-- What a writer hands back that refuses, and one that copies. Assumes nothing.
use Rattle.std.proofs.Common.{◌≡◌, sym, ap, ◌∙◌, List, length, ℕ, Result, Ok, Err}
use Rattle.std.specs.Result.{IsErrAnd}
use Rattle.units.specs.Replies.{done}
use Rattle.units.specs.Output.{Put, put}
use Rattle.units.specs.Handed.{handed}
use Rattle.units.specs.Laws.Handed.{refused_by, passed_done}
use Rattle.units.specs.declared.refusals.Refusal.{Refusal}
use Rattle.strip_format.specs.Laws.Steps.{put_refused}
use Rattle.strip_format.proofs.Refused.{refused_is}

-- what is handed back, and the buffer
abbrev pub Wrote : ℕ → List ℕ → List ℕ → ℕ → Result ℕ Refusal → List ℕ → Type 0
Wrote n bytes out k r end = (r ≡ handed (put n bytes out).reply k) × (end ≡ (put n bytes out).out)

-- what is refused leaves the buffer
pub left : (n k : ℕ) (bytes out : List ℕ) (r : Result ℕ Refusal) (e : Refusal) → IsErrAnd r (λ d. d ≡ e) → Err e ≡ handed n (tt {0}) → Wrote n bytes out k r out
left n k bytes out r e told h =
    let same = sym (put_refused n bytes out (refused_is n e h).0) in
    (refused_by r e n (tt {0}) k told h ∙ ap (λ (p : Put). handed p.reply k) same, ap (λ (p : Put). p.out) same)

-- and what is not is copied
pub taken : (n k : ℕ) (bytes made out : List ℕ) {r : Result ℕ Refusal} {end : List ℕ} → Ok (tt {0}) ≡ handed n (tt {0}) → made ≡ bytes → length made ≡ k
    → r ≡ handed (put done made out).reply (length made) → end ≡ (put done made out).out → Wrote n bytes out k r end
taken n k bytes made out p m l v o = rw (passed_done n (tt {0}) (tt {0}) p, ← m, ← l) (v, o)
