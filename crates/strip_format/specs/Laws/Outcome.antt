-- What the promises are worth: each is an equation of the whole answer, or of what is told of it, which determines it; so it leaves one outcome. Laws.
-- Assumes nothing.
use Rattle.std.specs.Prelude.{◌≡◌, refl, List, [], ◌∷◌, ℕ, Option, None, Some, Result, Ok, Err}
use Rattle.std.proofs.Common.{sym, ap, arith}
use Rattle.lists.specs.Promise.{one_outcome}
use Rattle.units.specs.Handed.{handed}
use Rattle.units.specs.declared.figures.Figures.{Figures}
use Rattle.units.specs.declared.refusals.Refusal.{Refusal}
use Rattle.units.specs.Laws.Handed.{number_not_done, number_one}
use Rattle.strip_format.specs.Calls.{read_head, read_record, told_of, put_head, put_record, put_gap, Said, said, Told, told}
use Rattle.strip_format.specs.declared.Version.{Version}
use Rattle.strip_format.specs.declared.Head.{Head}
use Rattle.strip_format.specs.declared.Entry.{Entry}
use Rattle.strip_format.specs.declared.Entry.TheVariants.{Record, Gap}

-- whatever two results both are what d says are the same
abbrev pub Once {ℓ} : {A : Type ℓ} → A → Type ℓ
Once {A} d = (r s : A) → r ≡ d → s ≡ d → r ≡ s

-- Any two outcomes of reading and writing heads, records and gaps that meet the promise are the same: reply, what was read, and every byte.
pub one_answer : (v : Version) (h : Head) (f : Figures) (strip out : List ℕ) (at : ℕ)
    → Once (read_head v strip) × Once (told_of (read_record v strip at)) × Once (put_head h out) × Once (put_record f out) × Once (put_gap v out)
one_answer v h f strip out at = (one_outcome, one_outcome, one_outcome, one_outcome, one_outcome)

-- So are any two heads that are handed back.
pub one_head : (v : Version) (strip : List ℕ) → Once (handed (read_head v strip).reply (read_head v strip).head)
one_head v strip = one_outcome

-- the paper's number
abbrev number : Said → ℕ
number s = s.number

-- Nothing is lost where a place of a strip is told by the paper's number and values.
pub said_once : (x y : Option Entry) → said x ≡ said y → x ≡ y
said_once None None e = refl
said_once None (Some (Record g)) e = absurd (omega (arith, ap number e))
said_once None (Some Gap) e = absurd (omega (arith, ap number e))
said_once (Some (Record f)) None e = absurd (omega (arith, ap number e))
said_once (Some (Record f)) (Some (Record g)) e = ap (λ (h : Figures). Some (Record h)) (same f g (ap (λ (s : Said). s.values) e))
  where
    same : (f g : Figures) → f ∷ [] ≡ g ∷ [] → f ≡ g
    same f g e = cc e
said_once (Some (Record f)) (Some Gap) e = absurd (omega (arith, ap number e))
said_once (Some Gap) None e = absurd (omega (arith, ap number e))
said_once (Some Gap) (Some (Record g)) e = absurd (omega (arith, ap number e))
said_once (Some Gap) (Some Gap) e = refl

-- So what is told of an answer determines it, and the promise of `read_record` leaves one outcome.
pub told_once : (x y : Result (Option Entry) Refusal) → told x ≡ told y → x ≡ y
unfolding told
told_once (Ok x) (Ok y) h = ap Ok (said_once x y (ap (λ (t : Told). t.said) h))
told_once (Ok x) (Err e) h = absurd (number_not_done e (sym (ap (λ (t : Told). t.reply) h)))
told_once (Err d) (Ok y) h = absurd (number_not_done d (ap (λ (t : Told). t.reply) h))
told_once (Err d) (Err e) h = ap Err (number_one d e (ap (λ (t : Told). t.reply) h))

pub read_record_once : (v : Version) (strip : List ℕ) (at : ℕ) (x y : Result (Option Entry) Refusal)
    → told x ≡ told_of (read_record v strip at) → told y ≡ told_of (read_record v strip at) → x ≡ y
read_record_once v strip at x y h k = told_once x y (one_outcome (told x) (told y) h k)
