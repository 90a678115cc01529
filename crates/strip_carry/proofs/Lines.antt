-- What the next thing of a strip makes of a tally and a buffer, once the other version's writer has answered. Assumes nothing.
use Rattle.std.proofs.Common.{◌≡◌, ℕ, ◌≤◌, Bool, true, false, eqb, List, length, sym, refl, ap, ◌∙◌, subst, eq-eqb, ne_eqb, eqb-true, Result, Ok, Err, IfOk, IfErr}
use Rattle.std.proofs.lemmas.Result.{IfOk-at_ok, IfErr-at_err}
use borrow.Author.Tests.{eqb-false}
use Rattle.units.specs.Replies.{done}
use Rattle.units.specs.Handed.{refusal_of, handed}
use Rattle.units.specs.Laws.Handed.{handed_done}
use Rattle.units.specs.Output.{put}
use Rattle.units.specs.declared.refusals.Refusal.{Refusal}
use Rattle.units.specs.declared.figures.Figures.{Figures}
use Rattle.strip_format.specs.Fields.{size}
use Rattle.strip_format.specs.Format.{in_version, head_fields, record_fields, gap_fields, figures, gap, head_bytes, entry_bytes}
use Rattle.strip_format.specs.Calls.{head_refusal, record_refusal, gap_refusal, put_head, put_record, put_gap}
use Rattle.strip_format.specs.Laws.Heads.{head_length_lem}
use Rattle.strip_format.specs.Laws.Refusals.{put_fits}
use Rattle.strip_format.specs.Laws.Steps.{put_refused}
use Rattle.strip_format.specs.Laws.Whole.{entry_length}
use Rattle.strip_format.specs.declared.Head.{Head}
use Rattle.strip_reader.specs.Reader.{head, entry}
use Rattle.strip_reader.specs.Telling.{Shown}
use Rattle.strip_carry.specs.Carry.{says_head, says_entry}
use Rattle.strip_carry.specs.declared.Line.{Line}
use Rattle.strip_carry.specs.declared.Tally.{Tally}
use Rattle.strip_carry.specs.Run.{said, not_said, passed_by, next, with_threshold, shown, line_of, line_out}

-- a function's two promises: its answer and the buffer
abbrev pub Prints : Shown Tally → List ℕ → Line → List ℕ → Type 0
Prints s out line end = (line ≡ line_of s) × (end ≡ line_out s out)

pub moved : (s t : Shown Tally) (out : List ℕ) (line : Line) (end : List ℕ) → s ≡ t → Prints s out line end → Prints t out line end
moved s t out line end e p = subst (λ (x : Shown Tally). Prints x out line end) e p

-- what `count` promises of what the writer says
abbrev pub Counted : Tally → Result ℕ Refusal → Line → Type 0
Counted t written line = IfOk written (λ n. line ≡ record { tally = said t n; length = n }) × IfErr written (λ e. line ≡ line_of (not_said t))

handed-err : {A : Type 0} (reply : ℕ) (made : A) → (reply ≡ done → ⊥) → handed reply made ≡ Err (refusal_of reply)
unfolding handed
handed-err reply made n = rw (ne_eqb reply done n)

-- ---- the next thing
-- it is put where the writer does not refuse it, and otherwise the buffer stays
pub next_put : (t : Tally) (refused n : ℕ) (bytes out end : List ℕ) (written : Result ℕ Refusal) (line : Line) → t.reply ≡ done → length (next t (eqb refused done) bytes).line ≤ length out
    → written ≡ handed (put refused bytes out).reply n → end ≡ (put refused bytes out).out → n ≡ length bytes → Counted t written line
    → Prints (next t (eqb refused done) bytes) out line end
unfolding next not_said
next_put t refused n bytes out end written line k room r o m e = go (eqb refused done) refl room
  where
    go : (b : Bool) → eqb refused done ≡ b → length (next t b bytes).line ≤ length out → Prints (next t b bytes) out line end
    go true q l =
        let fits : length bytes ≤ length out = rw (eq-eqb t.reply done k) at l in
        let well = ap (λ (i : ℕ). put i bytes out) (eqb-true refused done q) ∙ put_fits bytes out fits in
        let all : written ≡ Ok n = r ∙ handed_done (put refused bytes out).reply n (ap (λ p. p.reply) well) in
        let known : line ≡ record { tally = said t n; length = n } = IfOk-at_ok (λ (i : ℕ). line ≡ record { tally = said t i; length = i }) all e.0 in
        rw (eq-eqb t.reply done k) (known ∙ rw m, o ∙ ap (λ p. p.out) well)
    go false q l =
        let bad = eqb-false refused done q in
        let left = put_refused refused bytes out bad in
        let none : written ≡ Err (refusal_of refused) = r ∙ ap (λ p. handed p.reply n) left ∙ handed-err refused n bad in
        let known : line ≡ line_of (not_said t) = IfErr-at_err (λ (d : Refusal). line ≡ line_of (not_said t)) none e.1 in
        rw (eq-eqb t.reply done k) (known, o ∙ ap (λ p. p.out) left)

-- behind something that cannot be said it is passed by
pub next_passed : (t : Tally) (says : Bool) (bytes out : List ℕ) (line : Line) → (t.reply ≡ done → ⊥) → line ≡ line_of (passed_by t) → Prints (next t says bytes) out line out
unfolding next passed_by
next_passed t says bytes out line n e = rw (ne_eqb t.reply done n) (e, refl)

-- ---- the head
module _ (t : Tally) (h : Head) (out : List ℕ) where
  pub head_put : (written : Result ℕ Refusal) (end : List ℕ) (line : Line) → t.reply ≡ done → length (shown t (head h)).line ≤ length out
      → written ≡ handed (put_head (in_version t.to h) out).reply (size (head_fields t.to)) → end ≡ (put_head (in_version t.to h) out).out
      → Counted (with_threshold t h.threshold) written line → Prints (shown t (head h)) out line end
  unfolding shown says_head put_head in_version with_threshold
  head_put written end line k room r o e =
      next_put (with_threshold t h.threshold) (head_refusal (in_version t.to h)) (size (head_fields t.to)) (head_bytes (in_version t.to h)) out end written line k room r o
      (sym (head_length_lem (in_version t.to h))) e

  pub head_passed : (line : Line) → (t.reply ≡ done → ⊥) → line ≡ line_of (passed_by (with_threshold t h.threshold)) → Prints (shown t (head h)) out line out
  unfolding shown with_threshold
  head_passed line n e = next_passed (with_threshold t h.threshold) (says_head t.to h) (head_bytes (in_version t.to h)) out line n e

-- ---- the figures of a frame
module _ (t : Tally) (f : Figures) (out : List ℕ) where
  pub figures_put : (written : Result ℕ Refusal) (end : List ℕ) (line : Line) → t.reply ≡ done → length (shown t (entry (figures f))).line ≤ length out
      → written ≡ handed (put_record f out).reply (size record_fields) → end ≡ (put_record f out).out → Counted t written line → Prints (shown t (entry (figures f))) out line end
  unfolding shown says_entry put_record entry_bytes
  figures_put written end line k room r o e = next_put t (record_refusal f) (size record_fields) (entry_bytes (figures f)) out end written line k room r o (sym (entry_length (figures f))) e

  pub figures_passed : (line : Line) → (t.reply ≡ done → ⊥) → line ≡ line_of (passed_by t) → Prints (shown t (entry (figures f))) out line out
  unfolding shown
  figures_passed line n e = next_passed t (says_entry t.to (figures f)) (entry_bytes (figures f)) out line n e

-- ---- a gap
module _ (t : Tally) (out : List ℕ) where
  pub gap_put : (written : Result ℕ Refusal) (end : List ℕ) (line : Line) → t.reply ≡ done → length (shown t (entry gap)).line ≤ length out
      → written ≡ handed (put_gap t.to out).reply (size gap_fields) → end ≡ (put_gap t.to out).out → Counted t written line → Prints (shown t (entry gap)) out line end
  unfolding shown says_entry put_gap
  gap_put written end line k room r o e = next_put t (gap_refusal t.to) (size gap_fields) (entry_bytes gap) out end written line k room r o (sym (entry_length gap)) e

  pub gap_passed : (line : Line) → (t.reply ≡ done → ⊥) → line ≡ line_of (passed_by t) → Prints (shown t (entry gap)) out line out
  unfolding shown
  gap_passed line n e = next_passed t (says_entry t.to gap) (entry_bytes gap) out line n e
