-- What a step makes of a desk, by what its calls hand back. Assumes nothing.
use Rattle.std.proofs.Common.{◌≡◌, ℕ, ◌≤◌, Bool, true, false, eqb, List, ◌++◌, length, drop, sym, refl, ap, ◌∙◌, subst, arith, ne_eqb, eqb-true, le-leb}
use Rattle.std.specs.Prelude.{Result, Ok, Err, IfOk, IfErr}
use Rattle.std.specs.Result.{IsErrAnd, result_unwrap_or}
use Rattle.std.proofs.lemmas.Result.{err_from_is_err_and}
use borrow.Author.Tests.{eqb-false}
use Rattle.units.specs.Handed.{number_of, handed}
use Rattle.units.specs.Laws.Handed.{handed_ok, refused_not_done, check_number, number_not_done}
use Rattle.units.specs.Replies.{done}
use Rattle.units.specs.Output.{put}
use Rattle.units.specs.declared.figures.Figures.{Figures as Metered}
use Rattle.units.specs.declared.refusals.Refusal.{Refusal}
use Rattle.frames.specs.Shape.{is_samples}
use Rattle.chain.specs.Answer.{said}
use Rattle.chain.specs.Chain.{passes}
use Rattle.chain.specs.Calls as Chaining
use Rattle.chain.specs.Calls.{Told, called, made, told, published_told, samples_told}
use Rattle.chain.specs.declared.Chain.{Chain}
use Rattle.chain.specs.declared.Next.{Next}
use Rattle.chain.specs.declared.Published.{Published}
use Rattle.strip_format.specs.Laws.Refusals.{put_fits}
use Rattle.strip_format.specs.Laws.Steps.{put_refused, put_done}
use Rattle.strip_format.specs.declared.Head.{Head}
use Rattle.strip_lines.specs.Lines.{longest, gap_kind, record_line, refusal_line}
use Rattle.strip_lines.specs.Calls as Putting
use Rattle.strip_lines.specs.Laws.Ends.{record_line_fits, refusal_line_fits}
use Rattle.strip_reader.specs.Telling.{Shown}
use Rattle.strip_run.specs.Lines.{after, refused_at, begun_with, begun, silence, lined, published_with, published, answered, framed_with, framed, gapped_with, gapped}
use Rattle.strip_run.specs.Run.{line_of, line_out, PutOrRefused}
use Rattle.strip_run.specs.declared.Desk.{Desk}
use Rattle.strip_run.specs.declared.Line.{Line}

-- a function's two promises: its answer and the buffer
abbrev pub Prints : Shown Desk → List ℕ → Line → List ℕ → Type 0
Prints s out line end = (line ≡ line_of s) × (end ≡ line_out s out)

pub moved : (s t : Shown Desk) (out : List ℕ) (line : Line) (end : List ℕ) → s ≡ t → Prints s out line end → Prints t out line end
moved s t out line end e p = subst (λ (x : Shown Desk). Prints x out line end) e p

-- what puts or refuses what is shown does so with all that is equal to it
pub steps_moved : (s t : Shown Desk) (d : Desk) (r : Result Line Refusal) (out end : List ℕ) → s ≡ t → PutOrRefused s d r out end → PutOrRefused t d r out end
steps_moved s t d r out end e p = subst (λ (x : Shown Desk). PutOrRefused x d r out end) e p

-- a step that ends with a refusal that `?` hands on
pub stopped_by : (s : Shown Desk) (d : Desk) (r : Result Line Refusal) (e : Refusal) (out end : List ℕ)
    → IsErrAnd r (λ x. x ≡ e) → refused_at d (number_of e) ≡ s → end ≡ out → PutOrRefused s d r out end
stopped_by s d r e out end h p q =
    let is = err_from_is_err_and r h in
    subst (λ (x : Result Line Refusal). PutOrRefused s d x out end) (sym (is.1 ∙ ap Err is.2)) (p, q)

-- what was refused is told with its line
pub finally : (s : Shown Desk) (d : Desk) (r : Result Line Refusal) (out mid end : List ℕ) (l : Line) → PutOrRefused s d r out mid
    → IfOk r (λ x. (l ≡ x) × (end ≡ mid))
    → IfErr r (λ e. (l ≡ line_of (refused_at d (number_of e))) × (end ≡ line_out (refused_at d (number_of e)) mid))
    → Prints s out l end
finally s d (Ok x) out mid end l p q _ = (q.0 ∙ p.0, q.1 ∙ p.1)
finally s d (Err e) out mid end l p _ q =
    (q.0 ∙ ap line_of p.0, q.1 ∙ ap (line_out (refused_at d (number_of e))) p.1 ∙ ap (λ (x : Shown Desk). line_out x out) p.0)

-- ---- a line that was put, or was not
line_put : (n : ℕ) (bytes out : List ℕ) (k : ℕ) → Ok k ≡ Putting.handed_line (put n bytes out) bytes
    → (n ≡ done) × (k ≡ length bytes) × ((put n bytes out).out ≡ bytes ++ drop (length bytes) out)
unfolding Putting.line_of
line_put n bytes out k h =
    let q = handed_ok _ _ k (sym h) in
    let p = put_done n bytes out q.0 in
    (p.0, sym q.1 ∙ rw q.0, p.1)

line_left : (n : ℕ) (bytes out : List ℕ) (e : Refusal) → length bytes ≤ length out → Err e ≡ Putting.handed_line (put n bytes out) bytes
    → (Err e ≡ handed {A = ℕ} n 0) × ((put n bytes out).out ≡ out) × (n ≡ done → ⊥)
unfolding Putting.line_of
line_left n bytes out e l h = go (eqb n done) refl
  where
    go : (b : Bool) → eqb n done ≡ b → (Err e ≡ handed {A = ℕ} n 0) × ((put n bytes out).out ≡ out) × (n ≡ done → ⊥)
    go true t =
        let z = eqb-true n done t in
        absurd (refused_not_done _ _ e h (rw (z, put_fits bytes out l)))
    go false t =
        let z = eqb-false n done t in
        (h ∙ rw (put_refused n bytes out z, t), rw (put_refused n bytes out z), z)

pub refuse_is : (d : Desk) (reply : ℕ) (out end : List ℕ) (r : Result ℕ Refusal) (n : ℕ) → longest ≤ length out
    → r ≡ Putting.handed_line (Putting.put_refusal_line d.number reply out) (refusal_line d.number reply) → n ≡ result_unwrap_or r 0
    → end ≡ (Putting.put_refusal_line d.number reply out).out
    → Prints (refused_at d reply) out (record { desk = record { chain = d.chain; capacity = d.capacity; number = d.number; more = false; reply = reply }; length = n }) end
unfolding refused_at Putting.put_refusal_line Putting.line_of handed
refuse_is d reply out end r n room e w f =
    let fits = le-leb (length (refusal_line d.number reply)) (length out) (omega (arith, refusal_line_fits d.number reply)) in
    (rw (w, e, fits), f ∙ rw fits)

-- ---- the number of a refusal is the reply's
published_number : (c : Chain) (e : Refusal) → Err e ≡ handed (published_told c).reply (published_told c).published → number_of e ≡ (published_told c).reply
unfolding published_told
published_number c e h = check_number true (passes c) true true _ e h

samples_number : (c : Chain) (e : Refusal) → Err e ≡ handed (samples_told c).reply (samples_told c).samples → number_of e ≡ (samples_told c).reply
unfolding samples_told
samples_number c e h = check_number true (passes c) true true _ e h

gap_number : (c : Chain) (e : Refusal) → Err e ≡ handed (Chaining.gap c).reply (Chaining.gap c).chain → number_of e ≡ (Chaining.gap c).reply
unfolding Chaining.gap
gap_number c e h = check_number true (passes c) true true _ e h

-- ---- a head
module _ (d : Desk) (h : Head) where
  abbrev fresh : Chaining.Made
  fresh = made h.settings h.threshold h.samples d.capacity

  begun_number : (e : Refusal) → Err e ≡ handed fresh.reply fresh.chain → number_of e ≡ fresh.reply
  unfolding made
  begun_number e q = check_number (is_samples h.samples) _ true true _ e q

  pub begun_refused : (e : Refusal) → Err e ≡ handed fresh.reply fresh.chain → refused_at d (number_of e) ≡ begun d h
  unfolding begun begun_with
  begun_refused e q = ap (refused_at d) (begun_number e q) ∙ sym (rw (ne_eqb fresh.reply done (refused_not_done _ _ e q)) refl)

  pub begun_done : (c : Chain) (next : Desk) (out : List ℕ) → Ok c ≡ handed fresh.reply fresh.chain
      → next ≡ record { chain = c; capacity = d.capacity; number = after d.number; more = true; reply = d.reply }
      → Prints (begun d h) out (record { desk = next; length = 0 }) out
  unfolding begun begun_with
  begun_done c next out q w =
      let p = handed_ok _ _ c (sym q) in
      rw (p.0, p.1) (rw w (refl, refl))

-- ---- a record
module _ (d : Desk) (c : Chain) (kind : ℕ) where
  pub published_refused : (e : Refusal) → Err e ≡ handed (published_told c).reply (published_told c).published → refused_at d (number_of e) ≡ published d c kind
  unfolding published published_with
  published_refused e q = ap (refused_at d) (published_number c e q) ∙ sym (rw (ne_eqb (published_told c).reply done (refused_not_done _ _ e q)) refl)

  pub published_taken : (p : Published) → Ok p ≡ handed (published_told c).reply (published_told c).published → lined d c kind p ≡ published d c kind
  unfolding published published_with
  published_taken p q =
      let both = handed_ok _ _ p (sym q) in
      ap (lined d c kind) (sym both.1) ∙ sym (rw both.0 refl)

  module _ (p : Published) where
    abbrev refused : ℕ
    refused = Putting.record_refusal p.level.0 p.headroom.0 p.gain.0

    abbrev bytes : List ℕ
    bytes = record_line d.number kind p.level.0 p.headroom.0 p.gain.0 p.confident

    refused_number : (e : Refusal) → Err e ≡ handed {A = ℕ} refused 0 → number_of e ≡ refused
    unfolding Putting.record_refusal
    refused_number e q = check_number true true _ true _ e q

    pub lined_done : (k : ℕ) (next : Desk) (out end : List ℕ) → Ok k ≡ Putting.handed_line (Putting.put_record d.number kind p out) (Putting.line_of_record d.number kind p)
        → end ≡ (Putting.put_record d.number kind p out).out
        → next ≡ record { chain = c; capacity = d.capacity; number = after d.number; more = true; reply = d.reply }
        → Prints (lined d c kind p) out (record { desk = next; length = k }) end
    unfolding lined Putting.put_record_line
    lined_done k next out end q f w =
        let l = line_put refused bytes out k q in
        rw l.0 (rw (w, l.1), f ∙ l.2)

    pub lined_left : (e : Refusal) (out end : List ℕ) → longest ≤ length out
        → Err e ≡ Putting.handed_line (Putting.put_record d.number kind p out) (Putting.line_of_record d.number kind p)
        → end ≡ (Putting.put_record d.number kind p out).out
        → (end ≡ out) × (refused_at d (number_of e) ≡ lined d c kind p)
    unfolding lined Putting.put_record_line
    lined_left e out end room q f =
        let l = line_left refused bytes out e (omega (arith, record_line_fits d.number kind p.level.0 p.headroom.0 p.gain.0 p.confident)) q in
        (f ∙ l.1, ap (refused_at d) (refused_number e l.0) ∙ sym (rw (ne_eqb refused done l.2) refl))

module _ (d : Desk) (f : Metered) where
  pub framed_unready : (e : Refusal) → Err e ≡ handed (samples_told d.chain).reply (samples_told d.chain).samples → refused_at d (number_of e) ≡ framed d f
  unfolding framed framed_with
  framed_unready e q = ap (refused_at d) (samples_number d.chain e q) ∙ sym (rw (ne_eqb (samples_told d.chain).reply done (refused_not_done _ _ e q)) refl)

  module _ (n : ℕ) (q : Ok n ≡ handed (samples_told d.chain).reply (samples_told d.chain).samples) where
    framed_answered : answered d (called d.chain f (silence n) 1 n).told ≡ framed d f
    unfolding framed framed_with
    framed_answered =
        let both = handed_ok _ _ n (sym q) in
        ap (λ (m : ℕ). answered d (called d.chain f (silence m) 1 m).told) (sym both.1) ∙ sym (rw both.0 refl)

    pub framed_refused : (e : Refusal) → told d.chain (Err e) ≡ (called d.chain f (silence n) 1 n).told → refused_at d (number_of e) ≡ framed d f
    unfolding told answered
    framed_refused e t = sym (rw (ne_eqb (number_of e) done (number_not_done e)) refl) ∙ ap (answered d) t ∙ framed_answered

    pub framed_done : (x : Next) → told d.chain (Ok x) ≡ (called d.chain f (silence n) 1 n).told → published d x.chain (said x.answer).number ≡ framed d f
    unfolding told answered
    framed_done x t = ap (answered d) t ∙ framed_answered

-- ---- a gap
module _ (d : Desk) where
  pub gapped_refused : (e : Refusal) → Err e ≡ handed (Chaining.gap d.chain).reply (Chaining.gap d.chain).chain → refused_at d (number_of e) ≡ gapped d
  unfolding gapped gapped_with
  gapped_refused e q = ap (refused_at d) (gap_number d.chain e q) ∙ sym (rw (ne_eqb (Chaining.gap d.chain).reply done (refused_not_done _ _ e q)) refl)

  pub gapped_done : (c : Chain) → Ok c ≡ handed (Chaining.gap d.chain).reply (Chaining.gap d.chain).chain → published d c gap_kind ≡ gapped d
  unfolding gapped gapped_with
  gapped_done c q =
      let both = handed_ok _ _ c (sym q) in
      ap (λ (x : Chain). published d x gap_kind) (sym both.1) ∙ sym (rw both.0 refl)
