-- What an answer says of the record at the start of bytes determines the record, and what it hands back of a head determines the head. Laws.
-- Assumes nothing.
use Rattle.std.specs.Prelude.{◌≡◌, refl, Bool, true, false, ◌&&◌, cond, List, [], ◌∷◌, ℕ, eqb, leb, length, Option, None, Some, Result, Ok, Err}
use Rattle.std.proofs.Common.{sym, ap, ◌∙◌, arith}
use Rattle.units.specs.Replies.{done, cut, bad_length, bad_version, refusal}
use Rattle.units.specs.Handed.{number_of, refusal_of, handed}
use Rattle.units.specs.Settings as Settings
use Rattle.units.specs.declared.figures.Figures.{Figures}
use Rattle.units.specs.declared.refusals.Refusal.{Refusal}
use Rattle.frames.specs.Shape.{is_samples}
use Rattle.strip_format.specs.Fields.{size, number_at, fields_at}
use Rattle.strip_format.specs.Format as Format
use Rattle.strip_format.specs.Format.{head_fields, head_length, head_of, figures, gap}
use Rattle.strip_format.specs.Calls.{HeadRead, is_threshold, head_refusal, refused_head, judged_head, read_head, Read, refused_record, ended, found, read_record, Said, said_of, said, entries_found, read_of, head_read_of, Told, told, told_of}
use Rattle.strip_format.specs.Laws.Whole.{Seen, here, over, refused, seen}
use Rattle.strip_format.specs.declared.Version.{Version}
use Rattle.strip_format.specs.declared.Head.{Head}
use Rattle.strip_format.specs.declared.Entry.{Entry}
use Rattle.strip_format.specs.declared.Entry.TheVariants.{Record, Gap}

number : {x y : Said} → x ≡ y → x.number ≡ y.number
number e = ap (λ (s : Said). s.number) e

nothing_said : (x : Option Entry) → said x ≡ said_of [] → entries_found x ≡ []
nothing_said None e = refl
nothing_said (Some (Record f)) e = absurd (omega (arith, number e))
nothing_said (Some Gap) e = absurd (omega (arith, number e))

entry_said : (x : Option Entry) (d : Format.Entry) → said x ≡ said_of (d ∷ []) → entries_found x ≡ d ∷ []
entry_said None (figures f) e = absurd (omega (arith, number e))
entry_said None gap e = absurd (omega (arith, number e))
entry_said (Some (Record g)) (figures f) e = ap (λ (h : Figures). figures h ∷ []) (same (ap (λ (s : Said). s.values) e))
  where
    same : g ∷ [] ≡ f ∷ [] → g ≡ f
    same h = cc h
entry_said (Some (Record g)) gap e = absurd (omega (arith, number e))
entry_said (Some Gap) (figures f) e = absurd (omega (arith, number e))
entry_said (Some Gap) gap e = refl

-- what was found is what is read there, where the same is said of it
found_is : (v : Version) (bytes : List ℕ) (x : Option Entry) → said x ≡ said_of (read_record v bytes 0).found → entries_found x ≡ (read_record v bytes 0).found
unfolding found ended refused_record
found_is v bytes x e = go (seen v bytes)
  where
    says : {y : Read} → read_record v bytes 0 ≡ y → said x ≡ said_of y.found
    says h = e ∙ ap (λ (y : Read). said_of y.found) h

    go : Seen v bytes → entries_found x ≡ (read_record v bytes 0).found
    go (here h) = entry_said x h.entry (says h.is) ∙ sym (ap (λ (y : Read). y.found) h.is)
    go (over o) = nothing_said x (says o.is) ∙ sym (ap (λ (y : Read). y.found) o.is)
    go (refused f) = nothing_said x (says f.is) ∙ sym (ap (λ (y : Read). y.found) f.is)

-- an answer is a record's by its reply and what was found
both : {n : ℕ} {es : List Format.Entry} (x : Read) → n ≡ x.reply → es ≡ x.found → record { reply = n; found = es } ≡ x
both x p q = λ i. record { reply = p i; found = q i }

-- So it is what is read there, where it says so.
pub read_is : (v : Version) (bytes : List ℕ) (r : Result (Option Entry) Refusal) → told r ≡ told_of (read_record v bytes 0) → read_of r ≡ read_record v bytes 0
unfolding told told_of read_of
read_is v bytes (Ok x) e = both (read_record v bytes 0) (ap (λ (t : Told). t.reply) e) (found_is v bytes x (ap (λ (t : Told). t.said) e))
read_is v bytes (Err k) e = both (read_record v bytes 0) (ap (λ (t : Told). t.reply) e) (found_is v bytes None (ap (λ (t : Told). t.said) e))

-- ---- a head
-- what a whole head hands back
judged_back : (h : Head) → head_read_of (handed (judged_head h).reply (judged_head h).head) ≡ judged_head h
unfolding judged_head head_refusal refusal head_read_of refused_head handed refusal_of number_of
judged_back h = go (is_samples h.samples) (Settings.accepted h.settings && is_threshold h.version h.threshold)
  where
    go : (a b : Bool)
        → (let n = refusal a b true true in
        let r = cond {A = HeadRead} (eqb n done) (record { reply = done; head = h }) (refused_head n) in
        head_read_of (handed r.reply r.head) ≡ r)
    go true true = refl
    go true false = refl
    go false b = refl

-- What is handed back of a head says what is read there.
pub head_read_is : (v : Version) (strip : List ℕ) → head_read_of (handed (read_head v strip).reply (read_head v strip).head) ≡ read_head v strip
unfolding read_head head_read_of refused_head handed refusal_of number_of
head_read_is v strip =
    let h = head_of v (fields_at (head_fields v) strip 0) in
    go (leb 3 (length strip)) (eqb (number_at strip 2 1) (Format.number_of v)) (eqb (number_at strip 0 2) (head_length v)) (leb (size (head_fields v)) (length strip)) (judged_head h)
    (judged_back h)
  where
    go : (a b c d : Bool) (x : HeadRead) → head_read_of (handed x.reply x.head) ≡ x
        → (let r = cond a (cond b (cond c (cond d x (refused_head cut)) (refused_head bad_length)) (refused_head bad_version)) (refused_head cut) in
        head_read_of (handed r.reply r.head) ≡ r)
    go true true true true x e = e
    go true true true false x e = refl
    go true true false d x e = refl
    go true false c d x e = refl
    go false b c d x e = refl
