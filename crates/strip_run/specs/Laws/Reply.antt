-- The reply of a strip is 0 only where the strip was read to its end. Laws.
-- Assumes nothing.
use Rattle.std.specs.Prelude.{◌≡◌, ℕ, Bool, true, false, cond, List, [], ◌∷◌, ◌==◌, ◌≢◌, refl}
use Rattle.std.proofs.Common.{sym, ◌∙◌, eqb-true}
use Rattle.std.proofs.lemmas.Bool.{false≢true, eqb-false}
use Rattle.units.specs.Replies.{done}
use Rattle.units.specs.declared.figures.Figures.{Figures}
use Rattle.chain.specs.Calls as Chaining
use Rattle.chain.specs.Calls.{Made, Gapped, Reading, SamplesRead, Told, made, called, published_told, samples_told}
use Rattle.chain.specs.declared.Chain.{Chain}
use Rattle.chain.specs.declared.Published.{Published}
use Rattle.strip_format.specs.Format.{version_of, Entry, figures, gap}
use Rattle.strip_format.specs.Whole.{Strip, read_strip}
use Rattle.strip_format.specs.declared.Head.{Head}
use Rattle.strip_lines.specs.Lines.{gap_kind, record_line}
use Rattle.strip_lines.specs.Calls.{record_refusal}
use Rattle.strip_reader.specs.Reader.{Handed, head, entry, end, refused}
use Rattle.strip_reader.specs.Feeding.{ending, entries_then, handed_by}
use Rattle.strip_reader.specs.Telling.{Shown, unchanged, desk_of}
use Rattle.strip_run.specs.Lines.{at_start, after, refused_at, begun_with, begun, silence, lined, published_with, published, answered, framed_with, framed, gapped_with, gapped, shown, told, reply_of}
use Rattle.strip_run.specs.declared.Desk.{Desk}

-- a desk that does not go on was refused something: its reply is not 0
abbrev Fair : Desk → Type 0
Fair d = d.more ≡ false → d.reply ≢ done

-- one that goes on is fair
goes_on_lem : (d : Desk) → d.more ≡ true → Fair d
goes_on_lem d m f = absurd (false≢true (sym f ∙ m))

refused_fair : (d : Desk) (reply : ℕ) → (reply ≢ done) → Fair (refused_at d reply).desk
unfolding refused_at
refused_fair d reply n m e = n e

-- what is taken where a reply is 0, and else refused with it
either : (reply : ℕ) (d : Desk) (s : Shown Desk) → Fair s.desk → Fair (cond (reply == done) s (refused_at d reply)).desk
either reply d s p = go (reply == done) refl
  where
    go : (b : Bool) → (reply == done) ≡ b → Fair (cond b s (refused_at d reply)).desk
    go true e = p
    go false e = refused_fair d reply (eqb-false reply done e)

begun_fair : (d : Desk) (m : Made) → Fair (begun_with d m).desk
unfolding begun_with
begun_fair d m =
    let next : Desk = record { chain = m.chain; capacity = d.capacity; number = after d.number; more = true; reply = d.reply } in
    either m.reply d (unchanged next) (goes_on_lem next refl)

lined_fair : (d : Desk) (c : Chain) (kind : ℕ) (p : Published) → Fair (lined d c kind p).desk
unfolding lined
lined_fair d c kind p =
    let next : Desk = record { chain = c; capacity = d.capacity; number = after d.number; more = true; reply = d.reply } in
    let line = record_line d.number kind p.level.0 p.headroom.0 p.gain.0 p.confident in
    either (record_refusal p.level.0 p.headroom.0 p.gain.0) d (record { desk = next; line = line }) (goes_on_lem next refl)

reading_fair : (d : Desk) (c : Chain) (kind : ℕ) (r : Reading) → Fair (published_with d c kind r).desk
unfolding published_with
reading_fair d c kind r = either r.reply d (lined d c kind r.published) (lined_fair d c kind r.published)

published_fair : (d : Desk) (c : Chain) (kind : ℕ) → Fair (published d c kind).desk
unfolding published
published_fair d c kind = reading_fair d c kind (published_told c)

answered_fair : (d : Desk) (t : Told) → Fair (answered d t).desk
unfolding answered
answered_fair d t = either t.reply d (published d t.chain t.answer.number) (published_fair d t.chain t.answer.number)

framed_fair : (d : Desk) (f : Figures) (r : SamplesRead) → Fair (framed_with d f r).desk
unfolding framed_with
framed_fair d f r =
    let t = (called d.chain f (silence r.samples) 1 r.samples).told in
    either r.reply d (answered d t) (answered_fair d t)

gapped_fair : (d : Desk) (g : Gapped) → Fair (gapped_with d g).desk
unfolding gapped_with
gapped_fair d g = either g.reply d (published d g.chain gap_kind) (published_fair d g.chain gap_kind)

-- ---- what is handed out
kept : (d : Desk) (h : Handed) → Fair d → Fair (shown d h).desk → Fair (told d h).desk
unfolding told
kept d h p q = go d.more
  where
    go : (b : Bool) → Fair (cond b (shown d h) (unchanged d)).desk
    go true = q
    go false = p

head_fair : (d : Desk) (h : Head) → Fair d → Fair (told d (head h)).desk
unfolding shown begun
head_fair d h p = kept d (head h) p (begun_fair d (made h.settings h.threshold h.samples d.capacity))

entry_fair : (d : Desk) (e : Entry) → Fair d → Fair (told d (entry e)).desk
unfolding shown framed gapped
entry_fair d (figures f) p = kept d (entry (figures f)) p (framed_fair d f (samples_told d.chain))
entry_fair d gap p = kept d (entry gap) p (gapped_fair d (Chaining.gap d.chain))

-- A refusal is told by its number, and by no other: where 0 is told, it is no refusal.
refused_told : (d : Desk) (reply : ℕ) → Fair d → (told d (refused reply)).desk.reply ≡ done → reply ≡ done
unfolding told shown refused_at
refused_told d reply p = go d.more refl
  where
    go : (b : Bool) → d.more ≡ b → (cond b (refused_at d reply) (unchanged d)).desk.reply ≡ done → reply ≡ done
    go true m e = e
    go false m e = absurd (p m e)

ended_told : (d : Desk) (reply : ℕ) → Fair d → (told d (ending reply)).desk.reply ≡ done → reply ≡ done
unfolding ending
ended_told d reply p = go (reply == done) refl
  where
    go : (b : Bool) → (reply == done) ≡ b → (told d (cond b end (refused reply))).desk.reply ≡ done → reply ≡ done
    go true t e = eqb-true reply done t
    go false t e = refused_told d reply p e

entries_told : (d : Desk) (es : List Entry) (reply : ℕ) → Fair d → (desk_of told d (entries_then es (ending reply))).reply ≡ done → reply ≡ done
unfolding desk_of entries_then
entries_told d [] reply p e = ended_told d reply p e
entries_told d (x ∷ es) reply p e = entries_told (told d (entry x)).desk es reply (entry_fair d x p) e

strip_told : (capacity : ℕ) (s : Strip) → (desk_of told (at_start capacity) (handed_by s)).reply ≡ done → s.reply ≡ done
unfolding handed_by desk_of at_start
strip_told capacity s = go (s.head.reply == done)
  where
    fresh : Fair (at_start capacity)
    fresh = goes_on_lem (at_start capacity) refl

    go : (b : Bool)
        → (desk_of told (at_start capacity) (cond b (head s.head.head ∷ entries_then s.entries (ending s.reply)) (refused s.reply ∷ []))).reply ≡ done
        → s.reply ≡ done
    go true e = entries_told (told (at_start capacity) (head s.head.head)).desk s.entries s.reply (head_fair (at_start capacity) s.head.head fresh) e
    go false e = refused_told (at_start capacity) s.reply fresh e

-- Where the reply is 0, the strip was read to its end.
pub read_whole : (capacity : ℕ) (strip : List ℕ) → reply_of capacity strip ≡ done → (read_strip (version_of strip) strip).reply ≡ done
unfolding reply_of
read_whole capacity strip e = strip_told capacity (read_strip (version_of strip) strip) e
