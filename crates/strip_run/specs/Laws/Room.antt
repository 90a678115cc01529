-- No line that is printed is longer than what there is room for, and what a block prints has room in its buffer. Laws.
-- Assumes nothing.
use Rattle.std.specs.Prelude.{◌≡◌, ℕ, ◌/◌, ◌<◌, ◌≤◌, Bool, true, false, cond, List, length, ◌==◌, nat_lt, refl}
use Rattle.std.proofs.Common.{arith, ltb-true}
use Rattle.units.specs.Replies.{done, no_room}
use Rattle.units.specs.declared.figures.Figures.{Figures}
use Rattle.chain.specs.Calls as Chaining
use Rattle.chain.specs.Calls.{Made, Gapped, Reading, SamplesRead, Told, made, called, published_told, samples_told}
use Rattle.chain.specs.declared.Chain.{Chain}
use Rattle.chain.specs.declared.Published.{Published}
use Rattle.strip_format.specs.Format.{figures, gap}
use Rattle.strip_lines.specs.Lines.{longest, gap_kind, record_line}
use Rattle.strip_lines.specs.Calls.{record_refusal}
use Rattle.strip_lines.specs.Laws.Ends.{record_line_fits, refusal_line_fits}
use Rattle.strip_reader.specs.Reader.{Handed, more, head, entry, end, refused}
use Rattle.strip_reader.specs.Telling.{Shown, unchanged}
use Rattle.strip_reader.specs.Laws.Telling.{taken_most}
use Rattle.strip_run.specs.Lines.{after, refused_at, begun_with, begun, silence, lined, published_with, published, answered, framed_with, framed, gapped_with, gapped, shown, told}
use Rattle.strip_run.specs.Run.{Taken, taken_lines, taken_run, taken_of}
use Rattle.strip_run.specs.declared.Desk.{Desk}
use Rattle.strip_run.specs.declared.Run.{Run}

-- what is printed has room
abbrev Roomy : Shown Desk → Type 0
Roomy s = length s.line ≤ longest

either : (b : Bool) (s t : Shown Desk) → Roomy s → Roomy t → Roomy (cond b s t)
either true s t p q = p
either false s t p q = q

none : (d : Desk) → Roomy (unchanged d)
none d = omega arith

refused_most : (d : Desk) (reply : ℕ) → Roomy (refused_at d reply)
unfolding refused_at
refused_most d reply = refusal_line_fits d.number reply

begun_most : (d : Desk) (m : Made) → Roomy (begun_with d m)
unfolding begun_with
begun_most d m =
    let next : Desk = record { chain = m.chain; capacity = d.capacity; number = after d.number; more = true; reply = d.reply } in
    either (m.reply == done) (unchanged next) (refused_at d m.reply) (none next) (refused_most d m.reply)

lined_most : (d : Desk) (c : Chain) (kind : ℕ) (p : Published) → Roomy (lined d c kind p)
unfolding lined
lined_most d c kind p =
    let bad = record_refusal p.level.0 p.headroom.0 p.gain.0 in
    let line = record_line d.number kind p.level.0 p.headroom.0 p.gain.0 p.confident in
    either (bad == done) (record { desk = record { chain = c; capacity = d.capacity; number = after d.number; more = true; reply = d.reply }; line = line }) (refused_at d bad)
    (record_line_fits d.number kind p.level.0 p.headroom.0 p.gain.0 p.confident) (refused_most d bad)

reading_most : (d : Desk) (c : Chain) (kind : ℕ) (r : Reading) → Roomy (published_with d c kind r)
unfolding published_with
reading_most d c kind r =
    either (r.reply == done) (lined d c kind r.published) (refused_at d r.reply) (lined_most d c kind r.published) (refused_most d r.reply)

published_most : (d : Desk) (c : Chain) (kind : ℕ) → Roomy (published d c kind)
unfolding published
published_most d c kind = reading_most d c kind (published_told c)

answered_most : (d : Desk) (t : Told) → Roomy (answered d t)
unfolding answered
answered_most d t =
    let kind = t.answer.number in
    either (t.reply == done) (published d t.chain kind) (refused_at d t.reply) (published_most d t.chain kind) (refused_most d t.reply)

framed_most : (d : Desk) (f : Figures) (r : SamplesRead) → Roomy (framed_with d f r)
unfolding framed_with
framed_most d f r =
    let t = (called d.chain f (silence r.samples) 1 r.samples).told in
    either (r.reply == done) (answered d t) (refused_at d r.reply) (answered_most d t) (refused_most d r.reply)

gapped_most : (d : Desk) (g : Gapped) → Roomy (gapped_with d g)
unfolding gapped_with
gapped_most d g =
    either (g.reply == done) (published d g.chain gap_kind) (refused_at d g.reply) (published_most d g.chain gap_kind) (refused_most d g.reply)

shown_most : (d : Desk) (h : Handed) → Roomy (shown d h)
unfolding shown begun framed gapped
shown_most d more = none d
shown_most d (head h) = begun_most d (made h.settings h.threshold h.samples d.capacity)
shown_most d (entry (figures f)) = framed_most d f (samples_told d.chain)
shown_most d (entry gap) = gapped_most d (Chaining.gap d.chain)
shown_most d end = none (record { chain = d.chain; capacity = d.capacity; number = d.number; more = false; reply = d.reply })
shown_most d (refused reply) = refused_most d reply

pub told_most : (d : Desk) (h : Handed) → length (told d h).line ≤ longest
unfolding told
told_most d h = either d.more (shown d h) (unchanged d) (shown_most d h) (none d)

-- ---- what a block prints
lines_fit : (r : Run) (block : List ℕ) (space : ℕ) → length block < space / longest → length (taken_lines r block) ≤ space
unfolding taken_lines
lines_fit r block space h = omega (arith, taken_most told longest told_most r.reader r.desk block)

-- What is told to be put is never more than the buffer has.
pub taken_fits : (r : Run) (block : List ℕ) (space : ℕ) → (taken_of r block space).length ≤ space
unfolding taken_of
taken_fits r block space = go (nat_lt (length block) (space / longest)) refl
  where
    go : (b : Bool) → nat_lt (length block) (space / longest) ≡ b
        → (cond {A = Taken} b (record { reply = done; run = taken_run r block; length = length (taken_lines r block) }) (record { reply = no_room; run = r; length = 0 })).length ≤ space
    go true t = lines_fit r block space (ltb-true (length block) (space / longest) t)
    go false t = omega arith
