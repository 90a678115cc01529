-- A strip run through a new chain, and the lines that it prints. Definitions only.
use Rattle.std.specs.Prelude.{ℕ, ◌+◌, ◌%◌, ◌^◌, true, false, cond, List, take, replicate, ◌==◌, from_bits, Float}
use Rattle.std.specs.Float.{binary32}
use Rattle.units.specs.Replies.{done}
use Rattle.units.specs.Settings.{unset}
use Rattle.units.specs.declared.figures.Figures.{Figures}
use Rattle.chain.specs.Calls as Chaining
use Rattle.chain.specs.Calls.{Made, Told, Gapped, Reading, SamplesRead, called, made, published_told, samples_told}
use Rattle.chain.specs.declared.Chain.{Chain}
use Rattle.chain.specs.declared.Published.{Published}
use Rattle.strip_format.specs.Format.{version_of, figures, gap}
use Rattle.strip_format.specs.Whole.{read_strip}
use Rattle.strip_format.specs.declared.Head.{Head}
use Rattle.strip_lines.specs.Lines.{gap_kind, record_line, refusal_line}
use Rattle.strip_lines.specs.Calls.{record_refusal}
use Rattle.strip_reader.specs.Reader.{Handed, more, head, entry, end, refused}
use Rattle.strip_reader.specs.Feeding.{handed_by}
use Rattle.strip_reader.specs.Telling.{Shown, unchanged, lines_of, desk_of}
use Rattle.strip_run.specs.declared.Desk.{Desk}

-- ---- the desk: a chain, the capacity of its rings, the number of what comes next, whether the run goes on, and the reply's number: of the refusal that
-- ended the run, and 0 as long as nothing is refused
-- before the head, whose number is 0, there is no chain yet: all its fields are 0
unfoldable pub at_start : ℕ → Desk
unfolding made unset
at_start capacity = record { chain = (made unset 0 0 0).chain; capacity = capacity; number = 0; more = true; reply = done }

-- "number from 1": the number after another. It has 64 bits, and would roll over to 0
abbrev pub after : ℕ → ℕ
after number = (number + 1) % 2 ^ 64

-- ---- a desk, and the line that it prints: none, or one
-- "A refusal prints its record's number (0 for the head), R and the reply's number, and ends the run."
unfoldable pub refused_at : Desk → ℕ → Shown Desk
unfolding refusal_line
refused_at d reply = record { desk = record { chain = d.chain; capacity = d.capacity; number = d.number; more = false; reply = reply }; line = refusal_line d.number reply }

-- ---- the head: "runs a new chain", with the capacity that the run was given
unfoldable pub begun_with : Desk → Made → Shown Desk
unfolding refused_at
begun_with d m = cond (m.reply == done) (unchanged (record { chain = m.chain; capacity = d.capacity; number = after d.number; more = true; reply = d.reply })) (refused_at d m.reply)

unfoldable pub begun : Desk → Head → Shown Desk
unfolding begun_with made
begun d h = begun_with d (made h.settings h.threshold h.samples d.capacity)

-- ---- a record
-- "silent one-channel frames": n silent samples, of which a channel has at most 480
unfoldable pub silence : ℕ → List Float
silence n = take n (replicate 480 (from_bits binary32 0x0000_0000))

-- "prints for each record ..: number from 1, kind, level, headroom, gain in dB .., confident": what stands after it, of a chain that goes on and a kind
unfoldable pub lined : Desk → Chain → ℕ → Published → Shown Desk
unfolding record_refusal record_line refused_at
lined d c kind p =
    let refused = record_refusal p.level.0 p.headroom.0 p.gain.0 in
    cond (refused == done)
    (record {
      desk = record { chain = c; capacity = d.capacity; number = after d.number; more = true; reply = d.reply };
      line = record_line d.number kind p.level.0 p.headroom.0 p.gain.0 p.confident;
    })
    (refused_at d refused)

unfoldable pub published_with : Desk → Chain → ℕ → Reading → Shown Desk
unfolding lined refused_at
published_with d c kind read = cond (read.reply == done) (lined d c kind read.published) (refused_at d read.reply)

unfoldable pub published : Desk → Chain → ℕ → Shown Desk
unfolding published_with published_told
published d c kind = published_with d c kind (published_told c)

-- the line by what the step told
unfoldable pub answered : Desk → Told → Shown Desk
unfolding published refused_at
answered d told = cond (told.reply == done) (published d told.chain told.answer.number) (refused_at d told.reply)

unfoldable pub framed_with : Desk → Figures → SamplesRead → Shown Desk
unfolding called silence answered refused_at
framed_with d f read = cond (read.reply == done) (answered d (called d.chain f (silence read.samples) 1 read.samples).told) (refused_at d read.reply)

unfoldable pub framed : Desk → Figures → Shown Desk
unfolding framed_with samples_told
framed d f = framed_with d f (samples_told d.chain)

-- ---- a gap: "the program prints it with kind G and the figures as they stand"
unfoldable pub gapped_with : Desk → Gapped → Shown Desk
unfolding published refused_at
gapped_with d g = cond (g.reply == done) (published d g.chain gap_kind) (refused_at d g.reply)

unfoldable pub gapped : Desk → Shown Desk
unfolding gapped_with Chaining.gap
gapped d = gapped_with d (Chaining.gap d.chain)

-- ---- what a strip hands out, one after the other; once the run has ended nothing is printed
unfoldable pub shown : Desk → Handed → Shown Desk
unfolding begun framed gapped refused_at
shown d more = unchanged d
shown d (head h) = begun d h
shown d (entry (figures f)) = framed d f
shown d (entry gap) = gapped d
shown d end = unchanged (record { chain = d.chain; capacity = d.capacity; number = d.number; more = false; reply = d.reply })
shown d (refused reply) = refused_at d reply

unfoldable pub told : Desk → Handed → Shown Desk
unfolding shown
told d h = cond d.more (shown d h) (unchanged d)

-- "The program `strip` reads one .., runs a new chain over silent one-channel frames, and prints for each record ..": the lines of a whole strip, in the version that it says,
-- where the chain's rings have this capacity
unfoldable pub lines : ℕ → List ℕ → List ℕ
unfolding lines_of told at_start handed_by read_strip version_of
lines capacity strip = lines_of told (at_start capacity) (handed_by (read_strip (version_of strip) strip))

-- and its reply: 0 where it is read to its end, and otherwise the number of the refusal that ends it
unfoldable pub reply_of : ℕ → List ℕ → ℕ
unfolding desk_of told at_start handed_by read_strip version_of
reply_of capacity strip = (desk_of told (at_start capacity) (handed_by (read_strip (version_of strip) strip))).reply
