-- Nothing that is put out is longer than what there is room for, what a block puts out has room in its buffer, and the strip's end puts out nothing. Laws.
-- Assumes nothing.
use Rattle.std.specs.Prelude.{◌≡◌, ℕ, ◌*◌, ◌/◌, ◌<◌, ◌≤◌, Bool, true, false, cond, ◌&&◌, List, [], ◌∷◌, length, ◌==◌, nat_lt, refl}
use Rattle.std.proofs.Common.{arith, ltb-true, length-append}
use Rattle.units.specs.Replies.{done, cut, bad_setting, no_room}
use Rattle.strip_format.specs.Fields.{size}
use Rattle.strip_format.specs.Format.{in_version, head_fields, Entry, figures, gap, entry_size, head_bytes, entry_bytes}
use Rattle.strip_format.specs.Laws.Heads.{head_length_lem}
use Rattle.strip_format.specs.Laws.Whole.{entry_length}
use Rattle.strip_format.specs.declared.Head.{Head}
use Rattle.strip_format.specs.declared.Version.{Version}
use Rattle.strip_format.specs.declared.Version.TheVariants.{One, Two}
use Rattle.strip_reader.specs.Reader.{Handed, more, head, entry, end, refused, at_records, over, passes, fed, finished}
use Rattle.strip_reader.specs.Telling.{Shown, unchanged, ran, ended, taken}
use Rattle.strip_reader.specs.declared.Reader.{Reader}
use Rattle.strip_carry.specs.Carry.{says_head, says_entry}
use Rattle.strip_carry.specs.Run.{Taken, said, not_said, passed_by, next, with_threshold, ended_with, shown, told, longest, taken_run, taken_lines, taken_of}
use Rattle.strip_carry.specs.declared.Run.{Run}
use Rattle.strip_carry.specs.declared.Tally.{Tally}

-- ---- a line
-- what is put out has room
abbrev Roomy : Shown Tally → Type 0
Roomy s = length s.line ≤ longest

either : (b : Bool) (s t : Shown Tally) → Roomy s → Roomy t → Roomy (cond b s t)
either true s t p q = p
either false s t p q = q

none : (t : Tally) → Roomy (unchanged t)
none t = omega arith

size_most : (v : Version) → size (head_fields v) ≤ longest
size_most One = omega arith
size_most Two = omega arith

-- no head is longer, and no record is
head_most : (h : Head) → length (head_bytes h) ≤ longest
head_most h = rw (head_length_lem h) (size_most h.version)

entry_most : (e : Entry) → length (entry_bytes e) ≤ longest
entry_most e = rw (entry_length e) (go e)
  where
    go : (d : Entry) → entry_size d ≤ longest
    go (figures f) = omega arith
    go gap = omega arith

next_most : (t : Tally) (says : Bool) (bytes : List ℕ) → length bytes ≤ longest → Roomy (next t says bytes)
unfolding next not_said passed_by
next_most t says bytes h =
    either (t.reply == done) (cond says (record { desk = said t (length bytes); line = bytes }) (not_said t)) (passed_by t)
    (either says (record { desk = said t (length bytes); line = bytes }) (not_said t) h (omega arith)) (omega arith)

shown_most : (t : Tally) (h : Handed) → Roomy (shown t h)
unfolding shown ended_with
shown_most t more = none t
shown_most t (head h) = next_most (with_threshold t h.threshold) (says_head t.to h) (head_bytes (in_version t.to h)) (head_most (in_version t.to h))
shown_most t (entry e) = next_most t (says_entry t.to e) (entry_bytes e) (entry_most e)
shown_most t end = omega arith
shown_most t (refused reply) = omega arith

-- No byte puts out more than the longest head has.
pub told_most : (t : Tally) (h : Handed) → length (told t h).line ≤ longest
unfolding told
told_most t h = either t.more (shown t h) (unchanged t) (shown_most t h) (none t)

-- ---- the strip's end
unless_over : (b : Bool) (s : Shown Tally) (t : Tally) → s.line ≡ [] → (cond b s (unchanged t)).line ≡ []
unless_over true s t e = e
unless_over false s t e = refl

-- nothing is put out where nothing, the end or a refusal is handed out
more_empty : (t : Tally) → (told t more).line ≡ []
unfolding told shown
more_empty t = unless_over t.more (shown t more) t refl

end_empty : (t : Tally) → (told t end).line ≡ []
unfolding told shown ended_with
end_empty t = unless_over t.more (shown t end) t refl

refused_empty : (t : Tally) (reply : ℕ) → (told t (refused reply)).line ≡ []
unfolding told shown ended_with
refused_empty t reply = unless_over t.more (shown t (refused reply)) t refl

-- Nothing is put out at the end.
pub finished_empty : (t : Tally) (r : Reader) → (told t (finished r)).line ≡ []
unfolding finished
finished_empty t r = go (passes r) (r.stage == over) (r.stage == at_records && r.count == 0)
  where
    go : (a b c : Bool) → (told t (cond a (cond b more (cond c end (refused cut))) (refused bad_setting))).line ≡ []
    go true true c = more_empty t
    go true false true = end_empty t
    go true false false = refused_empty t cut
    go false b c = refused_empty t bad_setting

pub ended_empty : (r : Reader) (t : Tally) → (ended told r t).lines ≡ []
unfolding ended
ended_empty r t = finished_empty t r

-- ---- what a block puts out
ran_most : (r : Reader) (t : Tally) (bytes : List ℕ) → length (ran told r t bytes).lines ≤ longest * length bytes
unfolding ran
ran_most r t [] = omega arith
ran_most r t (b ∷ bs) =
    let f = fed r b in
    let first = told_most t f.got in
    let rest = ran_most f.reader (told t f.got).desk bs in
    rw length-append (omega arith)

-- It has room where the buffer can hold the longest head for each byte and once more.
pub ran_fits : (r : Reader) (t : Tally) (block : List ℕ) (space : ℕ) → length block < space / longest → length (ran told r t block).lines ≤ space
ran_fits r t block space h = omega (arith, ran_most r t block)

taken_most : (r : Reader) (t : Tally) (block : List ℕ) (space : ℕ) → length block < space / longest → length (taken told r t block).lines ≤ space
unfolding taken
taken_most r t [] space h = rw (ended_empty r t) (omega arith)
taken_most r t (b ∷ bs) space h = ran_fits r t (b ∷ bs) space h

-- What is told to be put is never more than the buffer has.
pub taken_fits : (r : Run) (block : List ℕ) (space : ℕ) → (taken_of r block space).length ≤ space
unfolding taken_of taken_lines
taken_fits r block space = go (nat_lt (length block) (space / longest)) refl
  where
    go : (b : Bool) → nat_lt (length block) (space / longest) ≡ b
        → (cond {A = Taken} b (record { reply = done; run = taken_run r block; length = length (taken_lines r block) }) (record { reply = no_room; run = r; length = 0 })).length ≤ space
    go true t = taken_most r.reader r.tally block space (ltb-true (length block) (space / longest) t)
    go false t = omega arith
