-- `strip_reader::Reader::take` meets its contract. Assumes nothing.
use Rattle.std.proofs.Common.{◌≡◌, sym, ap, ◌∙◌, Bool, true, List, [], ℕ, ◌+◌, ◌≤◌, ◌<◌, length, take, set, length-set, length-take-le, arith, rules, ltb-true, leb-true, ◌∷◌, Option, Result, Ok, None}
use Rattle.units.specs.Handed.{number_of}
use Rattle.units.specs.declared.refusals.Refusal.{Refusal}
use Rattle.strip_format.specs.Calls.{HeadRead, Read, read_head, refused_record, found, read_record, read_of, told, told_of}
use Rattle.strip_format.specs.Laws.Answers.{read_is}
use Rattle.strip_format.specs.Laws.Whole.{Seen, here, over, refused, seen}
use Rattle.strip_format.specs.declared.Version.{Version}
use Rattle.strip_format.specs.declared.Entry.{Entry}
use Rattle.lists.specs.Tests.{each_of}
use Rattle.std.specs.Prelude.{ltb, leb}
use Rattle.strip_reader.specs.Reader as Reading
use Rattle.strip_reader.specs.Reader.{room, at_head, at_records, more, passes, Fed, handed, step_of, asked, head_fed, record_fed, fed}
use Rattle.strip_reader.specs.declared.Reader.{Reader}
use Rattle.strip_reader.proofs.Reader.take.Goals as goal

-- there is room for the byte
some-room : (r : Reader) {b : Bool} → b ≡ passes r → b ≡ true → r.count < room
unfolding passes
some-room r p t = ltb-true r.count room (each_of (ltb r.count room ∷ leb r.stage Reading.over ∷ []) (sym p ∙ t) 0)

-- and it waits for something that there is
there : (r : Reader) {b : Bool} → b ≡ passes r → b ≡ true → r.stage ≤ Reading.over
unfolding passes
there r p t = leb-true r.stage Reading.over (each_of (ltb r.count room ∷ leb r.stage Reading.over ∷ []) (sym p ∙ t) 1)

-- the bytes with it are within the room
within : (held : List ℕ) (count byte : ℕ) → length held ≡ room → count < room → count + 1 ≤ length (set held count byte)
within held count byte h l = simp length-set (omega arith)

pub bounds-held-at : goal.bounds-held-at
bounds-held-at c = some-room _ c.passes.ensures c.if-not-passes.false

pub overflow_add-n : goal.overflow_add-n
overflow_add-n c = omega (arith, some-room _ c.passes.ensures c.if-not-passes.false)

pub slice_bounds-held-end : goal.slice_bounds-held-end
slice_bounds-held-end c =
    let long : length c.args.self.held ≡ room = search rules in
    within c.args.self.held c.args.self.count _ long (some-room _ c.passes.ensures c.if-not-passes.false)

pub slice_bounds-head_of-end : goal.slice_bounds-head_of-end
slice_bounds-head_of-end c =
    let long : length c.args.self.held ≡ room = search rules in
    sym (length-take-le _ _ (within c.args.self.held c.args.self.count _ long (some-room _ c.passes.ensures c.if-not-passes.false)))

pub slice_bounds-held-end-then-self-eq-RECORDS : goal.slice_bounds-held-end-then-self-eq-RECORDS
slice_bounds-held-end-then-self-eq-RECORDS c =
    let long : length c.args.self.held ≡ room = search rules in
    within c.args.self.held c.args.self.count _ long (some-room _ c.passes.ensures c.if-not-passes.false)

pub slice_bounds-read_record-end : goal.slice_bounds-read_record-end
slice_bounds-read_record-end c =
    let long : length c.args.self.held ≡ room = search rules in
    sym (length-take-le _ _ (within c.args.self.held c.args.self.count _ long (some-room _ c.passes.ensures c.if-not-passes.false)))

pub returns-then-not-passes : goal.returns-then-not-passes
unfolding step_of handed fed number_of
returns-then-not-passes c = rw (c.number.ensures, ← c.passes.ensures, c.if-not-passes.true)

-- a reader that passes
module _ (r : Reader) (byte : ℕ) {b : Bool} (p : b ≡ passes r) (t : b ≡ true) where
  -- what it holds with the byte
  abbrev held : List ℕ
  held = set r.held r.count byte

  abbrev bytes : List ℕ
  bytes = take (r.count + 1) held

  in_head : {read : HeadRead} {s : Fed} → r.stage ≡ at_head → read ≡ read_head (asked r.any r.version bytes) bytes → s ≡ head_fed r held (r.count + 1) read → s ≡ fed r byte
  unfolding fed
  in_head z h e = e ∙ rw (← p, t, z, h)

  in-record : (read : Result (Option Entry) Refusal) {s : Fed} → r.stage ≡ at_records → told read ≡ told_of (read_record r.version bytes 0) → s ≡ record_fed r held (r.count + 1) (read_of read)
      → s ≡ fed r byte
  unfolding fed
  in-record read z h e = e ∙ rw (← p, t, z, read_is r.version bytes read h)

  after_all : r.stage ≡ Reading.over → record { reader = r; got = more } ≡ fed r byte
  unfolding fed
  after_all z = rw (← p, t, z)

pub returns-then-self-eq-HEAD : goal.returns-then-self-eq-HEAD
returns-then-self-eq-HEAD c = in_head _ _ c.passes.ensures c.if-not-passes.false c.if-self-eq-HEAD.true c.head_of-read.ensures c.with_head.ensures

-- of bytes that there are it is never said that the strip ends there
never_ended : (v : Version) (bytes : List ℕ) (read : Result (Option Entry) Refusal) → 0 < length bytes → told read ≡ told_of (read_record v bytes 0) → read ≡ Ok None → ⊥
unfolding read_of found refused_record
never_ended v bytes read some h e = go (seen v bytes)
  where
    nothing : read_record v bytes 0 ≡ record { reply = 0; found = [] }
    nothing = sym (read_is v bytes read h) ∙ ap read_of e

    go : Seen v bytes → ⊥
    go (here d) = omega (arith, ap (λ (x : Read). length x.found) (sym d.is ∙ nothing))
    go (over o) = omega (arith, some, o.none)
    go (refused f) = f.bad (ap (λ (x : Read). x.reply) (sym f.is ∙ nothing))

pub with_record-requires : goal.with_record-requires
with_record-requires c =
    let long : length c.args.self.held ≡ room = search rules in
    let all = length-take-le _ _ (within c.args.self.held c.args.self.count c.args.byte long (some-room _ c.passes.ensures c.if-not-passes.false)) in
    never_ended _ _ _ (omega (arith, all)) c.read_record-read.ensures

pub returns-then-self-eq-RECORDS : goal.returns-then-self-eq-RECORDS
returns-then-self-eq-RECORDS c = in-record _ _ c.passes.ensures c.if-not-passes.false _ c.if-self-eq-RECORDS.true c.read_record-read.ensures c.with_record.ensures

pub returns-else-self-eq-RECORDS : goal.returns-else-self-eq-RECORDS
unfolding step_of handed
returns-else-self-eq-RECORDS c =
    let most = there _ c.passes.ensures c.if-not-passes.false in
    after_all _ _ c.passes.ensures c.if-not-passes.false (omega (arith, most, c.if-self-eq-HEAD.false, c.if-self-eq-RECORDS.false))
