-- `strip_carry::Run::take` meets its contract. Assumes nothing.
use Rattle.std.proofs.Common.{◌≡◌, ℕ, ◌/◌, ◌<◌, ◌≤◌, List, ◌++◌, length, drop, refl, sym, ap, ◌∙◌, le-ltb, lt-ltb, eqb-true}
use borrow.Author.Tests.{eqb-false}
use Rattle.units.specs.Handed.{number_of}
use Rattle.strip_reader.specs.Telling.{Ran, ran, taken}
use Rattle.strip_carry.specs.declared.Tally.{Tally}
use Rattle.strip_carry.specs.declared.Run.{Run}
use Rattle.strip_carry.specs.Run.{Taken, after, told, longest, run_of, taken_run, taken_lines, taken_of, out_of}
use Rattle.strip_carry.specs.Laws.Room.{ended_empty, ran_fits}
use Rattle.strip_carry.proofs.Bytes.{at_end_lem, in_bytes, taken_run_lem}
use Rattle.strip_carry.proofs.Run.take.Goals as goal

pub take_bytes-taken-requires : goal.take_bytes-taken-requires
take_bytes-taken-requires c =
    let a = c.args in
    ran_fits a.self.reader a.self.tally a.block.now (length a.out.now) c.if-room-block.false

-- what a block puts out
lines_are : (r : Run) (block : List ℕ) {x : Ran Tally} → taken told r.reader r.tally block ≡ x → taken_lines r block ≡ x.lines
unfolding taken_lines
lines_are r block e = ap (λ (y : Ran Tally). y.lines) e

-- the answer of a block that has room
answer-is : (r : Run) (block out : List ℕ) {lines : List ℕ} {run : Run} {n : ℕ} {end : List ℕ} → length block < length out / longest → taken_lines r block ≡ lines → run ≡ taken_run r block
    → n ≡ length lines → end ≡ lines ++ drop (length lines) out
    → (◌≡◌ {A = Taken} (record { reply = 0; run = run; length = n }) (taken_of r block (length out))) × (end ≡ out_of r block out)
unfolding taken_of out_of
answer-is r block out l e f m o = (rw (lt-ltb (length block) (length out / longest) l, e, f, m), o ∙ rw (lt-ltb (length block) (length out / longest) l, e))

pub returns-then-is_empty : goal.returns-then-is_empty
returns-then-is_empty c =
    let a = c.args in
    let r = a.self in
    let block = a.block.now in
    let none = eqb-true (length block) 0 (sym c.is_empty.ensures ∙ c.if-is_empty.true) in
    let e = at_end_lem r block none in
    let both = answer-is r block a.out.now c.if-room-block.false (lines_are r block e ∙ ended_empty r.reader r.tally)
    (taken_run_lem r block e c.finish-run.ensures refl refl) refl refl in
    record { value = both.0; out_after = both.1 }

-- where its bytes were taken
bytes-taken : (r : Run) (block out : List ℕ) {last run : Run} {n place : ℕ} {end : List ℕ} → length block < length out / longest → (length block ≡ 0 → ⊥)
    → last ≡ run_of r.place (ran told r.reader r.tally block) → n ≡ length (ran told r.reader r.tally block).lines
    → place ≡ after r.place (length block) → run ≡ record { reader = last.reader; tally = last.tally; place = place }
    → end ≡ (ran told r.reader r.tally block).lines ++ drop (length (ran told r.reader r.tally block).lines) out
    → (◌≡◌ {A = Taken} (record { reply = 0; run = run; length = n }) (taken_of r block (length out))) × (end ≡ out_of r block out)
bytes-taken r block out l n b m w p o =
    let e = in_bytes r block n in
    answer-is r block out l (lines_are r block e) (taken_run_lem r block e b w p) m o

pub returns : goal.returns
returns c =
    let a = c.args in
    let block = a.block.now in
    let bytes = c.take_bytes-taken in
    let some = eqb-false (length block) 0 (sym c.is_empty.ensures ∙ c.if-is_empty.false) in
    let both = bytes-taken a.self block a.out.now c.if-room-block.false some bytes.ensures.run_after bytes.ensures.put_out refl refl bytes.ensures.out_after in
    record { value = both.0; out_after = both.1 }

-- a buffer without room
no_room : (r : Run) (block out : List ℕ) → length out / longest ≤ length block
    → (record { reply = 8; run = r; length = 0 } ≡ taken_of r block (length out)) × (out ≡ out_of r block out)
unfolding taken_of out_of
no_room r block out l = (rw (le-ltb (length block) (length out / longest) l), rw (le-ltb (length block) (length out / longest) l))

pub returns-then-room-block : goal.returns-then-room-block
unfolding number_of
returns-then-room-block c =
    let a = c.args in
    let both = no_room a.self a.block.now a.out.now c.if-room-block.true in
    record { value = both.0; out_after = both.1 }
