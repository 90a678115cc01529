-- `strip_run::Run::take` meets its contract. Assumes nothing.
use Rattle.std.proofs.Common.{◌≡◌, ℕ, ◌/◌, ◌<◌, ◌≤◌, List, [], ◌∷◌, ◌++◌, length, drop, refl, ◌∙◌, arith, le-ltb, lt-ltb}
use Rattle.std.proofs.lemmas.Grind.{common_steps}
use Rattle.std.specs.Prelude.{Ok, Err}
use Rattle.units.specs.Handed.{number_of}
use Rattle.units.specs.declared.refusals.Refusal.TheVariants as R
use Rattle.strip_lines.specs.Lines.{longest}
use Rattle.strip_reader.specs.Telling.{ran, ended, taken}
use Rattle.strip_run.specs.Lines.{told}
use Rattle.strip_run.specs.Run.{stopped, run_of, taken_lines, taken_run, taken_of, taken_told, out_of}
use Rattle.strip_run.specs.declared.Run.{Run}
use Rattle.strip_run.specs.declared.Taken.{Taken}
use Rattle.strip_run.proofs.Run.take.Goals as goal

-- a block that has room: an empty one, and one that is not
end_is : (r : Run) (block out : List ℕ) (t : Taken) (end : List ℕ) → length block < length out / longest → length block ≡ 0
    → t.run ≡ stopped (run_of (ended told r.reader r.desk)) → t.length ≡ length (ended told r.reader r.desk).lines
    → end ≡ (ended told r.reader r.desk).lines ++ drop (length (ended told r.reader r.desk).lines) out
    → (taken_told r (Ok t) ≡ taken_of r block (length out)) × (end ≡ out_of r block out)
unfolding taken_told taken_of out_of taken_run taken_lines taken
end_is r [] out t end l h p n q = (rw (lt-ltb 0 (length out / longest) l, p, n), q ∙ rw (lt-ltb 0 (length out / longest) l))
end_is r (b ∷ bs) out t end l h p n q = absurd (omega arith)

bytes-are : (r : Run) (block out : List ℕ) (t : Taken) (end : List ℕ) → length block < length out / longest → (length block ≡ 0 → ⊥)
    → t.run ≡ run_of (ran told r.reader r.desk block) → t.length ≡ length (ran told r.reader r.desk block).lines
    → end ≡ (ran told r.reader r.desk block).lines ++ drop (length (ran told r.reader r.desk block).lines) out
    → (taken_told r (Ok t) ≡ taken_of r block (length out)) × (end ≡ out_of r block out)
unfolding taken_told taken_of out_of taken_run taken_lines taken
bytes-are r [] out t end l h p n q = absurd (h refl)
bytes-are r (b ∷ bs) out t end l h p n q =
    let few = lt-ltb (length (b ∷ bs)) (length out / longest) l in
    (rw (few, p, n), q ∙ rw few)

-- a buffer without room
no_room : (r : Run) (block out : List ℕ) → length out / longest ≤ length block
    → (taken_told r (Err R.Room) ≡ taken_of r block (length out)) × (out ≡ out_of r block out)
unfolding taken_told number_of taken_of out_of
no_room r block out l = (rw (le-ltb (length block) (length out / longest) l), rw (le-ltb (length block) (length out / longest) l))

pub returns-then-block-out : goal.returns-then-block-out
returns-then-block-out c =
    let both = no_room c.args.self c.args.block.now c.args.out.now c.if-block-out.true in
    record { value = both.0; out_after = both.1 }

pub returns-then-last : goal.returns-then-last
returns-then-last c =
    let a = c.args in
    let end = c.finish in
    let none : length a.block.now ≡ 0 = grind (arith, common_steps) in
    let both = end_is a.self a.block.now a.out.now end.result _ c.if-block-out.false none end.ensures.run end.ensures.length end.ensures.out_after in
    record { value = both.0; out_after = both.1 }

pub returns-else-last : goal.returns-else-last
returns-else-last c =
    let a = c.args in
    let end = c.take_bytes in
    let some : length a.block.now ≡ 0 → ⊥ = λ (e : length a.block.now ≡ 0). grind (arith, common_steps) in
    let both = bytes-are a.self a.block.now a.out.now end.result _ c.if-block-out.false some end.ensures.run end.ensures.length end.ensures.out_after in
    record { value = both.0; out_after = both.1 }
