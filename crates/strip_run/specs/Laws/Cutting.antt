-- What a run prints over blocks is what the whole strip prints, however it is cut, and so is its reply. Laws.
-- Assumes nothing.
use Rattle.std.specs.Prelude.{◌≡◌, ℕ, ◌<◌, Bool, true, false, cond, List, [], ◌∷◌, ◌++◌, length, refl}
use Rattle.std.proofs.Common.{ap, ◌∙◌, arith}
use Rattle.lists.specs.Each.{Each}
use Rattle.strip_format.specs.declared.Version.TheVariants.{One}
use Rattle.strip_reader.specs.Reader.{Handed, more, asked, fresh}
use Rattle.strip_reader.specs.Feeding.{whole, handed_out}
use Rattle.strip_reader.specs.Telling as Telling
use Rattle.strip_reader.specs.Telling.{unchanged, lines_of, desk_of}
use Rattle.strip_reader.specs.Laws.Whole.{any_cutting}
use Rattle.strip_reader.specs.Laws.Telling.{blocks_tell, blocks_desk, lines_still, desk_still}
use Rattle.strip_run.specs.Lines.{at_start, shown, told, lines, reply_of}
use Rattle.strip_run.specs.Run.{new, taken_lines, taken_run, taken_blocks, run_after}
use Rattle.strip_run.specs.declared.Desk.{Desk}
use Rattle.strip_run.specs.declared.Run.{Run}

-- Nothing yet changes nothing.
told_more : (d : Desk) → told d more ≡ unchanged d
unfolding told shown
told_more d = go d.more
  where
    go : (b : Bool) → cond b (unchanged d) (unchanged d) ≡ unchanged d
    go true = refl
    go false = refl

-- ---- a run is its reader and its desk
blocks_print : (r : Run) (blocks : List (List ℕ)) → Each (λ (block : List ℕ). 0 < length block) blocks
    → taken_blocks r blocks ≡ Telling.taken_blocks told r.reader r.desk blocks
unfolding taken_blocks taken_lines taken_run Telling.taken_blocks Each
blocks_print r [] some = refl
blocks_print r ([] ∷ blocks) some = absurd (omega (arith, some.0))
blocks_print r ((b ∷ bs) ∷ blocks) some = ap (λ (l : List ℕ). taken_lines r (b ∷ bs) ++ l) (blocks_print (taken_run r (b ∷ bs)) blocks some.1)

blocks_reply : (r : Run) (blocks : List (List ℕ)) → Each (λ (block : List ℕ). 0 < length block) blocks
    → (run_after r blocks).desk.reply ≡ (Telling.desk_after told r.reader r.desk blocks).reply
unfolding run_after taken_run Telling.desk_after Each
blocks_reply r [] some = refl
blocks_reply r ([] ∷ blocks) some = absurd (omega (arith, some.0))
blocks_reply r ((b ∷ bs) ∷ blocks) some = blocks_reply (taken_run r (b ∷ bs)) blocks some.1

-- Whatever the cutting into blocks, the lines are those of the whole strip.
pub any_cutting_prints : (capacity : ℕ) (blocks : List (List ℕ)) → Each (λ (block : List ℕ). 0 < length block) blocks
    → taken_blocks (new capacity) blocks ≡ lines capacity (whole blocks)
unfolding new fresh asked lines
any_cutting_prints capacity blocks some =
    let start = at_start capacity in
    blocks_print (new capacity) blocks some ∙ blocks_tell told told_more fresh start blocks some ∙ ap (lines_of told start) (any_cutting true One blocks)

-- And so is the reply.
pub any_cutting_replies : (capacity : ℕ) (blocks : List (List ℕ)) → Each (λ (block : List ℕ). 0 < length block) blocks
    → (run_after (new capacity) blocks).desk.reply ≡ reply_of capacity (whole blocks)
unfolding new fresh asked reply_of
any_cutting_replies capacity blocks some =
    let start = at_start capacity in
    blocks_reply (new capacity) blocks some
    ∙ ap (λ (d : Desk). d.reply) (blocks_desk told told_more fresh start blocks some ∙ ap (desk_of told start) (any_cutting true One blocks))

-- ---- a run that has ended may stop there: whatever comes after it prints nothing, and leaves the reply
told_over : (d : Desk) → d.more ≡ false → (h : Handed) → told d h ≡ unchanged d
unfolding told
told_over d e h = rw e

pub ended_stays : (r : Run) (blocks : List (List ℕ)) → Each (λ (block : List ℕ). 0 < length block) blocks → r.desk.more ≡ false
    → (taken_blocks r blocks ≡ []) × ((run_after r blocks).desk.reply ≡ r.desk.reply)
ended_stays r blocks some e =
    let d = r.desk in
    let still = told_over d e in (
      blocks_print r blocks some ∙ blocks_tell told told_more r.reader d blocks some ∙ lines_still told d still (handed_out r.reader blocks),
      blocks_reply r blocks some
          ∙ ap (λ (x : Desk). x.reply) (blocks_desk told told_more r.reader d blocks some ∙ desk_still told d still (handed_out r.reader blocks)),
    )
