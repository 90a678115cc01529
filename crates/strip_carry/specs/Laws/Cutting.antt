-- However a strip is cut into blocks, the same is put out and tallied: what the whole strip is carried to. Laws.
-- Assumes nothing.
use Rattle.std.specs.Prelude.{◌≡◌, ℕ, ◌+◌, ◌%◌, ◌^◌, ◌<◌, true, false, List, [], ◌∷◌, ◌++◌, length, ◌≢◌, refl}
use Rattle.std.proofs.Common.{sym, ap, ◌∙◌, zero-add, mod-eq_of_lt, arith, length-append}
use Rattle.std.proofs.Math.Path.{subst}
use borrow.Author.Tests.{eq-eqb, ne_eqb}
use Rattle.lists.specs.Each.{Each}
use Rattle.units.specs.Replies.{done}
use Rattle.strip_format.specs.Whole.{read_strip}
use Rattle.strip_format.specs.declared.Version.{Version}
use Rattle.strip_reader.specs.Reader.{Handed, begun, fresh_in, asked, fed, finished}
use Rattle.strip_reader.specs.Feeding.{whole, handed_out, handed_by}
use Rattle.strip_reader.specs.Telling as Telling
use Rattle.strip_reader.specs.Laws.Whole.{any_cutting}
use Rattle.strip_reader.specs.Laws.Telling.{blocks_tell, blocks_desk}
use Rattle.strip_reader.specs.declared.Reader.{Reader}
use Rattle.strip_carry.specs.Carry.{other, judged, carried_bytes}
use Rattle.strip_carry.specs.Run.{Size, Refused, Well, at_start, told, told_of, same, end_of, new, taken_run, taken_lines, taken_blocks, run_after}
use Rattle.strip_carry.specs.Laws.Tally.{quiet, judged_read, Tallied, tallied}
use Rattle.strip_carry.specs.declared.Tally.{Tally}
use Rattle.strip_carry.specs.declared.Run.{Run}

-- ---- a run is its reader and its tally, and how many bytes came
lines_are : (r : Run) (blocks : List (List ℕ)) → taken_blocks r blocks ≡ Telling.taken_blocks told r.reader r.tally blocks
unfolding taken_blocks taken_lines taken_run Telling.taken_blocks
lines_are r [] = refl
lines_are r (block ∷ blocks) = ap (λ (l : List ℕ). taken_lines r block ++ l) (lines_are (taken_run r block) blocks)

tally_is : (r : Run) (blocks : List (List ℕ)) → (run_after r blocks).tally ≡ Telling.desk_after told r.reader r.tally blocks
unfolding run_after taken_run Telling.desk_after
tally_is r [] = refl
tally_is r (block ∷ blocks) = tally_is (taken_run r block) blocks

-- However a strip is cut into blocks, of which none is empty, what is put out and tallied is what the whole strip is carried to.
pub any_cutting_carries : (v : Version) (blocks : List (List ℕ)) → Each (λ (block : List ℕ). 0 < length block) blocks → length (whole blocks) < 2 ^ 63
    → Tallied v (whole blocks) (run_after (new v) blocks).tally (taken_blocks (new v) blocks)
unfolding new fresh_in asked
any_cutting_carries v blocks some short =
    subst (λ (t : Tally). Tallied v (whole blocks) t (taken_blocks (new v) blocks)) (sym last)
    (subst (λ (l : List ℕ). Tallied v (whole blocks) (Telling.desk_of told (at_start (other v)) (handed_by (read_strip v (whole blocks)))) l) (sym lines)
    (tallied v (whole blocks) short))
  where
    out : handed_out (begun false v) blocks ≡ handed_by (read_strip v (whole blocks))
    out = any_cutting false v blocks

    last : (run_after (new v) blocks).tally ≡ Telling.desk_of told (at_start (other v)) (handed_by (read_strip v (whole blocks)))
    last = tally_is (new v) blocks ∙ blocks_desk told quiet (begun false v) (at_start (other v)) blocks some ∙ ap (Telling.desk_of told (at_start (other v))) out

    lines : taken_blocks (new v) blocks ≡ Telling.lines_of told (at_start (other v)) (handed_by (read_strip v (whole blocks)))
    lines = lines_are (new v) blocks ∙ blocks_tell told quiet (begun false v) (at_start (other v)) blocks some ∙ ap (Telling.lines_of told (at_start (other v))) out

-- ---- what is told after the first reading
module _ (v : Version) (blocks : List (List ℕ)) (some : Each (λ (block : List ℕ). 0 < length block) blocks) (short : length (whole blocks) < 2 ^ 63) where
  t : Tallied v (whole blocks) (run_after (new v) blocks).tally (taken_blocks (new v) blocks)
  t = any_cutting_carries v blocks some short

  -- "the tool says so before it writes": how many bytes the carried strip has,
  pub size_told : (judged v (whole blocks)).reply ≡ done → told_of (run_after (new v) blocks) true ≡ Size (length (carried_bytes v (whole blocks)))
  unfolding told_of
  size_told d = rw (t.over, t.reply, d, t.long d)

  -- and otherwise the refusal, with the record that it is about.
  pub refusal_told : ((judged v (whole blocks)).reply ≢ done)
      → told_of (run_after (new v) blocks) true ≡ Refused (judged v (whole blocks)).reply (judged v (whole blocks)).number
  unfolding told_of
  refusal_told n = rw (t.over, t.reply, t.at, ne_eqb (judged v (whole blocks)).reply done n)

-- ---- what is told after the second reading
-- Two readings of the same strip, which can be carried, end well, however each of them is cut.
pub well_ends : (v : Version) (strip : List ℕ) (first second : List (List ℕ)) → Each (λ (block : List ℕ). 0 < length block) first
    → Each (λ (block : List ℕ). 0 < length block) second → whole first ≡ strip → whole second ≡ strip → length strip < 2 ^ 63 → (judged v strip).reply ≡ done
    → end_of (run_after (new v) first) (run_after (new v) second) true true true ≡ Well
unfolding end_of same
well_ends v strip first second some more e f short d =
    rw (
      a.over,
      b.over,
      a.reply,
      b.reply,
      d,
      eq-eqb (run_after (new v) first).tally.threshold (run_after (new v) second).tally.threshold (a.threshold whole_read ∙ sym (b.threshold whole_read)),
      eq-eqb (run_after (new v) first).tally.number (run_after (new v) second).tally.number (a.number whole_read ∙ sym (b.number whole_read)),
      eq-eqb (run_after (new v) first).tally.length (run_after (new v) second).tally.length (a.long d ∙ sym (b.long d)),
    )
  where
    of : (blocks : List (List ℕ)) → Each (λ (block : List ℕ). 0 < length block) blocks → whole blocks ≡ strip
        → Tallied v strip (run_after (new v) blocks).tally (taken_blocks (new v) blocks)
    of blocks every g =
        subst (λ (s : List ℕ). Tallied v s (run_after (new v) blocks).tally (taken_blocks (new v) blocks)) g
        (any_cutting_carries v blocks every (subst (λ (s : List ℕ). length s < 2 ^ 63) (sym g) short))

    a : Tallied v strip (run_after (new v) first).tally (taken_blocks (new v) first)
    a = of first some e

    b : Tallied v strip (run_after (new v) second).tally (taken_blocks (new v) second)
    b = of second more f

    whole_read : (read_strip v strip).reply ≡ done
    whole_read = judged_read v strip d

-- ---- the place
place_after : (r : Run) (blocks : List (List ℕ)) → (run_after r blocks).place ≡ (r.place + length (whole blocks)) % 2 ^ 64
unfolding run_after taken_run whole
place_after r [] = refl
place_after r (block ∷ blocks) =
    place_after (taken_run r block) blocks ∙ rw (length-append block (whole blocks)) (sum r.place (length block) (length (whole blocks)))
  where
    sum : (p n k : ℕ) → ((p + n) % 2 ^ 64 + k) % 2 ^ 64 ≡ (p + (n + k)) % 2 ^ 64
    sum p n k = omega arith

-- The place is how many bytes came, modulo 2 ^ 64,
pub place_counts : (v : Version) (blocks : List (List ℕ)) → (run_after (new v) blocks).place ≡ length (whole blocks) % 2 ^ 64
unfolding new
place_counts v blocks = place_after (new v) blocks ∙ ap (λ (n : ℕ). n % 2 ^ 64) (zero-add (length (whole blocks)))

-- and just so many where they are fewer.
pub place_is : (v : Version) (blocks : List (List ℕ)) → length (whole blocks) < 2 ^ 64 → (run_after (new v) blocks).place ≡ length (whole blocks)
place_is v blocks h = place_counts v blocks ∙ mod-eq_of_lt h

-- ---- behind the end
module _ (t : Tally) (over : t.more ≡ false) where
  -- A tally whose strip has ended stays, whatever comes,
  pub over_stays : (h : Handed) → told t h ≡ Telling.unchanged t
  unfolding told
  over_stays h = rw over

  ran_over : (r : Reader) (bytes : List ℕ) → ((Telling.ran told r t bytes).desk ≡ t) × ((Telling.ran told r t bytes).lines ≡ [])
  unfolding Telling.ran
  ran_over r [] = (refl, refl)
  ran_over r (b ∷ bs) =
      subst
      (λ (x : Telling.Shown Tally). ((Telling.ran told (fed r b).reader x.desk bs).desk ≡ t) × (x.line ++ (Telling.ran told (fed r b).reader x.desk bs).lines ≡ []))
      (sym (over_stays (fed r b).got)) (ran_over (fed r b).reader bs)

  taken_over : (r : Reader) (block : List ℕ) → ((Telling.taken told r t block).desk ≡ t) × ((Telling.taken told r t block).lines ≡ [])
  unfolding Telling.taken Telling.ended
  taken_over r [] = rw (over_stays (finished r)) (refl, refl)
  taken_over r (b ∷ bs) = ran_over r (b ∷ bs)

-- and its run puts nothing out any more, whatever blocks come.
pub ended_stays : (r : Run) → r.tally.more ≡ false → (blocks : List (List ℕ)) → (taken_blocks r blocks ≡ []) × ((run_after r blocks).tally ≡ r.tally)
unfolding taken_blocks run_after taken_lines taken_run
ended_stays r over [] = ((taken_over r.tally over r.reader []).1, (taken_over r.tally over r.reader []).0)
ended_stays r over (block ∷ blocks) =
    let now = taken_over r.tally over r.reader block in
    let rest = ended_stays (taken_run r block) (ap (λ (t : Tally). t.more) now.0 ∙ over) blocks in
    (rw now.1 rest.0, rest.1 ∙ now.0)
