-- One byte more of a block that is taken, and a whole block. Assumes nothing.
use Rattle.std.proofs.Common.{◌≡◌, ℕ, suc, ◌+◌, ◌<◌, List, [], ◌∷◌, ◌++◌, length, get_or, drop, sym, refl, ap, ◌∙◌, add-one, arith, drop-cons}
use Rattle.strip_reader.specs.Reader.{Fed, step_of, handed, fed}
use Rattle.strip_reader.specs.Telling.{Ran, ran, ended, taken}
use Rattle.strip_reader.specs.declared.Reader.{Reader}
use Rattle.strip_reader.specs.declared.Step.{Step}
use Rattle.strip_carry.specs.declared.Line.{Line}
use Rattle.strip_carry.specs.declared.Run.{Run}
use Rattle.strip_carry.specs.declared.Tally.{Tally}
use Rattle.strip_carry.specs.Run.{after, told, line_of, run_of, taken_run}

-- what the bytes from a place on give is what the byte there gives, and then those after it
pub next_byte : (block : List ℕ) (i : ℕ) (r : Reader) (t : Tally) (s : Step) (line : Line) → i < length block → step_of s ≡ fed r (get_or block i 0) → line ≡ line_of (told t (handed s.got))
    → ran told r t (drop i block)
    ≡ record {
      reader = (ran told s.reader line.tally (drop (i + 1) block)).reader;
      desk = (ran told s.reader line.tally (drop (i + 1) block)).desk;
      lines = (told t (handed s.got)).line ++ (ran told s.reader line.tally (drop (i + 1) block)).lines;
    }
unfolding ran step_of
next_byte block i r t s line l h e =
    let taken : Fed → Ran Tally =
    λ (x : Fed).
    record {
      reader = (ran told x.reader (told t x.got).desk (drop (suc i) block)).reader;
      desk = (ran told x.reader (told t x.got).desk (drop (suc i) block)).desk;
      lines = (told t x.got).line ++ (ran told x.reader (told t x.got).desk (drop (suc i) block)).lines;
    } in
    ap (ran told r t) (drop-cons block i 0 l) ∙ ap taken (sym h) ∙ rw (e, add-one i)

-- an empty block, and one that is not
module _ (r : Run) where
  pub at_end_lem : (block : List ℕ) → length block ≡ 0 → taken told r.reader r.tally block ≡ ended told r.reader r.tally
  unfolding taken
  at_end_lem [] h = refl
  at_end_lem (b ∷ bs) h = absurd (omega arith)

  pub in_bytes : (block : List ℕ) → (length block ≡ 0 → ⊥) → taken told r.reader r.tally block ≡ ran told r.reader r.tally block
  unfolding taken
  in_bytes [] h = absurd (h refl)
  in_bytes (b ∷ bs) h = refl

-- the run after it, with the place of the next one
pub taken_run_lem : (r : Run) (block : List ℕ) {x : Ran Tally} {last run : Run} {place : ℕ} → taken told r.reader r.tally block ≡ x → last ≡ run_of r.place x → place ≡ after r.place (length block)
    → run ≡ record { reader = last.reader; tally = last.tally; place = place } → run ≡ taken_run r block
unfolding taken_run
taken_run_lem r block e f w h = h ∙ rw (f, w, e)
