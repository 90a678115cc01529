-- A line that is put into a buffer: where it fits, and where it does not.
-- Assumes nothing.
use Rattle.std.specs.Prelude.{◌≡◌, refl, Bool, true, false, cond, List, ◌++◌, ℕ, ◌≤◌, ◌<◌, T, eqb, length, drop, Result, Ok, Err}
use Rattle.std.proofs.Common.{eqb→eq, le-leb}
use Rattle.std.proofs.lemmas.Bool.{lt-leb}
use Rattle.std.proofs.Math.Dec.{not_T}
use Rattle.std.specs.Float.Ieee.Bits.{is_false}
use Rattle.units.specs.Replies.{done}
use Rattle.units.specs.Handed.{refusal_of, handed}
use Rattle.units.specs.Output.{Put, put}
use Rattle.units.specs.declared.refusals.Refusal.{Refusal}
use Rattle.units.specs.declared.refusals.Refusal.TheVariants as R
use Rattle.strip_lines.specs.Calls.{line_of, handed_line}

-- ---- as it is handed out: the length of a line is told where it is put
pub length_told : (p : Put) (line : List ℕ) → handed_line p line ≡ handed p.reply (length line)
unfolding line_of handed
length_told p line = go (eqb p.reply done)
  where
    go : (b : Bool) → ◌≡◌ {A = Result ℕ Refusal} (cond b (Ok (cond b (length line) 0)) (Err (refusal_of p.reply))) (cond b (Ok (length line)) (Err (refusal_of p.reply)))
    go true = refl
    go false = refl

-- a line that fits is put whole, and of one that does not no byte is
pub fitting : (line out : List ℕ) → length line ≤ length out
    → (handed (put done line out).reply (length line) ≡ Ok (length line)) × ((put done line out).out ≡ line ++ drop (length line) out)
unfolding put handed
fitting line out h = rw (le-leb (length line) (length out) h) (refl, refl)

pub too_long : (line out : List ℕ) → length out < length line
    → (handed (put done line out).reply (length line) ≡ Err R.Room) × ((put done line out).out ≡ out)
unfolding put handed refusal_of
too_long line out h = rw (lt-leb (length line) (length out) h) (refl, refl)

-- ---- and where something else refuses it
is_refused : (n : ℕ) → (n ≡ done → ⊥) → eqb n done ≡ false
is_refused n h = is_false (eqb n done) (not_T (eqb n done) (λ (t : T (eqb n done)). h (eqb→eq n done t)))

pub put_refused : (n : ℕ) (line out : List ℕ) → (n ≡ done → ⊥) → put n line out ≡ record { reply = n; out = out }
unfolding put
put_refused n line out h = rw (is_refused n h, is_refused n h)

pub line_refused : (n : ℕ) (line out : List ℕ) → (n ≡ done → ⊥) → line_of (put n line out) line ≡ record { reply = n; length = 0 }
unfolding line_of
line_refused n line out h = rw (put_refused n line out h, is_refused n h)

-- as it is handed out
pub refused_line : (n : ℕ) (line out : List ℕ) → (n ≡ done → ⊥) → (handed n 0 ≡ handed_line (put n line out) line) × (out ≡ (put n line out).out)
refused_line n line out some = (rw (line_refused n line out some), rw (put_refused n line out some))
