-- What is drawn from a block of a strip. Laws.
-- Assumes nothing.
use Rattle.std.specs.Prelude.{◌≡◌, ℕ, suc, ◌+◌, ◌≤◌, Bool, List, [], ◌∷◌, length, take, drop}
use Rattle.std.proofs.Common.{ap, arith}
use Rattle.chain.specs.Laws.Frames.{either}
use Rattle.strip_reader.specs.Reader.{handed, is_more, Fed, Taken, next_of, fed, before, next}
use Rattle.strip_reader.specs.declared.Reader.{Reader}
use Rattle.strip_reader.specs.declared.Next.{Next}
use Rattle.recording_run.specs.Strip.{drawn_of, drawn_from}
use Rattle.recording_run.specs.declared.strip.Source.{Source}

-- ---- no more bytes are used than there are
before_used : (f : Fed) (t : Taken) (n : ℕ) → t.used ≤ n → (before f t).used ≤ suc n
unfolding before
before_used f t n h = either (λ (x : Taken). x.used ≤ suc n) (is_more f.got) (omega arith) (omega arith)

used_of : (r : Reader) (bytes : List ℕ) → (next r bytes).used ≤ length bytes
unfolding next
used_of r [] = omega arith
used_of r (b ∷ bs) = before_used (fed r b) (next (fed r b).reader bs) (length bs) (used_of (fed r b).reader bs)

pub used_within : (r : Reader) (bytes : List ℕ) (n : Next) → next_of n ≡ next r bytes → n.used ≤ length bytes
unfolding next_of
used_within r bytes n h = rw (ap (λ (t : Taken). t.used) h) (used_of r bytes)

-- ---- what a reader answers on the bytes that are filled is what is drawn
pub drawn_is : (source : Source) (block : List ℕ) (m : ℕ) (n : Next) (more : Bool)
    → take m block ≡ take source.n block → next_of n ≡ next source.reader (drop source.at (take m block)) → more ≡ is_more (handed n.got)
    → drawn_of (record { source = record { reader = n.reader; at = source.at + n.used; n = source.n }; got = n.got; more = more }) ≡ drawn_from source block
unfolding drawn_of drawn_from next_of
drawn_is source block m n more e h g = rw (← e, ← h, g)
