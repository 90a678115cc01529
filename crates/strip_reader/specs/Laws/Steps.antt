-- A block taken byte by byte, with how far it is: what the loop over a block keeps. Laws.
-- Assumes nothing.
use Rattle.std.specs.Prelude.{◌≡◌, refl, Bool, true, false, cond, List, [], ◌∷◌, ℕ, suc, ◌+◌}
use Rattle.std.proofs.Common.{sym, ap, zero-add, arith}
use Rattle.strip_reader.specs.Reader.{Handed, more, head, entry, end, refused, is_more, Fed, Taken, fed, before, next}
use Rattle.strip_reader.specs.declared.Reader.{Reader}

-- the same with so many bytes used before
counted : ℕ → Taken → Taken
counted used t = record { reader = t.reader; used = used + t.used; got = t.got }

-- so many bytes were used; where nothing came out yet the others follow
unfoldable pub onward : Bool → ℕ → Reader → Handed → List ℕ → Taken
unfolding next counted
onward waits used r got bytes = cond waits (counted used (next r bytes)) (record { reader = r; used = used; got = got })

pub onward_none : (r : Reader) (got : Handed) (bytes : List ℕ) → onward true 0 r got bytes ≡ next r bytes
unfolding onward counted
onward_none r got bytes = ap {B = Taken} (λ (n : ℕ). record { reader = (next r bytes).reader; used = n; got = (next r bytes).got }) (zero-add (next r bytes).used)

counted_before : (used : ℕ) (f : Fed) (t : Taken)
    → counted used (before f t) ≡ cond (is_more f.got) (counted (used + 1) t) (record { reader = f.reader; used = used + 1; got = f.got })
unfolding counted before
counted_before used f t = go (is_more f.got)
  where
    go : (b : Bool)
        → counted used (cond b (record { reader = t.reader; used = suc t.used; got = t.got }) (record { reader = f.reader; used = 1; got = f.got }))
        ≡ cond b (counted (used + 1) t) (record { reader = f.reader; used = used + 1; got = f.got })
    go true = ap {B = Taken} (λ (n : ℕ). record { reader = t.reader; used = n; got = t.got }) (omega arith)
    go false = refl

-- one byte more
pub onward_byte : (used : ℕ) (r : Reader) (got : Handed) (byte : ℕ) (bytes : List ℕ)
    → onward true used r got (byte ∷ bytes) ≡ onward (is_more (fed r byte).got) (used + 1) (fed r byte).reader (fed r byte).got bytes
unfolding onward next
onward_byte used r got byte bytes = counted_before used (fed r byte) (next (fed r byte).reader bytes)

-- what is more is nothing else
pub is_more_lem : (h : Handed) → is_more h ≡ true → h ≡ more
unfolding is_more
is_more_lem more e = refl
is_more_lem (head h) e = absurd (omega (arith, ap {B = ℕ} (λ (b : Bool). cond b 1 0) e))
is_more_lem (entry d) e = absurd (omega (arith, ap {B = ℕ} (λ (b : Bool). cond b 1 0) e))
is_more_lem end e = absurd (omega (arith, ap {B = ℕ} (λ (b : Bool). cond b 1 0) e))
is_more_lem (refused n) e = absurd (omega (arith, ap {B = ℕ} (λ (b : Bool). cond b 1 0) e))

-- at the block's end, and where something came out, it is what stands
pub onward_over : (waits : Bool) (used : ℕ) (r : Reader) (got : Handed) → waits ≡ is_more got → onward waits used r got [] ≡ record { reader = r; used = used; got = got }
unfolding onward next counted
onward_over true used r got e = rw (is_more_lem got (sym e)) (ap {B = Taken} (λ (n : ℕ). record { reader = r; used = n; got = more }) (omega arith))
onward_over false used r got e = refl
