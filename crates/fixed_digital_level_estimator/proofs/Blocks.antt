-- Lanes that are raised by blocks of four and what is left, and by one channel after the other.
-- Assumes nothing.
use Rattle.std.proofs.Common.{◌≡◌, ℕ, zero, suc, ◌+◌, ◌-◌, ◌*◌, ◌%◌, ◌≤◌, ◌<◌, List, [], ◌∷◌, ◌++◌, refl, sym, ap, subst, ◌∙◌, arith, length, take, drop, append_assoc, append-nil, length-append, length-drop, drop-drop}
use Rattle.std.proofs.Math.Nat.{add_comm, suc-mul}
use Rattle.std.proofs.lemmas.List.{drop-append-le, take-append-le, drop_at}
use lib.Ieee.{Float}
use lib.ListN.{replicate}
use Rattle.lists.specs.Each.{Each, each_append}
use Rattle.rounding.specs.Loops.{Within}
use Rattle.floats.specs.Laws.Kinds.{nought}
use Rattle.fixed_digital_level_estimator.specs.Lanes.{Lanes, Real, Small, Signed, Below, Raised, bound, column}
use Rattle.fixed_digital_level_estimator.specs.Laws.Lanes.{halves, raised_none, raised_more, plain_zero, nought_units}

-- ---- the blocks of a sub-frame
-- what was passed, in whole blocks, has raised the lanes, and the rest is left
pub record Passed (l : Lanes) (part rest : List Float) (r : Lanes) : Type 0 where
  pub passed : List Float
  pub all : part ≡ passed ++ rest
  pub even : length passed % 4 ≡ 0
  pub raised : Raised l passed r

pub none_passed : (l : Lanes) (part : List Float) → Passed l part part l
none_passed l part = record { passed = []; all = refl; even = refl; raised = raised_none l }

pub one_passed : (l : Lanes) (part rest block left : List Float) (m r : Lanes) → Passed l part rest m → rest ≡ block ++ left → length block ≡ 4 → Raised m block r → Passed l part left r
one_passed l part rest block left m r p e n h =
    let k = length-append p.passed block in
    let even = p.even in
    record {
      passed = p.passed ++ block;
      all = p.all ∙ ap (λ (ys : List Float). p.passed ++ ys) e ∙ sym (append_assoc p.passed block left);
      even = omega arith;
      raised = raised_more l m r p.passed block p.raised h;
    }

-- at the end fewer than four are left: those after the whole blocks
pub blocks_end : (l : Lanes) (part rest : List Float) (r : Lanes) → Passed l part rest r → length rest < 4 → Passed l part (drop (length part - length part % 4) part) r
blocks_end l part rest r p h =
    let k = length-append p.passed rest in
    let e : length part ≡ length (p.passed ++ rest) = ap length p.all in
    let even = p.even in
    let n : length p.passed ≡ length part - length part % 4 = whole (length part) (length p.passed) (length rest) (e ∙ k) even h in
    subst (λ (ys : List Float). Passed l part ys r) (sym (ap (drop (length part - length part % 4)) p.all ∙ drop_at p.passed rest (length part - length part % 4) n)) p
  where
    whole : (n a b : ℕ) → n ≡ a + b → a % 4 ≡ 0 → b < 4 → a ≡ n - n % 4
    whole n a b e d h = omega arith

-- where none is left, the whole part has raised them
pub nothing_left : (l : Lanes) (part rest : List Float) (r : Lanes) → Passed l part rest r → length rest ≡ 0 → Raised l part r
nothing_left l part rest r p h =
    let none : rest ≡ [] = empty rest h in
    subst (λ (ys : List Float). Raised l ys r) (sym (p.all ∙ ap (λ (ys : List Float). p.passed ++ ys) none ∙ append-nil p.passed)) p.raised
  where
    empty : (xs : List Float) → length xs ≡ 0 → xs ≡ []
    empty [] h = refl
    empty (x ∷ xs) h = absurd (omega arith)

-- ---- zeros raise no lane
zeros_within : (n k : ℕ) → Each (Within n) (replicate k nought)
unfolding Each
zeros_within n zero = tt
zeros_within n (suc k) =
    let p = nought_units.0 in
    let q = nought_units.1 in
    (record { number = plain_zero.number; plus = omega arith; minus = omega arith }, zeros_within n k)

pub without_zeros : (l r : Lanes) (xs : List Float) (k : ℕ) → Raised l (xs ++ replicate k nought) r → Raised l xs r
without_zeros l r xs k h =
    record {
      small = λ (s : Small l) (e : Each (Within bound) xs). h.small s (each_append (Within bound) xs (replicate k nought) e (zeros_within bound k));
      before = h.before;
      found = λ (t : Real r) (g : Signed l).
          let f = h.found t g in
          record {
            signed = f.signed;
            up = λ (n : ℕ) (u : Below n l) (e : Each (Within n) xs). f.up n u (each_append (Within n) xs (replicate k nought) e (zeros_within n k));
            down = λ (n : ℕ) (u : Below n r). let d = f.down n u in (d.0, (halves (Within n) xs (replicate k nought) d.1).0);
          };
    }

-- what is left, filled up with zeros, has raised them too
pub last_block : (l m r : Lanes) (part rest : List Float) (k : ℕ) → Passed l part rest m → Raised m (rest ++ replicate k nought) r → Raised l part r
last_block l m r part rest k p h =
    subst (λ (ys : List Float). Raised l ys r) (sym p.all) (raised_more l m r p.passed rest p.raised (without_zeros m r rest k h))

-- ---- the channels of a frame
-- what the channels that are left make of the lanes, all channels make of those that came in
pub record Crossed (l : Lanes) (at c n s : ℕ) (frame rest : List Float) (r : Lanes) : Type 0 where
  pub left : ℕ
  pub size : length rest ≡ left * n
  pub raised : (q : Lanes) → Raised r (column left n s (drop at rest)) q → Raised l (column c n s (drop at frame)) q

pub none_crossed : (l : Lanes) (at c n s : ℕ) (frame : List Float) → length frame ≡ c * n → Crossed l at c n s frame frame l
none_crossed l at c n s frame e = record { left = c; size = e; raised = λ (q : Lanes) (h : Raised l (column c n s (drop at frame)) q). h }

pub one_crossed : (l : Lanes) (at c n s : ℕ) (frame rest channel next : List Float) (m r : Lanes) → at + s ≤ n → 0 < n → Crossed l at c n s frame rest m
    → rest ≡ channel ++ next → length channel ≡ n → Raised m (take (at + s - at) (drop at channel)) r → Crossed l at c n s frame next r
unfolding column
one_crossed l at c n s frame rest channel next m r inside some p e k h = go p.left p.size p.raised
  where
    total : length rest ≡ length channel + length next
    total = ap length e ∙ length-append channel next

    part_is : take (at + s - at) (drop at channel) ≡ take s (drop at rest)
    part_is =
        let size : at + s - at ≡ s = omega arith in
        let room : s ≤ length (drop at channel) = rw length-drop (omega arith) in
        rw (size, e, drop-append-le at channel next (omega arith)) (sym (take-append-le s (drop at channel) next room))

    rest_is : drop n (drop at rest) ≡ drop at next
    rest_is = drop-drop n at rest ∙ ap (λ (j : ℕ). drop j rest) (add_comm at n) ∙ sym (drop-drop at n rest) ∙ ap (drop at) (ap (drop n) e ∙ drop_at channel next n k)

    go : (j : ℕ) → length rest ≡ j * n → ((q : Lanes) → Raised m (column j n s (drop at rest)) q → Raised l (column c n s (drop at frame)) q) → Crossed l at c n s frame next r
    go zero size f = absurd (omega (arith, total))
    go (suc j) size f =
        let more = suc-mul j n in
        record {
          left = j;
          size = omega (arith, total);
          raised = λ (q : Lanes) (i : Raised r (column j n s (drop at next)) q).
              f q (raised_more m r q (take s (drop at rest)) (column j n s (drop n (drop at rest))) (subst (λ (ys : List Float). Raised m ys r) part_is h) (subst (λ (ys : List Float). Raised r (column j n s ys) q) (sym rest_is) i));
        }

pub all_crossed : (l : Lanes) (at c n s : ℕ) (frame rest : List Float) (r : Lanes) → Crossed l at c n s frame rest r → length rest < n → Raised l (column c n s (drop at frame)) r
unfolding column
all_crossed l at c n s frame rest r p h = go p.left p.size p.raised
  where
    go : (j : ℕ) → length rest ≡ j * n → ((q : Lanes) → Raised r (column j n s (drop at rest)) q → Raised l (column c n s (drop at frame)) q) → Raised l (column c n s (drop at frame)) r
    go zero size f = f r (raised_none r)
    go (suc j) size f = let more = suc-mul j n in absurd (omega arith)
