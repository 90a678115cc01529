-- `strip_carry::take_bytes` meets its contract. The invariant: what was put, and what the bytes from here on put out, is what the block puts out, and it
-- has room. Assumes nothing.
use Rattle.std.proofs.Common.{◌≡◌, ℕ, ◌+◌, ◌-◌, ◌<◌, ◌≤◌, List, [], ◌++◌, length, get_or, take, drop, sym, refl, ap, ◌∙◌, append_assoc, append-nil, arith, length-append, length-drop, take-append-drop, drop_of_length-le, length-take-le, take_all, drop-drop, take_at, drop_at}
use borrow.Rule.Slice.PartMut.{put_mid}
use Rattle.strip_reader.specs.Reader.{Handed, step_of, handed, fed}
use Rattle.strip_reader.specs.Telling.{Ran, ran}
use Rattle.strip_reader.specs.declared.Reader.{Reader}
use Rattle.strip_reader.specs.declared.Step.{Step}
use Rattle.strip_carry.specs.declared.Tally.{Tally}
use Rattle.strip_carry.specs.declared.Line.{Line}
use Rattle.strip_carry.specs.declared.Run.{Run}
use Rattle.strip_carry.specs.Run.{told, line_of, line_out, run_of}
use Rattle.strip_carry.proofs.Bytes.{next_byte}
use Rattle.strip_carry.proofs.take_bytes.Goals as goal
use Rattle.strip_carry.proofs.take_bytes.Invariants.{Going}

pub loop-byte-init : goal.loop-byte-init
loop-byte-init c = record { lines = refl; reader = refl; desk = refl; rest = refl; same = refl; most = omega arith }

-- there is room for what one more byte puts out
room : (block out₀ : List ℕ) (r₀ : Reader) (t₀ : Tally) (out : List ℕ) (r : Reader) (t : Tally) (n i : ℕ) (s : Step) → Going block out₀ r₀ t₀ out r t n i → i < length block
    → length (ran told r₀ t₀ block).lines ≤ length out₀ → step_of s ≡ fed r (get_or block i 0) → n + length (told t (handed s.got)).line ≤ length out
room block out₀ r₀ t₀ out r t n i s g l pre h =
    let line = line_of (told t (handed s.got)) in
    let bytes = (told t (handed s.got)).line in
    let others = (ran told s.reader line.tally (drop (i + 1) block)).lines in
    let turn = ap (λ (x : Ran Tally). length x.lines) (next_byte block i r t s line l h refl) in
    let all = ap length g.lines in
    omega (
      arith,
      turn,
      all,
      length-append bytes others,
      length-append (take n out) (ran told r t (drop i block)).lines,
      length-take-le n out g.most,
      g.same,
    )

-- all from a place on
part-whole : (out : List ℕ) (n : ℕ) → n ≤ length out → take (length out - n) (drop n out) ≡ drop n out
part-whole out n h = take_all (length out - n) (drop n out) (rw length-drop (omega arith))

-- a line that was put behind those before
after_line : (out : List ℕ) (n : ℕ) (line ys : List ℕ) → n ≤ length out → n + length line ≤ length out → ys ≡ line ++ drop (length line) (take (length out - n) (drop n out))
    → put_mid n (length out - n) out ys ≡ (take n out ++ line) ++ drop (n + length line) out
after_line out n line ys h l e =
    let none : drop (length out - n) (drop n out) ≡ [] = drop_of_length-le (drop n out) {i = length out - n} (rw length-drop (omega arith)) in
    ap (λ (x : List ℕ). take n out ++ x) (ap (λ (x : List ℕ). ys ++ x) none ∙ append-nil ys ∙ e ∙ rw (part-whole out n h, drop-drop (length line) n out))
    ∙ sym (append_assoc (take n out) line (drop (n + length line) out))

pub slice_bounds-tell-count : goal.slice_bounds-tell-count
slice_bounds-tell-count c = omega (arith, c.loop-byte.invariant.most)

pub slice_bounds-tell-start : goal.slice_bounds-tell-start
slice_bounds-tell-start c = omega (arith, c.loop-byte.invariant.most)

pub tell-line-requires : goal.tell-line-requires
tell-line-requires c =
    let l = c.loop-byte in
    let a = c.args in
    let step = c.take-step in
    let space = room a.block.now a.out.now a.run.reader a.run.tally l.out l.reader l.tally l.length l.byte-index step.result l.invariant
    c.loop-byte-test.true c.requires step.ensures in
    rw (part-whole l.out l.length l.invariant.most, length-drop) (omega arith)

-- how long a line is
long : (t : Tally) (h : Handed) (line : Line) → line ≡ line_of (told t h) → line.length ≡ length (told t h).line
long t h line e = ap (λ (x : Line). x.length) e

pub overflow_add-length : goal.overflow_add-length
overflow_add-length c =
    let l = c.loop-byte in
    let a = c.args in
    let tell = c.tell-line in
    let step = c.take-step in
    let space = room a.block.now a.out.now a.run.reader a.run.tally l.out l.reader l.tally l.length l.byte-index step.result l.invariant
    c.loop-byte-test.true c.requires step.ensures in
    let few = long l.tally (handed step.result.got) tell.result tell.ensures.value in
    omega (arith, l.invariant.same, c.well_formed.1.1.0.0)

-- one byte further
further : (block out₀ : List ℕ) (r₀ : Reader) (t₀ : Tally) (out : List ℕ) (r : Reader) (t : Tally) (n i : ℕ) (s : Step) (line : Line) (ys : List ℕ) → Going block out₀ r₀ t₀ out r t n i
    → i < length block → length (ran told r₀ t₀ block).lines ≤ length out₀ → step_of s ≡ fed r (get_or block i 0) → line ≡ line_of (told t (handed s.got))
    → ys ≡ line_out (told t (handed s.got)) (take (length out - n) (drop n out))
    → Going block out₀ r₀ t₀ (put_mid n (length out - n) out ys) s.reader line.tally (n + line.length) (i + 1)
further block out₀ r₀ t₀ out r t n i s line ys g l pre h e f =
    let bytes = (told t (handed s.got)).line in
    let size : line.length ≡ length bytes = long t (handed s.got) line e in
    let space = room block out₀ r₀ t₀ out r t n i s g l pre h in
    let end = after_line out n bytes ys g.most space f in
    let put : length (take n out ++ bytes) ≡ n + line.length = rw (length-append, length-take-le n out g.most) (omega arith) in
    let turn = next_byte block i r t s line l h e in
    let as_long : length (put_mid n (length out - n) out ys) ≡ length out = ap length end ∙ rw (length-append, put, length-drop) (omega arith) in
    record {
      lines =
          ap (λ (xs : List ℕ). xs ++ (ran told s.reader line.tally (drop (i + 1) block)).lines)
          (ap (take (n + line.length)) end ∙ take_at (take n out ++ bytes) (drop (n + length bytes) out) (n + line.length) put)
          ∙ append_assoc (take n out) bytes (ran told s.reader line.tally (drop (i + 1) block)).lines
          ∙ ap (λ (x : Ran Tally). take n out ++ x.lines) (sym turn)
          ∙ g.lines;
      reader = ap (λ (x : Ran Tally). x.reader) (sym turn) ∙ g.reader;
      desk = ap (λ (x : Ran Tally). x.desk) (sym turn) ∙ g.desk;
      rest =
          ap (drop (n + line.length)) end
          ∙ drop_at (take n out ++ bytes) (drop (n + length bytes) out) (n + line.length) put
          ∙ sym (drop-drop (length bytes) n out)
          ∙ ap (drop (length bytes)) g.rest
          ∙ drop-drop (length bytes) n out₀
          ∙ ap (λ (m : ℕ). drop (n + m) out₀) (sym size);
      same = as_long ∙ g.same;
      most = omega arith;
    }

pub loop-byte-preserved : goal.loop-byte-preserved
loop-byte-preserved c =
    let l = c.loop-byte in
    let a = c.args in
    let tell = c.tell-line in
    let step = c.take-step in
    let inside = c.loop-byte-test.true in
    further a.block.now a.out.now a.run.reader a.run.tally l.out l.reader l.tally l.length l.byte-index step.result tell.result _ l.invariant inside c.requires step.ensures
    tell.ensures.value tell.ensures.out_after

pub shape_of-out : goal.shape_of-out
shape_of-out c = c.loop-byte.invariant.same

-- all bytes
whole-block : (block out₀ : List ℕ) (r₀ : Reader) (t₀ : Tally) (out : List ℕ) (r : Reader) (t : Tally) (n i place : ℕ) → Going block out₀ r₀ t₀ out r t n i → length block ≤ i
    → (◌≡◌ {A = Run} (record { reader = r; tally = t; place = place }) (run_of place (ran told r₀ t₀ block)))
    × (n ≡ length (ran told r₀ t₀ block).lines)
    × (out ≡ (ran told r₀ t₀ block).lines ++ drop (length (ran told r₀ t₀ block).lines) out₀)
unfolding ran
whole-block block out₀ r₀ t₀ out r t n i place g l =
    let none : drop i block ≡ [] = drop_of_length-le block l in
    let put : take n out ≡ (ran told r₀ t₀ block).lines = sym (append-nil (take n out)) ∙ (rw none at g.lines) in
    let reader : r ≡ (ran told r₀ t₀ block).reader = rw none at g.reader in
    let desk : t ≡ (ran told r₀ t₀ block).desk = rw none at g.desk in
    let size : n ≡ length (ran told r₀ t₀ block).lines = sym (length-take-le n out g.most) ∙ ap length put in (
      λ j. record { reader = reader j; tally = desk j; place = place },
      size,
      sym (take-append-drop n out) ∙ ap (λ (xs : List ℕ). xs ++ drop n out) put ∙ ap (λ (xs : List ℕ). (ran told r₀ t₀ block).lines ++ xs) (g.rest ∙ ap (λ (m : ℕ). drop m out₀) size),
    )

pub returns : goal.returns
returns c =
    let l = c.loop-byte in
    let a = c.args in
    let both = whole-block a.block.now a.out.now a.run.reader a.run.tally l.out l.reader l.tally l.length l.byte-index a.run.place l.invariant c.loop-byte-test.false in
    record { run_after = both.0; put_out = both.1; out_after = both.2 }
