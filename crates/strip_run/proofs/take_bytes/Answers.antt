-- `strip_run::take_bytes` meets its contract. The invariant: the lines that were put, and those of the bytes from here on, are those of the block.
-- Assumes nothing.
use Rattle.std.proofs.Common.{◌≡◌, ℕ, suc, ◌+◌, ◌-◌, ◌*◌, ◌/◌, ◌<◌, ◌≤◌, List, [], ◌++◌, length, get_or, take, drop, sym, refl, ap, ◌∙◌, append_assoc, append-nil, add-one, arith, length-append, length-drop, take-append-drop, drop_of_length-le, length-take-le, take_all, drop-cons, drop-drop, take_at, drop_at}
use borrow.Rule.Slice.PartMut.{put_mid}
use Rattle.strip_lines.specs.Lines.{longest}
use Rattle.strip_reader.specs.Reader.{Handed, Fed, step_of, handed, fed}
use Rattle.strip_reader.specs.declared.Step.{Step}
use Rattle.strip_reader.specs.Telling.{Ran, ran}
use Rattle.strip_run.specs.Lines.{told}
use Rattle.strip_run.specs.Run.{run_of, line_of, line_out}
use Rattle.strip_run.specs.Laws.Room.{told_most}
use Rattle.strip_run.specs.declared.Desk.{Desk}
use Rattle.strip_run.specs.declared.Line.{Line}
use Rattle.strip_run.specs.declared.Run.{Run}
use Rattle.strip_run.proofs.take_bytes.Goals as goal
use Rattle.strip_run.proofs.take_bytes.Invariants.{Going, ran_by}

pub loop-byte-init : goal.loop-byte-init
loop-byte-init c = record { lines = refl; run = refl; rest = refl; same = refl; most = omega arith; within = omega arith }

-- there is room for one more line
room : (b m n i o : ℕ) → n ≤ longest * i → i < b → b < m / longest → o ≡ m → n + longest ≤ o
room b m n i o h l k e = omega arith

-- all from a place on
part-whole : (out : List ℕ) (n : ℕ) → n ≤ length out → take (length out - n) (drop n out) ≡ drop n out
part-whole out n h = take_all (length out - n) (drop n out) (rw length-drop (omega arith))

-- a line that was put behind those before
after_line : (out : List ℕ) (n : ℕ) (line ys : List ℕ) → n ≤ length out → n + length line ≤ length out → ys ≡ line ++ drop (length line) (take (length out - n) (drop n out))
    → put_mid n (length out - n) out ys ≡ (take n out ++ line) ++ drop (n + length line) out
after_line out n line ys h l e =
    let none : drop (length out - n) (drop n out) ≡ [] = drop_of_length-le (drop n out) {i = length out - n} (rw length-drop (omega arith)) in
    ap (λ (x : List ℕ). take n out ++ x) (ap (λ (x : List ℕ). ys ++ x) none ∙ append-nil ys ∙ e ∙ rw (part-whole out n h, drop-drop (length line) n out))
    ∙ sym (append_assoc (take n out) line (drop (n + length line) out))

-- one byte more
next-byte : (block : List ℕ) (i d : ℕ) (r : Run) (s : Step) (line : Line) → i < length block → step_of s ≡ fed r.reader (get_or block i d) → line ≡ line_of (told r.desk (handed s.got))
    → ran_by r (drop i block)
    ≡ record {
      reader = (ran told s.reader line.desk (drop (i + 1) block)).reader;
      desk = (ran told s.reader line.desk (drop (i + 1) block)).desk;
      lines = (told r.desk (handed s.got)).line ++ (ran told s.reader line.desk (drop (i + 1) block)).lines;
    }
unfolding ran step_of
next-byte block i d r s line l h e =
    let taken : Fed → Ran Desk =
    λ (x : Fed).
    let rest = ran told x.reader (told r.desk x.got).desk (drop (suc i) block) in
    record { reader = rest.reader; desk = rest.desk; lines = (told r.desk x.got).line ++ rest.lines } in
    ap (ran_by r) (drop-cons block i d l) ∙ ap taken (sym h) ∙ rw (e, add-one i)

pub slice_bounds-tell-count : goal.slice_bounds-tell-count
slice_bounds-tell-count c =
    let l = c.loop-byte in
    omega (arith, room (length c.args.block.now) (length c.args.out.now) l.length l.byte-index (length l.out) l.invariant.most c.loop-byte-test.true c.requires l.invariant.same)

pub slice_bounds-tell-start : goal.slice_bounds-tell-start
slice_bounds-tell-start c =
    let l = c.loop-byte in
    omega (arith, room (length c.args.block.now) (length c.args.out.now) l.length l.byte-index (length l.out) l.invariant.most c.loop-byte-test.true c.requires l.invariant.same)

pub tell-line-requires : goal.tell-line-requires
tell-line-requires c =
    let l = c.loop-byte in
    let space = room (length c.args.block.now) (length c.args.out.now) l.length l.byte-index (length l.out) l.invariant.most c.loop-byte-test.true c.requires l.invariant.same in
    rw (part-whole l.out l.length (omega arith), length-drop) (omega arith)

-- the line has room
short : (d : Desk) (h : Handed) (line : Line) → line ≡ line_of (told d h) → line.length ≤ longest
short d h line e = rw e (told_most d h)

pub overflow_add-length : goal.overflow_add-length
overflow_add-length c =
    let l = c.loop-byte in
    let tell = c.tell-line in
    let space = room (length c.args.block.now) (length c.args.out.now) l.length l.byte-index (length l.out) l.invariant.most
    c.loop-byte-test.true c.requires l.invariant.same in
    omega (arith, short l.desk (handed c.take-step.result.got) tell.result tell.ensures.value)

-- one byte further
further : (block out₀ : List ℕ) (r₀ : Run) (out : List ℕ) (r : Run) (n i d : ℕ) (s : Step) (line : Line) (ys : List ℕ) → Going block out₀ r₀ out r n i → i < length block → length block < length out₀ / longest
    → step_of s ≡ fed r.reader (get_or block i d) → line ≡ line_of (told r.desk (handed s.got))
    → ys ≡ line_out (told r.desk (handed s.got)) (take (length out - n) (drop n out))
    → Going block out₀ r₀ (put_mid n (length out - n) out ys) (record { reader = s.reader; desk = line.desk }) (n + line.length) (i + 1)
further block out₀ r₀ out r n i d s line ys g l pre h e f =
    let bytes = (told r.desk (handed s.got)).line in
    let long : line.length ≡ length bytes = ap (λ (x : Line). x.length) e in
    let few = told_most r.desk (handed s.got) in
    let space = room (length block) (length out₀) n i (length out) g.most l pre g.same in
    let end = after_line out n bytes ys (omega arith) (omega arith) f in
    let put : length (take n out ++ bytes) ≡ n + line.length = rw (length-append, length-take-le n out (omega arith)) (omega arith) in
    let turn = next-byte block i d r s line l h e in
    record {
      lines =
          ap (λ (xs : List ℕ). xs ++ (ran told s.reader line.desk (drop (i + 1) block)).lines)
          (ap (take (n + line.length)) end ∙ take_at (take n out ++ bytes) (drop (n + length bytes) out) (n + line.length) put)
          ∙ append_assoc (take n out) bytes (ran told s.reader line.desk (drop (i + 1) block)).lines
          ∙ ap (λ (x : Ran Desk). take n out ++ x.lines) (sym turn)
          ∙ g.lines;
      run = ap run_of (sym turn) ∙ g.run;
      rest =
          ap (drop (n + line.length)) end
          ∙ drop_at (take n out ++ bytes) (drop (n + length bytes) out) (n + line.length) put
          ∙ sym (drop-drop (length bytes) n out)
          ∙ ap (drop (length bytes)) g.rest
          ∙ drop-drop (length bytes) n out₀
          ∙ ap (λ (m : ℕ). drop (n + m) out₀) (sym long);
      same = ap length end ∙ rw (length-append, put, length-drop) (omega (arith, g.same));
      most = omega (arith, g.most);
      within = omega arith;
    }

pub loop-byte-preserved : goal.loop-byte-preserved
loop-byte-preserved c =
    let l = c.loop-byte in
    let tell = c.tell-line in
    let step = c.take-step in
    let inside = c.loop-byte-test.true in
    further c.args.block.now c.args.out.now c.args.run l.out (record { reader = l.reader; desk = l.desk }) l.length l.byte-index _ step.result tell.result _ l.invariant inside c.requires
    step.ensures tell.ensures.value tell.ensures.out_after

pub shape_of-out : goal.shape_of-out
shape_of-out c = c.loop-byte.invariant.same

-- all bytes
whole-block : (block out₀ : List ℕ) (r₀ : Run) (out : List ℕ) (r : Run) (n i : ℕ) → Going block out₀ r₀ out r n i → length block ≤ i → length block < length out₀ / longest
    → (r ≡ run_of (ran_by r₀ block)) × (n ≡ length (ran_by r₀ block).lines) × (out ≡ (ran_by r₀ block).lines ++ drop (length (ran_by r₀ block).lines) out₀)
unfolding ran
whole-block block out₀ r₀ out r n i g l pre =
    let none : drop i block ≡ [] = drop_of_length-le block l in
    let within : n ≤ length out = omega (arith, g.most, g.same, g.within) in
    let put : take n out ≡ (ran_by r₀ block).lines = sym (append-nil (take n out)) ∙ (rw none at g.lines) in
    let long : n ≡ length (ran_by r₀ block).lines = sym (length-take-le n out within) ∙ ap length put in (
      rw none at g.run,
      long,
      sym (take-append-drop n out) ∙ ap (λ (xs : List ℕ). xs ++ drop n out) put ∙ ap (λ (xs : List ℕ). (ran_by r₀ block).lines ++ xs) (g.rest ∙ ap (λ (m : ℕ). drop m out₀) long),
    )

pub returns : goal.returns
returns c =
    let l = c.loop-byte in
    let a = c.args in
    let is = whole-block a.block.now a.out.now a.run l.out (record { reader = l.reader; desk = l.desk }) l.length l.byte-index l.invariant c.loop-byte-test.false c.requires in
    record { run = is.0; length = is.1; out_after = is.2 }
