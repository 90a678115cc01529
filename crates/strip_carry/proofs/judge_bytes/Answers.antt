-- `strip_carry::judge_bytes` meets its contract. The invariant: what the bytes from here on give is what the block gives. Assumes nothing.
use Rattle.std.proofs.Common.{◌≡◌, ℕ, ◌+◌, ◌<◌, ◌≤◌, List, [], length, get_or, drop, sym, refl, ap, ◌∙◌, arith, length-append, length-drop, drop_of_length-le}
use Rattle.strip_reader.specs.Reader.{Handed, step_of, handed, fed}
use Rattle.strip_reader.specs.Telling.{Ran, ran}
use Rattle.strip_reader.specs.declared.Reader.{Reader}
use Rattle.strip_reader.specs.declared.Step.{Step}
use Rattle.strip_carry.specs.declared.Tally.{Tally}
use Rattle.strip_carry.specs.declared.Line.{Line}
use Rattle.strip_carry.specs.declared.Run.{Run}
use Rattle.strip_carry.specs.Run.{told, longest, line_of, line_out, run_of}
use Rattle.strip_carry.specs.Laws.Room.{told_most}
use Rattle.strip_carry.proofs.Bytes.{next_byte}
use Rattle.strip_carry.proofs.judge_bytes.Goals as goal
use Rattle.strip_carry.proofs.judge_bytes.Invariants.{Going}

pub loop-byte-init : goal.loop-byte-init
loop-byte-init c = record { reader = refl; desk = refl; room = refl }

pub slice_bounds-tell-end : goal.slice_bounds-tell-end
slice_bounds-tell-end c = sym c.loop-byte.invariant.room

pub tell-line-requires : goal.tell-line-requires
tell-line-requires c =
    let l = c.loop-byte in
    omega (arith, told_most l.tally (handed c.take-step.result.got), l.invariant.room)

-- a line leaves the buffer as long as it was
as_long : (t : Tally) (h : Handed) (scratch scratch' : List ℕ) → length scratch ≡ longest → scratch' ≡ line_out (told t h) scratch → length scratch' ≡ length scratch
as_long t h scratch scratch' m e = ap length e ∙ rw (length-append, length-drop) (omega (arith, told_most t h))

-- one byte further
further : (block : List ℕ) (r₀ : Reader) (t₀ : Tally) (r : Reader) (t : Tally) (scratch scratch' : List ℕ) (i : ℕ) (s : Step) (line : Line) → Going block r₀ t₀ r t scratch i → i < length block
    → step_of s ≡ fed r (get_or block i 0) → line ≡ line_of (told t (handed s.got)) → length scratch' ≡ length scratch → Going block r₀ t₀ s.reader line.tally scratch' (i + 1)
further block r₀ t₀ r t scratch scratch' i s line g l h e m =
    let turn = next_byte block i r t s line l h e in
    record {
      reader = ap (λ (x : Ran Tally). x.reader) (sym turn) ∙ g.reader;
      desk = ap (λ (x : Ran Tally). x.desk) (sym turn) ∙ g.desk;
      room = m ∙ g.room;
    }

pub loop-byte-preserved : goal.loop-byte-preserved
loop-byte-preserved c =
    let l = c.loop-byte in
    let a = c.args in
    let tell = c.tell-line in
    let step = c.take-step in
    let inside = c.loop-byte-test.true in
    further a.block.now a.run.reader a.run.tally l.reader l.tally l.scratch _ l.byte-index step.result tell.result l.invariant inside step.ensures tell.ensures.value
    (as_long l.tally (handed step.result.got) l.scratch _ l.invariant.room tell.ensures.out_after)

-- all bytes
whole-block : (block : List ℕ) (r₀ : Reader) (t₀ : Tally) (r : Reader) (t : Tally) (scratch : List ℕ) (i place : ℕ) → Going block r₀ t₀ r t scratch i → length block ≤ i
    → ◌≡◌ {A = Run} (record { reader = r; tally = t; place = place }) (run_of place (ran told r₀ t₀ block))
unfolding ran
whole-block block r₀ t₀ r t scratch i place g l =
    let none : drop i block ≡ [] = drop_of_length-le block l in
    let reader : r ≡ (ran told r₀ t₀ block).reader = rw none at g.reader in
    let desk : t ≡ (ran told r₀ t₀ block).desk = rw none at g.desk in
    λ j. record { reader = reader j; tally = desk j; place = place }

pub returns : goal.returns
returns c =
    let l = c.loop-byte in
    let a = c.args in
    whole-block a.block.now a.run.reader a.run.tally l.reader l.tally l.scratch l.byte-index a.run.place l.invariant c.loop-byte-test.false
