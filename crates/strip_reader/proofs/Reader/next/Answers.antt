-- `strip_reader::Reader::next` meets its contract. The invariant: nothing came out yet, and what was used, and what the bytes from here on give, are what
-- the block gives. Assumes nothing.
use Rattle.std.proofs.Common.{◌≡◌, refl, sym, ap, ◌∙◌, Bool, true, false, List, ℕ, suc, ◌+◌, ◌-◌, ◌≤◌, ◌<◌, length, get_or, take, drop, drop_of_length-le, drop-cons, length-drop, take_all, add-one, arith, leb, leb-true, leb-false}
use Rattle.std.specs.Prelude.{min}
use Rattle.strip_reader.specs.Reader.{more, handed, is_more, Fed, step_of, fed, Taken, next_of, next}
use Rattle.strip_reader.specs.Laws.Steps.{onward, onward_none, onward_byte, onward_over, is_more_lem}
use Rattle.strip_reader.specs.declared.Reader.{Reader}
use Rattle.strip_reader.specs.declared.Step.{Step}
use Rattle.strip_reader.proofs.Reader.next.Goals as goal

pub loop-byte-init : goal.loop-byte-init
loop-byte-init c = record { used = refl; gives = onward_none c.args.self more _ }

-- one byte more
module _ (rest : List ℕ) (i used : ℕ) (r : Reader) (s : Step) {whole : Taken} (d : ℕ) (l : i < length rest) (w : onward true used r more (drop i rest) ≡ whole)
    (f : step_of s ≡ fed r (get_or rest i d)) where
  turn : onward (is_more (handed s.got)) (used + 1) s.reader (handed s.got) (drop (i + 1) rest) ≡ whole
  unfolding step_of
  turn =
      rw (add-one i)
      (ap (λ (x : Fed). onward (is_more x.got) (used + 1) x.reader x.got (drop (suc i) rest)) f
      ∙ sym (onward_byte used r more (get_or rest i d) (drop (suc i) rest))
      ∙ ap (onward true used r more) (sym (drop-cons rest i d l))
      ∙ w)

  -- of which nothing came out,
  goes_on : is_more (handed s.got) ≡ true → onward true (used + 1) s.reader more (drop (i + 1) rest) ≡ whole
  goes_on m = rw (m, is_more_lem (handed s.got) m) at turn

  -- or something did
  came : is_more (handed s.got) ≡ false → record { reader = s.reader; used = used + 1; got = handed s.got } ≡ whole
  unfolding onward
  came m = rw m at turn

pub loop-byte-preserved : goal.loop-byte-preserved
loop-byte-preserved c =
    let l = c.loop-byte in
    record {
      used = omega arith;
      gives = goes_on _ l.byte-index l.used l.reader c.take-step.result _ c.loop-byte-test.true l.invariant.gives c.take-step.ensures (sym c.is_more.ensures ∙ c.if-not-is_more.false);
    }

-- the block from the place on
rest_is : (block : List ℕ) (at start : ℕ) → start ≡ min at (length block) → take (length block - start) (drop start block) ≡ drop at block
rest_is block at start e = take_all (length block - start) (drop start block) (rw length-drop (omega arith)) ∙ go (leb at (length block)) refl
  where
    go : (b : Bool) → leb at (length block) ≡ b → drop start block ≡ drop at block
    go true t = let same : start ≡ at = omega (arith, leb-true at (length block) t) in rw same
    go false t =
        let past : length block < at = leb-false at (length block) t in
        let end : length block ≤ start = omega arith in
        drop_of_length-le block end ∙ sym (drop_of_length-le block {i = at} (omega arith))

pub returns-then-not-is_more : goal.returns-then-not-is_more
unfolding next_of
returns-then-not-is_more c =
    let l = c.loop-byte in
    came _ l.byte-index l.used l.reader c.take-step.result _ c.loop-byte-test.true l.invariant.gives c.take-step.ensures (sym c.is_more.ensures ∙ c.if-not-is_more.true)
    ∙ ap (next c.args.self) (rest_is c.args.block.now c.args.at _ c.min-start.ensures)

-- where the bytes are used up nothing came out
used_up : (rest : List ℕ) (i used : ℕ) (r : Reader) {whole : Taken} → length rest ≤ i → onward true used r more (drop i rest) ≡ whole → record { reader = r; used = used; got = more } ≡ whole
unfolding is_more
used_up rest i used r l w = sym (onward_over true used r more refl) ∙ rw (drop_of_length-le rest l) at w

pub returns : goal.returns
unfolding next_of handed
returns c =
    let l = c.loop-byte in
    used_up _ l.byte-index l.used l.reader c.loop-byte-test.false l.invariant.gives ∙ ap (next c.args.self) (rest_is c.args.block.now c.args.at _ c.min-start.ensures)
