-- `gain_applier::each_channel` meets its contract, by the laws of the walk over what is done to a part. Assumes nothing.
use Rattle.std.proofs.Common.{drop, ◌≡◌, ◌*◌, List, length, Float, ℕ, zero, suc, ◌+◌, ◌-◌, ◌<◌, ◌≤◌, sym, ◌∙◌, arith, length-drop}
use Rattle.std.proofs.Math.Nat.{suc-mul}
use Rattle.std.proofs.Math.Seq.{length-take-le}
use Rattle.frames.specs.Walk.{lent, walk_begins, walk_goes_on, walk_ends, block_length}
use Rattle.gain_applier.proofs.each_channel.Goals as goal

-- while a part is left, there is room for it
room : (start left samples n : ℕ) → start + left * samples ≡ n → 0 < left → start + samples ≤ n
room start zero samples n e h = absurd (omega arith)
room start (suc left) samples n e h = omega (arith, suc-mul left samples)

-- and then one is left less
fewer : (start left less samples n : ℕ) → start + left * samples ≡ n → left ≡ suc less → start + samples + less * samples ≡ n
fewer start left less samples n e h = let k = rw h at e in omega (arith, suc-mul less samples)

-- a part that is lent has its size
size : (xs : List Float) (start samples : ℕ) → start + samples ≤ length xs → length (lent start (start + samples) xs) ≡ samples
size xs start samples h =
    let e : start + samples - start ≡ samples = omega arith in
    rw e (length-take-le samples (drop start xs) (rw length-drop (omega arith)))

pub loop-init : goal.loop-init
loop-init g c =
    let all : c.args.channels - 0 ≡ c.args.channels = omega arith in
    rw all (omega (arith, c.requires.shape), λ made does. walk_begins c.requires.shape)

pub overflow_add-end : goal.overflow_add-end
overflow_add-end g c = omega (arith, room c.loop.start (c.args.channels - c.loop.counter) c.args.samples (length c.loop.frame) c.loop.invariant.0 (omega arith))

pub offset_bounds-frame-start : goal.offset_bounds-frame-start
offset_bounds-frame-start g c = omega (arith, room c.loop.start (c.args.channels - c.loop.counter) c.args.samples (length c.loop.frame) c.loop.invariant.0 (omega arith))

pub slice_bounds-f-end : goal.slice_bounds-f-end
slice_bounds-f-end g c = room c.loop.start (c.args.channels - c.loop.counter) c.args.samples (length c.loop.frame) c.loop.invariant.0 (omega arith)

pub f-requires : goal.f-requires
f-requires g c =
    let fits = room c.loop.start (c.args.channels - c.loop.counter) c.args.samples (length c.loop.frame) c.loop.invariant.0 (omega arith) in
    c.requires.callable _ (size c.loop.frame c.loop.start c.args.samples fits)

pub loop-preserved : goal.loop-preserved
loop-preserved g c =
    let args = c.args in
    let loop = c.loop in
    let more : 0 < args.channels - loop.counter = omega arith in
    let one : args.channels - loop.counter ≡ suc (args.channels - (loop.counter + 1)) = omega arith in
    let fewer-left : args.channels - loop.counter - 1 ≡ args.channels - (loop.counter + 1) = omega arith in
    let fits = room loop.start (args.channels - loop.counter) args.samples (length loop.frame) loop.invariant.0 more in
    let long = block_length loop.frame c.f.new.arg2 loop.start (loop.start + args.samples - loop.start) (omega arith) c.f.auto.arg2 in (
      fewer loop.start (args.channels - loop.counter) (args.channels - (loop.counter + 1)) args.samples (length loop.frame) loop.invariant.0 one ∙ sym long,
      λ made does.
          rw fewer-left at (walk_goes_on (loop.invariant.1 made does) more (does _ _ (size loop.frame loop.start args.samples fits) c.f.ensures) c.f.auto.arg2),
    )

pub returns : goal.returns
returns g c = λ made does. walk_ends (c.loop.invariant.1 made does) (omega arith)
