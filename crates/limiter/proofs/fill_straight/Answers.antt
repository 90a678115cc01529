-- `limiter::fill_straight` meets its contract: the line, whose step is the same where the samples are 24. Assumes nothing.
use mathlib.Core.Path.{◌≡◌, refl, sym, ap, ap₂, ◌∙◌}
use mathlib.Core.List.{List, ◌++◌, append-nil}
use Prim.Native.Nat.{ℕ}
use native.Mathlib.Nat.{le_of_eq}
use lib.Ieee.{Float, binary32, of_bits, of_int, sub, div}
use lib.ListN.{length, take, drop, drop_of_length-le}
use lib.Seq.{take_all, length-take-le}
use Rattle.limiter.specs.Factors.{whole, line, straight}
use native.Mathlib.Omega.{arith}
use Rattle.limiter.proofs.fill_straight.Goals as goal

twenty-four : whole 24 ≡ of_bits binary32 0x41c0_0000
unfolding of_int of_bits
twenty-four = refl

as-many-as-24 : (part ys : List Float) (start end : Float) → length part ≡ 24
    → ys ≡ line start (div binary32 (sub binary32 end start) (of_bits binary32 0x41c0_0000)) 0 (length (take 24 part)) → ys ++ drop 24 part ≡ straight (length part) start end
unfolding straight
as-many-as-24 part ys start end h e =
    rw (drop_of_length-le part (le_of_eq h), append-nil)
    (e
    ∙ ap₂ (λ (w : Float) (n : ℕ). line start (div binary32 (sub binary32 end start) w) 0 n) (sym twenty-four ∙ ap (λ (n : ℕ). whole n) (sym h))
    (ap length (take_all 24 part (le_of_eq h))))

pub slice_bounds-fill_line-end-then-part-eq24 : goal.slice_bounds-fill_line-end-then-part-eq24
slice_bounds-fill_line-end-then-part-eq24 c = sym (length-take-le 24 c.args.part.now (omega arith))

pub fill_line-requires : goal.fill_line-requires
fill_line-requires c = rw (length-take-le 24 c.args.part.now (omega arith)) (omega arith)

pub returns-then-part-eq24 : goal.returns-then-part-eq24
returns-then-part-eq24 c =
    let args = c.args in
    as-many-as-24 args.part.now c.fill_line.new.part args.start args.end (omega arith) c.fill_line.ensures

pub returns-else-part-eq24 : goal.returns-else-part-eq24
unfolding straight
returns-else-part-eq24 c = c.fill_line-else-part-eq24.ensures
