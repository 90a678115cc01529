-- `limiter::channel_factors` meets its contract: the start of the array is what was filled. Assumes nothing.
use mathlib.Core.Path.{◌≡◌, refl, sym, ◌∙◌}
use mathlib.Core.List.{List}
use Prim.Native.Nat.{ℕ, ◌≤◌}
use native.Mathlib.Omega.{arith}
use lib.ListN.{length, take, length-take}
use lib.Seq.{take_at}
use lib.Ieee.{Float}
use Rattle.limiter.proofs.channel_factors.Goals as goal

start-long : (n : ℕ) (xs : List Float) → n ≤ 480 → length xs ≡ 480 → length (take n xs) ≡ n
start-long n xs h l = let t = length-take n xs in omega arith

pub slice_bounds-fill_factors-end : goal.slice_bounds-fill_factors-end
slice_bounds-fill_factors-end c = sym (start-long c.args.samples _ (omega (arith, c.requires.0, c.requires.1)) refl)

pub fill_factors-requires : goal.fill_factors-requires
fill_factors-requires c = (start-long c.args.samples _ (omega (arith, c.requires.0, c.requires.1)) refl ∙ c.requires.0, c.requires.1)

pub returns : goal.returns
returns c =
    let a = c in
    let made = c.fill_factors in
    take_at made.new.by _ a.args.samples (made.auto.by ∙ start-long a.args.samples _ (omega (arith, a.requires.0, a.requires.1)) refl) ∙ made.ensures
