-- `strip_format::put_threshold` meets its contract, version by version. Assumes nothing.
use mathlib.Core.Path.{◌≡◌}
use mathlib.Core.List.{List, [], ◌∷◌, ◌++◌}
use Prim.Native.Nat.{ℕ, ◌+◌, ◌%◌, ◌≤◌}
use lib.ListN.{length, set, take, drop}
use lib.Seq.{sets-eq}
use Rattle.strip_format.specs.Fields.{big_endian}
use Rattle.strip_format.specs.Format.{threshold_bytes}
use Rattle.strip_format.specs.declared.Version.{Version}
use Rattle.strip_format.specs.declared.Version.TheVariants.{One, Two}
use Rattle.strip_format.proofs.put_threshold.Goals as goal

in_one : (l : List ℕ) (v : Version) (at n : ℕ) → v ≡ One → at + threshold_bytes v ≤ length l
    → set l at (n % 256) ≡ take at l ++ big_endian (threshold_bytes v) n ++ drop (at + threshold_bytes v) l
unfolding big_endian
in_one l v at n e h = rw e (sets-eq (n % 256 ∷ []) l at (rw e at h))

in_two : {o : List ℕ} (l : List ℕ) (v : Version) (at n : ℕ) → v ≡ Two → o ≡ take at l ++ big_endian 2 n ++ drop (at + 2) l
    → o ≡ take at l ++ big_endian (threshold_bytes v) n ++ drop (at + threshold_bytes v) l
in_two l v at n e h = rw e h

pub returns-in-One : goal.returns-in-One
returns-in-One c =
    in_one c.args.out.now c.args.version c.args.at c.args.threshold c.in-One.is c.requires

pub returns-in-Two : goal.returns-in-Two
returns-in-Two c =
    in_two c.args.out.now c.args.version c.args.at c.args.threshold c.in-Two.is c.put_two.ensures
