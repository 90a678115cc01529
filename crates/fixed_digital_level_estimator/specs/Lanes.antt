-- The largest magnitude as the estimator finds it: in four lanes, each over every fourth sample, and one sub-frame after the other, each over all channels.
-- A lane has the highest sample, the lowest and the sum: where a sample is a NaN or an infinity, its sum is no number any more.
-- The words of what its functions promise one another; Laws/Lanes.antt and Laws/Columns.antt say that this finds the same. Definitions only.
use Rattle.std.specs.Prelude.{List, [], ◌++◌, ◌≡◌, ℕ, zero, suc, ◌≤◌, T, Float, take, drop, get_or}
use Rattle.std.specs.Float.{nan, binary32}
use Rattle.std.specs.Float.Ieee.{of_bits, sub}
use Rattle.std.specs.Float.Ieee.Scale.{finite}
use Rattle.lists.specs.Each.{Each}
use Rattle.rounding.specs.Units.{P, N, Number}
use Rattle.rounding.specs.Loops.{Within}
use Rattle.floats.specs.Choice.{larger, smaller}
use Rattle.floats.specs.Kinds.{magnitude}
use Rattle.floats.specs.Laws.Kinds.{nought}
use Rattle.frames.specs.Samples.{largest_level}
use Rattle.fixed_digital_level_estimator.specs.declared.lanes.Lanes.{Lanes as Vectors}

-- the highest samples a to d, the lowest e to h, and the sums s to v
pub record Lanes : Type 0 where
  pub a : Float
  pub b : Float
  pub c : Float
  pub d : Float
  pub e : Float
  pub f : Float
  pub g : Float
  pub h : Float
  pub s : Float
  pub t : Float
  pub u : Float
  pub v : Float

-- the lanes of the three vectors that the code has
abbrev pub lanes_of : Vectors → Lanes
lanes_of l =
    record {
      a = get_or l.high 0 nan;
      b = get_or l.high 1 nan;
      c = get_or l.high 2 nan;
      d = get_or l.high 3 nan;
      e = get_or l.low 0 nan;
      f = get_or l.low 1 nan;
      g = get_or l.low 2 nan;
      h = get_or l.low 3 nan;
      s = get_or l.sum 0 nan;
      t = get_or l.sum 1 nan;
      u = get_or l.sum 2 nan;
      v = get_or l.sum 3 nan;
    }

-- before any sample of a sub-frame nothing is found, and the sums go on
abbrev pub starting : List Float → Lanes
starting sum =
    record {
      a = nought;
      b = nought;
      c = nought;
      d = nought;
      e = nought;
      f = nought;
      g = nought;
      h = nought;
      s = get_or sum 0 nan;
      t = get_or sum 1 nan;
      u = get_or sum 2 nan;
      v = get_or sum 3 nan;
    }

-- a number that is a magnitude: it is no -0
pub record Plain (x : Float) : Type 0 where
  pub number : Number x
  pub same : magnitude x ≡ x

-- a number that is not below zero
pub record Upper (x : Float) : Type 0 where
  pub number : Number x
  pub side : N x ≡ 0

-- a number that is not above zero
pub record Lower (x : Float) : Type 0 where
  pub number : Number x
  pub side : P x ≡ 0

-- the highest samples are not below zero, and the lowest not above
pub record Signed (l : Lanes) : Type 0 where
  pub a : Upper l.a
  pub b : Upper l.b
  pub c : Upper l.c
  pub d : Upper l.d
  pub e : Lower l.e
  pub f : Lower l.f
  pub g : Lower l.g
  pub h : Lower l.h

-- none of them is more than n units from zero
pub record Below (n : ℕ) (l : Lanes) : Type 0 where
  pub a : P l.a ≤ n
  pub b : P l.b ≤ n
  pub c : P l.c ≤ n
  pub d : P l.d ≤ n
  pub e : N l.e ≤ n
  pub f : N l.f ≤ n
  pub g : N l.g ≤ n
  pub h : N l.h ≤ n

-- each sum is a number
pub record Real (l : Lanes) : Type 0 where
  pub s : T (finite l.s)
  pub t : T (finite l.t)
  pub u : T (finite l.u)
  pub v : T (finite l.v)

-- the units of the bound of a sample, and those of 2 ^ 50: no number of such samples has a larger sum
abbrev pub bound : ℕ
bound = P largest_level

abbrev pub most : ℕ
most = P (of_bits binary32 0x5880_0000)

-- each sum is within these
pub record Small (l : Lanes) : Type 0 where
  pub s : Within most l.s
  pub t : Within most l.t
  pub u : Within most l.u
  pub v : Within most l.v

-- the largest magnitude that the lanes found
unfoldable pub peak : Lanes → Float
unfolding larger smaller
peak l = larger (sub binary32 nought (smaller (smaller (smaller l.e l.f) l.g) l.h)) (larger (larger (larger l.a l.b) l.c) l.d)

-- the lanes r have found what the lanes l had found, and the samples xs, and nothing else
pub record Found (l : Lanes) (xs : List Float) (r : Lanes) : Type 0 where
  pub signed : Signed r
  pub up : (n : ℕ) → Below n l → Each (Within n) xs → Below n r
  pub down : (n : ℕ) → Below n r → Below n l × Each (Within n) xs

-- the lanes r are what samples make of the lanes l, whatever the samples are
pub record Raised (l : Lanes) (xs : List Float) (r : Lanes) : Type 0 where
  pub small : Small l → Each (Within bound) xs → Small r
  pub before : Real r → Real l
  pub found : Real r → Signed l → Found l xs r

-- the first s samples of each channel of n, over c channels
unfoldable pub column : ℕ → ℕ → ℕ → List Float → List Float
column zero n s xs = []
column (suc c) n s xs = take s xs ++ column c n s (drop n xs)
