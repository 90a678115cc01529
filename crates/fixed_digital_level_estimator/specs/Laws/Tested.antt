-- A frame's samples are tested while its peaks are found: all are within the bound exactly where no peak is above it and each sum is a number.
-- Assumes nothing.
use Rattle.std.specs.Prelude.{◌≡◌, refl, Bool, true, false, ◌&&◌, List, [], ◌∷◌, ℕ, suc, ◌*◌, ◌≤◌, T, Float, length, drop}
use Rattle.std.proofs.Common.{le_trans, arith}
use Rattle.std.specs.Float.{nan, inf, fin, binary32}
use Rattle.std.specs.Float.Ieee.{fits, le}
use Rattle.std.specs.Float.Ieee.Fits.{and_i, and_l, and_r}
use Rattle.std.specs.Float.Ieee.Scale.{finite}
use Rattle.lists.specs.Each.{Each}
use Rattle.rounding.specs.Units.{P, Number}
use Rattle.rounding.specs.Loops.{Within}
use Rattle.rounding.specs.Laws.Order.{same_test, le→units, units→le}
use Rattle.floats.specs.Choice.{larger}
use Rattle.floats.specs.Kinds.{magnitude}
use Rattle.floats.specs.Laws.Kinds.{nought}
use Rattle.frames.specs.Samples.{largest_level, within, all_within}
use Rattle.fixed_digital_level_estimator.specs.Range.{Held}
use Rattle.fixed_digital_level_estimator.specs.Lanes.{Upper, Real, Small, Found, Raised, bound, most, peak, column}
use Rattle.fixed_digital_level_estimator.specs.Laws.Range.{end_units, high_number, sample_level}
use Rattle.fixed_digital_level_estimator.specs.Laws.Lanes.{Higher, higher, none_below, plain_zero, plain_magnitude, magnitude_under, magnitude_over, nought_units, started, started_signed, started_below, peak_plain, peak_under, peak_over}
use Rattle.fixed_digital_level_estimator.specs.Laws.Columns.{EachColumn, each_column, covered}
use Rattle.fixed_digital_level_estimator.specs.Lanes.{Lanes}

-- ---- a sample's test, in units
real_number : (x : Float) → T (fits binary32 x) → Number (magnitude x) → Number x
unfolding magnitude
real_number nan f h = absurd h.real
real_number (inf s) f h = absurd h.real
real_number (fin s m e) f h = record { real = tt; held = f }

sample_within : (x : Float) → T (fits binary32 x) → T (within largest_level x) → Within bound x
sample_within x f h =
    let l = sample_level x f (is_true (within largest_level x) h) in
    let b = l.below in
    let n = none_below x in
    magnitude_over bound x (real_number x f l.number) (omega arith)
  where
    is_true : (b : Bool) → T b → b ≡ true
    is_true true t = refl
    is_true false t = absurd t

within_sample : (x : Float) → Within bound x → T (within largest_level x)
unfolding within
within_sample x h =
    let u = magnitude_under bound x h in
    let n = none_below x in
    let m = end_units.2 in
    units→le (magnitude x) largest_level (plain_magnitude x h.number).number high_number (omega arith)

samples_within : (xs : List Float) → Held xs → T (all_within largest_level xs) → Each (Within bound) xs
unfolding all_within Each
samples_within [] f h = tt
samples_within (x ∷ xs) f h =
    let first = within largest_level x in
    let others = all_within largest_level xs in
    (sample_within x (f 0) (and_l first others h), samples_within xs (λ (i : ℕ). f (suc i)) (and_r first others h))

within_samples : (xs : List Float) → Each (Within bound) xs → T (all_within largest_level xs)
unfolding all_within Each
within_samples [] h = tt
within_samples (x ∷ xs) h = and_i (within largest_level x) (all_within largest_level xs) (within_sample x h.0) (within_samples xs h.1)

-- ---- what is known of a frame of c channels of n samples where the rest is left, j sub-frames of s samples of each channel, by the highest peak and the sums
pub record Tested (frame : List Float) (c n s j : ℕ) (rest : List Float) (highest : Float) (sums : Lanes) : Type 0 where
  pub upper : Real sums → Upper highest
  pub small : Each (Within bound) frame → Small sums × (P highest ≤ bound)
  pub seen : Real sums → P highest ≤ bound → EachColumn (Within bound) j c n s rest → Each (Within bound) frame

-- at the start
pub tested_start : (frame : List Float) (c n s j : ℕ) → n ≡ j * s → length frame ≡ c * n → Tested frame c n s j frame nought (started nought nought nought nought)
tested_start frame c n s j e l =
    let p = nought_units.0 in
    let m = nought_units.1 in
    let zero : Within most nought = record { number = plain_zero.number; plus = omega arith; minus = omega arith } in
    record {
      upper = λ (h : _). record { number = plain_zero.number; side = m };
      small = λ (h : _). (record { s = zero; t = zero; u = zero; v = zero }, omega arith);
      seen = λ (h : _) (i : _) (k : _). covered (Within bound) c j n s frame e l k;
    }

-- a sub-frame more, over all channels
module _ (frame : List Float) (c n s j : ℕ) (rest : List Float) (highest x y z w : Float) (r : Lanes) (known : Tested frame c n s (suc j) rest highest (started x y z w))
    (sound : Each (Within bound) frame → Each (Within bound) rest) (raised : Raised (started x y z w) (column c n s rest) r) where
  abbrev next : Lanes
  next = started r.s r.t r.u r.v

  abbrev start : Lanes
  start = started x y z w

  real : Real next → Real r
  real h = record { s = h.s; t = h.t; u = h.u; v = h.v }

  found : Real r → Found start (column c n s rest) r
  found h = raised.found h (started_signed x y z w)

  topped : Real r → Higher (peak r) highest (larger (peak r) highest)
  topped h = higher (peak r) highest (peak_plain r (found h).signed).number (known.upper (raised.before h))

  still_small : Each (Within bound) frame → Small next × (P (larger (peak r) highest) ≤ bound)
  still_small e =
      let k = known.small e in
      let all = each_column (Within bound) c n s rest (sound e) in
      let m = raised.small k.0 all in
      let h : Real r = record { s = m.s.number.real; t = m.t.number.real; u = m.u.number.real; v = m.v.number.real } in
      let f = found h in (
        record { s = m.s; t = m.t; u = m.u; v = m.v },
        (topped h).least bound (peak_under r f.signed bound (f.up bound (started_below bound x y z w) all)) k.1,
      )

  all_seen : Real r → P (larger (peak r) highest) ≤ bound → EachColumn (Within bound) j c n s (drop s rest) → Each (Within bound) frame
  unfolding EachColumn
  all_seen h i k =
      let t = topped h in
      let f = found h in
      known.seen (raised.before h) (le_trans t.second i) ((f.down bound (peak_over r f.signed bound (le_trans t.first i))).1, k)

  pub tested_next : Tested frame c n s j (drop s rest) (larger (peak r) highest) next
  tested_next =
      record {
        upper = λ (h : Real next). (topped (real h)).upper;
        small = still_small;
        seen = λ (h : Real next) (i : P (larger (peak r) highest) ≤ bound) (k : EachColumn (Within bound) j c n s (drop s rest)). all_seen (real h) i k;
      }

-- at the end
module _ (frame : List Float) (c n s : ℕ) (rest : List Float) (highest x y z w : Float) (known : Tested frame c n s 0 rest highest (started x y z w)) where
  abbrev test : Bool
  test = le highest largest_level && finite x && finite y && finite z && finite w

  pub test_real : T test → Real (started x y z w)
  test_real h =
      let h4 = and_l (le highest largest_level && finite x && finite y && finite z) (finite w) h in
      let h3 = and_l (le highest largest_level && finite x && finite y) (finite z) h4 in
      record {
        s = and_r (le highest largest_level) (finite x) (and_l (le highest largest_level && finite x) (finite y) h3);
        t = and_r (le highest largest_level && finite x) (finite y) h3;
        u = and_r (le highest largest_level && finite x && finite y) (finite z) h4;
        v = and_r (le highest largest_level && finite x && finite y && finite z) (finite w) h;
      }

  passes : T test → T (all_within largest_level frame)
  unfolding EachColumn
  passes h =
      let r = test_real h in
      let o = known.upper r in
      let h3 = and_l (le highest largest_level && finite x && finite y) (finite z) (and_l (le highest largest_level && finite x && finite y && finite z) (finite w) h) in
      let l = and_l (le highest largest_level) (finite x) (and_l (le highest largest_level && finite x) (finite y) h3) in
      let i = le→units highest largest_level o.number high_number l in
      let j = o.side in
      within_samples frame (known.seen r (omega arith) tt)

  passed_by_lem : Held frame → T (all_within largest_level frame) → T test
  passed_by_lem f h =
      let k = known.small (samples_within frame f h) in
      let m = k.0 in
      let o = known.upper (record { s = m.s.number.real; t = m.t.number.real; u = m.u.number.real; v = m.v.number.real }) in
      let i = k.1 in
      let j = o.side in
      let e = end_units.2 in
      let l = units→le highest largest_level o.number high_number (omega arith) in
      and_i (le highest largest_level && finite x && finite y && finite z) (finite w)
      (and_i (le highest largest_level && finite x && finite y) (finite z)
      (and_i (le highest largest_level && finite x) (finite y) (and_i (le highest largest_level) (finite x) l m.s.number.real) m.t.number.real) m.u.number.real)
      m.v.number.real

  -- the frame's samples are all within the bound exactly where the test passes
  pub tested : Held frame → test ≡ all_within largest_level frame
  tested f = same_test test (all_within largest_level frame) passes (passed_by_lem f)
