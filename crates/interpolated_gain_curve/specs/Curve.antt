-- The state of a curve, and what each call answers, refusals first. Definitions only.
use Rattle.std.specs.Prelude.{ℕ, ◌+◌, ◌-◌, ◌%◌, ◌^◌, Bool, true, false, cond, ◌&&◌, ℤ, pos, negsuc, ◌==◌, from_bits, nat_le, nat_lt, Float}
use Rattle.std.specs.Float.{binary32}
use Rattle.units.specs.Figures.{curve_level}
use Rattle.units.specs.Replies.{refusal}
use Rattle.interpolated_gain_curve.specs.Gain.{identity, knee, limiter, saturation, region_of, gain_of}
use Rattle.interpolated_gain_curve.specs.declared.Curve.{Curve}
use Rattle.interpolated_gain_curve.specs.declared.Looked.{Looked as Told}
use Rattle.interpolated_gain_curve.specs.declared.Region.{Region}
use Rattle.interpolated_gain_curve.specs.declared.Region.TheVariants as R

-- a reply's number, the curve that goes on from there, and the gain: 0 where it is refused
pub record Looked : Type 0 where
  pub reply : ℕ
  pub curve : Curve
  pub gain : Float

-- a reply's number, and the statistics: all 0 and false where they are refused
pub record Read : Type 0 where
  pub reply : ℕ
  pub stats : Curve

-- the number of each region
unfoldable pub number_of : Region → ℕ
number_of R.Identity = identity
number_of R.Knee = knee
number_of R.Limiter = limiter
number_of R.Saturation = saturation

-- a new curve, and what a refused call hands out: all 0, false and identity
unfoldable pub fresh : Curve
fresh = record { identity = 0; knee = 0; limiter = 0; saturation = 0; available = false; region = identity; duration = pos 0 }

-- "duration not negative"; a region is one of the four
unfoldable pub not_negative : ℤ → Bool
not_negative (pos n) = true
not_negative (negsuc n) = false

unfoldable pub passes : Curve → Bool
unfolding not_negative
passes c = nat_le c.region saturation && not_negative c.duration

-- "The four counts roll over to 0 after the largest 64-bit value."
unfoldable pub counted : Bool → ℕ → ℕ
counted here n = cond here ((n + 1) % 2 ^ 64) n

-- one longer, held at the largest value of an i64: a difference
unfoldable pub longer : ℤ → ℤ
longer (pos n) = pos (cond (nat_lt n (2 ^ 63 - 1)) (n + 1) n)
longer (negsuc n) = negsuc n

-- "Duration rises while the region repeats and becomes 0 at a change"
unfoldable pub lasting : ℕ → ℕ → ℤ → ℤ
unfolding longer
lasting now before duration = cond (now == before) (longer duration) (pos 0)

-- the state after a level in this region
unfoldable pub in_region : Curve → ℕ → Curve
unfolding counted lasting
in_region c now =
    record {
      identity = counted (now == identity) c.identity;
      knee = counted (now == knee) c.knee;
      limiter = counted (now == limiter) c.limiter;
      saturation = counted (now == saturation) c.saturation;
      available = true;
      region = now;
      duration = lasting now c.region c.duration;
    }

-- "curve level: 0 to 33554432": 4 for the state comes before 2 for the level
unfoldable pub looked : Curve → Float → Looked
unfolding refusal passes in_region region_of gain_of
looked c level =
    let ok = passes c && curve_level level in
    record {
      reply = refusal true (passes c) (curve_level level) true;
      curve = cond ok (in_region c (region_of level)) c;
      gain = cond ok (gain_of level) (from_bits binary32 0x0000_0000);
    }

-- what an accepted look-up hands out
abbrev pub told : Looked → Told
told l = record { curve = l.curve; gain = l.gain }

unfoldable pub read : Curve → Read
unfolding refusal passes fresh
read c = record { reply = refusal true (passes c) true true; stats = cond (passes c) c fresh }
