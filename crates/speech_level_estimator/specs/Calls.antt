-- What each call of the estimator answers, refusals first. Definitions only.
use Rattle.std.specs.Prelude.{ℕ, Bool, true, cond, ◌&&◌, from_bits, Float}
use Rattle.std.specs.Float.{binary32}
use Rattle.units.specs.Figures.{probability, rms}
use Rattle.units.specs.Replies.{refusal}
use Rattle.units.specs.Settings.{accepted, threshold}
use Rattle.units.specs.declared.kinds.Dbfs.{Dbfs}
use Rattle.units.specs.declared.settings.Settings.{Settings}
use Rattle.speech_level_estimator.specs.Estimator.{starting_level, passes, nothing, fresh, updated, interrupted}
use Rattle.speech_level_estimator.specs.declared.Estimator.{Estimator}

-- a reply's number, and the estimator that goes on from there: the one that came in where it is refused, and all 0 and false where it is a new one
pub record Next : Type 0 where
  pub reply : ℕ
  pub estimator : Estimator

-- a reply's number, and the published level: 0 where it is refused
pub record Level : Type 0 where
  pub reply : ℕ
  pub level : Dbfs

-- a reply's number, and whether the level is trusted: not, where it is refused
pub record Confidence : Type 0 where
  pub reply : ℕ
  pub confident : Bool

-- a new estimator: 4 where a setting or the threshold is out of range
unfoldable pub made : Settings → ℕ → Next
unfolding refusal accepted fresh nothing starting_level
made settings t =
    let ok = accepted settings && threshold t in
    record { reply = refusal true ok true true; estimator = cond ok (fresh settings t (starting_level settings)) nothing }

-- a frame's figures are in their ranges
abbrev pub figures : Float → Float → Bool
figures level p = rms level && probability p

-- a frame: 4 for the state comes before 2 for the figures, and a refused frame changes nothing
unfoldable pub stepped : Estimator → Float → Float → Next
unfolding refusal passes updated
stepped e level p =
    record {
      reply = refusal true (passes e) (figures level p) true;
      estimator = cond (passes e && figures level p) (updated e level p) e;
    }

-- a gap: it has no figures, so it is refused for the state alone
unfoldable pub gap : Estimator → Next
unfolding refusal passes interrupted
gap e = record { reply = refusal true (passes e) true true; estimator = cond (passes e) (interrupted e) e }

unfoldable pub restarted : Estimator → Next
unfolding refusal passes fresh
restarted e = record { reply = refusal true (passes e) true true; estimator = cond (passes e) (fresh e.settings e.threshold e.initial) e }

unfoldable pub level_told : Estimator → Level
unfolding refusal passes
level_told e = record { reply = refusal true (passes e) true true; level = record { 0 = cond (passes e) e.level (from_bits binary32 0x0000_0000) } }

unfoldable pub confidence_told : Estimator → Confidence
unfolding refusal passes
confidence_told e = record { reply = refusal true (passes e) true true; confident = passes e && e.confident }
