-- What each call of the protector answers, refusals first. Definitions only.
use Rattle.std.specs.Prelude.{Bool, true, ◌&&◌, cond, ℕ, Float}
use Rattle.std.specs.Float.{binary32}
use Rattle.std.specs.Float.Ieee.{of_bits}
use Rattle.units.specs.Figures.{probability, level, headroom}
use Rattle.units.specs.Replies.{refusal}
use Rattle.units.specs.Settings.{threshold}
use Rattle.units.specs.declared.kinds.Db.{Db}
use Rattle.saturation_protector_buffer.specs.Ring.{is_capacity}
use Rattle.saturation_protector.specs.Protector.{passes, nothing, fresh, again, analyzed, interrupted}
use Rattle.saturation_protector.specs.declared.Protector.{Protector}

-- a reply's number, and the protector that goes on from there: the one that came in where it is refused, and all 0 where it is a new one
pub record Next : Type 0 where
  pub reply : ℕ
  pub protector : Protector

-- a reply's number, and the published headroom: 0 where it is refused
pub record Headroom : Type 0 where
  pub reply : ℕ
  pub headroom : Db

-- a new protector: 4 for the threshold and for the ring's capacity comes before 2 for the initial headroom
unfoldable pub made : Float → ℕ → ℕ → Next
unfolding refusal is_capacity fresh nothing
made initial t capacity =
    let setting = threshold t && is_capacity capacity in
    record {
      reply = refusal true setting (headroom initial) true;
      protector = cond (setting && headroom initial) (fresh initial t capacity) nothing;
    }

-- a frame's figures are in their ranges
abbrev pub figures : Float → Float → Float → Bool
figures p peak speech_level = probability p && level peak && level speech_level

-- a frame: 4 for the state comes before 2 for the figures, and a refused frame changes nothing
unfoldable pub stepped : Protector → Float → Float → Float → Next
unfolding refusal passes analyzed
stepped s p peak speech_level =
    record {
      reply = refusal true (passes s) (figures p peak speech_level) true;
      protector = cond (passes s && figures p peak speech_level) (analyzed s p peak speech_level) s;
    }

-- a gap: it has no figures, so it is refused for the state alone
unfoldable pub gap : Protector → Next
unfolding refusal passes interrupted
gap s = record { reply = refusal true (passes s) true true; protector = cond (passes s) (interrupted s) s }

unfoldable pub reset : Protector → Next
unfolding refusal passes again
reset s = record { reply = refusal true (passes s) true true; protector = cond (passes s) (again s) s }

unfoldable pub told : Protector → Headroom
unfolding refusal passes
told s = record { reply = refusal true (passes s) true true; headroom = record { 0 = cond (passes s) s.headroom (of_bits binary32 0x0000_0000) } }
