-- A metering of the samples of a recording. Definitions only.
use Rattle.std.specs.Prelude.{ℕ, ◌-◌, Bool, cond, not, ◌&&◌, List, nat_eq, nat_lt, Option, None}
use Rattle.units.specs.Replies.{done}
use Rattle.loudness.specs.Metering.{put_format, put_loudness}
use Rattle.recording_run.specs.Levelling.{extent_of, of_samples}
use Rattle.recording_run.specs.declared.levelling.Told.{Told}
use Rattle.recording_run.specs.declared.metering.Meter.{Meter}
use Rattle.recording_run.specs.declared.metering.Metered.{Metered}

-- the metering and how many bytes are written, and the buffer that has these
pub record Sounded : Type 0 where
  pub turn : Metered
  pub out : List ℕ

-- ---- the start: the twelve bytes of the format, and as many bytes to come as in a run
unfoldable pub started : ℕ → ℕ → ℕ → List ℕ → Sounded
started channels samples size out =
    let written = put_format channels samples size out in
    let well = nat_eq written.reply done in
    record {
      turn = record { meter = record { left = (extent_of size channels).left; more = well; well = well }; n = cond well 12 0 };
      out = written.out;
    }

-- ---- 10 ms are heard: there is no sound where no byte of a whole group came, or where a read failed, and then not all went well
abbrev pub meter_heard : Meter → ℕ → Bool → Meter
meter_heard meter n failed = record { left = meter.left; more = nat_lt 0 n && not failed; well = not failed }

-- ---- they are metered
unfoldable pub metered : Meter → ℕ → List ℕ → ℕ → ℕ → List ℕ → Sounded
metered meter n bytes channels samples out =
    let written = put_loudness bytes channels samples out in
    let well = nat_eq written.reply done in
    record {
      turn = record { meter = record { left = cond well (meter.left - n) meter.left; more = well; well = well }; n = cond well 12 0 };
      out = written.out;
    }

-- ---- their bytes are written, or could not be
abbrev pub meter_written : Meter → Bool → Meter
meter_written meter written = record { left = meter.left; more = meter.more && written; well = meter.well && written }

-- ---- the end: what is told of a metering that went well
unfoldable pub meter_at_end : Meter → ℕ → ℕ → ℕ → Option Told
meter_at_end meter size channels behind = cond meter.well (of_samples size channels meter.left behind None) None
