-- What the program says when it ends. Definitions only.
use Rattle.std.specs.Prelude.{ℕ, Bool, true, false, cond, not, ◌&&◌, nat_lt, Option, Some, None}
use Rattle.recording_run.specs.declared.levelling.Told.{Told}
use Rattle.recording_run.specs.declared.levelling.Run.{Run}
use Rattle.recording_run.specs.declared.metering.Meter.{Meter}

-- whether anything is said, and the number: 0 where all went well, otherwise the reply of a refusal
pub record Answer : Type 0 where
  pub tell : Bool
  pub reply : ℕ

-- what is said
abbrev pub said : Answer → Option ℕ
said a = cond a.tell (Some a.reply) None

-- whether nothing is told
abbrev pub is_nothing : Option Told → Bool
is_nothing None = true
is_nothing (Some told) = false

-- the frames went well, nothing is told at the end, no read failed there, and all is written
abbrev pub all_well : Bool → Option Told → Bool → Bool → Bool
all_well well told failed written = well && is_nothing told && not failed && written

-- the reply of a refusal, which is not 0
abbrev pub refusal_answer : ℕ → Answer
refusal_answer reply = record { tell = nat_lt 0 reply; reply = reply }

-- the reply of a refusal, or 0 where all went well, or nothing
unfoldable pub run_answer : Run → Option Told → Bool → Bool → Answer
run_answer run told failed written =
    cond (nat_lt 0 run.refused) (refusal_answer run.refused) (record { tell = all_well run.well told failed written; reply = 0 })

-- of a metering: 0 where all went well, or nothing
unfoldable pub meter_answer : Meter → Option Told → Bool → Bool → Answer
meter_answer meter told failed written = record { tell = all_well meter.well told failed written; reply = 0 }
