-- The strip behind the last frame. Definitions only.
use Rattle.std.specs.Prelude.{Bool, true, false}
use Rattle.chain.specs.Calls.{gap}
use Rattle.strip_reader.specs.declared.Got.{Got}
use Rattle.strip_reader.specs.declared.Got.TheVariants as Came
use Rattle.recording_run.specs.Levelling.{after_gap}
use Rattle.recording_run.specs.declared.levelling.Run.{Run}
use Rattle.recording_run.specs.declared.rest.Rest.{Rest}

-- no gap came, so no more is drawn: whether the strip goes on, and whether a read failed
abbrev pub no_gap : Run → Bool → Bool → Rest
no_gap run goes failed = record { run = run; goes = goes; again = false; failed = failed }

-- a gap is taken, and more is drawn; with a record, or what is refused as one, the strip goes on; nothing came out where a read failed
unfoldable pub rested : Got → Run → Rest
rested Came.More run = no_gap run false true
rested (Came.Head head) run = no_gap run true false
rested (Came.Record figures) run = no_gap run true false
rested Came.Gap run = record { run = after_gap run (gap run.chain).chain; goes = false; again = true; failed = false }
rested Came.End run = no_gap run false false
rested (Came.Refused reply) run = no_gap run true false
