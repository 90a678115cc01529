-- What the answers of the code are of what `Run` and `Carry` speak of. Where nothing is refused the reply is done, and the record is 0. Definitions only.
use Rattle.std.specs.Prelude.{ℕ, List, Option, None, Some, Result, Ok, Err}
use Rattle.units.specs.Replies.{done}
use Rattle.units.specs.Handed.{number_of}
use Rattle.units.specs.declared.refusals.Refusal.{Refusal}
use Rattle.strip_reader.specs.Telling.{Ran, ran}
use Rattle.strip_carry.specs.Carry.{Carried}
use Rattle.strip_carry.specs.Run as Running
use Rattle.strip_carry.specs.declared.Refused.{Refused}
use Rattle.strip_carry.specs.declared.Tally.{Tally}
use Rattle.strip_carry.specs.declared.Run.{Run}
use Rattle.strip_carry.specs.declared.Taken.{Taken}
use Rattle.strip_carry.specs.declared.End.{End}
use Rattle.strip_carry.specs.declared.End.TheVariants as Ends

-- what the bytes of a block make of a run
abbrev pub bytes_ran : Run → List ℕ → Ran Tally
bytes_ran r block = ran Running.told r.reader r.tally block

-- where a block is refused the run that came in stays, and nothing is put out
abbrev pub taken_seen : Run → Result Taken Refusal → Running.Taken
taken_seen r (Ok t) = record { reply = done; run = t.run; length = t.length }
taken_seen r (Err e) = record { reply = number_of e; run = r; length = 0 }

-- a strip that is refused is carried to no bytes
abbrev pub carried_seen : Result ℕ Refused → Carried
carried_seen (Ok n) = record { reply = done; number = 0; length = n }
carried_seen (Err r) = record { reply = r.reply; number = r.number; length = 0 }

abbrev pub told_seen : Option (Result ℕ Refused) → Running.Told
told_seen None = Running.Told.Nothing
told_seen (Some (Ok n)) = Running.Size n
told_seen (Some (Err r)) = Running.Refused r.reply r.number

abbrev pub end_seen : Option End → Running.End
end_seen None = Running.End.Nothing
end_seen (Some Ends.Changed) = Running.Changed
end_seen (Some Ends.Well) = Running.Well
