-- A strip that is read block by block. Definitions only.
use Rattle.std.specs.Prelude.{ℕ, ◌+◌, Bool, false, cond, List, take, drop, nat_lt}
use Rattle.strip_reader.specs.Reader.{Handed, more, handed, is_more, fresh, finished, next}
use Rattle.recording_run.specs.declared.strip.Source.{Source}
use Rattle.recording_run.specs.declared.strip.Drawn.{Drawn}

-- no byte is read
unfoldable pub new_source : Source
new_source = record { reader = fresh; at = 0; n = 0 }

-- what came out, the source that goes on, and whether a block is to be read before anything comes out
pub record Drawing : Type 0 where
  pub source : Source
  pub got : Handed
  pub more : Bool

unfoldable pub drawn_of : Drawn → Drawing
drawn_of d = record { source = d.source; got = handed d.got; more = d.more }

-- the bytes of the block that are filled and not used, until something comes out of them
unfoldable pub drawn_from : Source → List ℕ → Drawing
drawn_from source block =
    let t = next source.reader (drop source.at (take source.n block)) in
    record {
      source = record { reader = t.reader; at = source.at + t.used; n = source.n };
      got = t.got;
      more = is_more t.got;
    }

-- a block of which so many bytes came: none at the strip's end, and nothing comes out where the read failed
unfoldable pub refilled : Source → List ℕ → ℕ → Bool → Drawing
refilled source block came failed =
    cond failed (record { source = source; got = more; more = false })
    (cond (nat_lt 0 came)
    (drawn_from (record { reader = source.reader; at = 0; n = came }) block)
    (record { source = source; got = finished source.reader; more = false }))
