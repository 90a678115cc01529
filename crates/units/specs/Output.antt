-- Bytes that are put into a lent buffer: "8: output buffer too short", "and 8 last", and then "no .. output byte changes". Definitions only.
use Rattle.std.specs.Prelude.{cond, List, ◌++◌, ℕ, eqb, leb, length, drop}
use Rattle.units.specs.Replies.{done, no_room}

-- a reply's number, and the buffer
pub record Put : Type 0 where
  pub reply : ℕ
  pub out : List ℕ

-- bytes at the start of a buffer, where nothing else refuses them and they fit
unfoldable pub put : ℕ → List ℕ → List ℕ → Put
put refused bytes out =
    let reply = cond (eqb refused done) (cond (leb (length bytes) (length out)) done no_room) refused in
    record { reply = reply; out = cond (eqb reply done) (bytes ++ drop (length bytes) out) out }
