-- A strip that is carried to the other version prints the same lines there, and has the same reply. Laws.
-- Assumes nothing.
use Rattle.std.specs.Prelude.{◌≡◌, ℕ, List}
use Rattle.std.proofs.Math.Path.{ap}
use Rattle.std.proofs.Common.{◌∙◌}
use borrow.Author.Tests.{eqb-true}
use Rattle.units.specs.Replies.{done}
use Rattle.strip_format.specs.Format.{in_version, Entry, strip_bytes}
use Rattle.strip_format.specs.Calls.{head_refusal}
use Rattle.strip_format.specs.Whole.{read_strip}
use Rattle.strip_format.specs.Laws.Fields.{Bytes}
use Rattle.strip_format.specs.Laws.Whole.{strip_rewrites}
use Rattle.strip_format.specs.declared.Version.{Version}
use Rattle.strip_format.specs.declared.Head.{Head}
use Rattle.strip_carry.specs.Carry.{other, says_head, judged, carried_bytes}
use Rattle.strip_carry.specs.Laws.Tally.{judged_read}
use Rattle.strip_carry.specs.Laws.Said.{own_version, entries_accepted, head_accepted, head_version, head_held, judged-exactly}
use Rattle.strip_carry.specs.Laws.Theorems.{accepted_in}
use Rattle.strip_run.specs.Lines.{lines, reply_of}
use Rattle.strip_run.specs.Laws.Versions.{Said, same_lines, same_reply}

module _ (v : Version) (strip : List ℕ) (b : Bytes strip) (d : (judged v strip).reply ≡ done) where
  whole : (read_strip v strip).reply ≡ done
  whole = judged_read v strip d

  h : Head
  h = (read_strip v strip).head.head

  es : List Entry
  es = (read_strip v strip).entries

  own : in_version v h ≡ h
  unfolding h
  own = own_version v h (head_version v strip whole)

  -- both versions say it
  in_own : Said v h es
  unfolding h es
  in_own = record { held = head_held v strip whole; head = ap head_refusal own ∙ head_accepted v strip whole; records = entries_accepted v strip }

  in_other : Said (other v) h es
  unfolding h es says_head
  in_other =
      let s = ((judged-exactly v strip).0 d).1 in
      record {
        held = head_held v strip whole;
        head = eqb-true (head_refusal (in_version (other v) h)) done s.head;
        records = accepted_in v (other v) es (entries_accepted v strip) s.records;
      }

  strip_is : strip_bytes (in_version v h) es ≡ strip
  unfolding h es
  strip_is = ap (λ (g : Head). strip_bytes g es) own ∙ strip_rewrites v strip b whole

  -- What a strip is carried to prints the same lines, whatever the capacity of the rings,
  pub carried_prints : (capacity : ℕ) → lines capacity (carried_bytes v strip) ≡ lines capacity strip
  unfolding carried_bytes h es
  carried_prints capacity = same_lines capacity (other v) v h es in_other in_own ∙ ap (lines capacity) strip_is

  -- and has the same reply.
  pub carried_replies : (capacity : ℕ) → reply_of capacity (carried_bytes v strip) ≡ reply_of capacity strip
  unfolding carried_bytes h es
  carried_replies capacity = same_reply capacity (other v) v h es in_other in_own ∙ ap (reply_of capacity) strip_is
