-- A whole strip carried to the other version: what it is refused with, and its bytes. Definitions only.
use Rattle.std.specs.Prelude.{ℕ, suc, Bool, cond, List, [], ◌∷◌, length, ◌==◌}
use Rattle.units.specs.Replies.{done, unsaid}
use Rattle.units.specs.Output.{Put, put}
use Rattle.strip_format.specs.Format.{in_version, Entry, figures, gap, strip_bytes}
use Rattle.strip_format.specs.Calls.{head_refusal, record_refusal, gap_refusal}
use Rattle.strip_format.specs.Whole.{read_strip, refused_number}
use Rattle.strip_format.specs.declared.Head.{Head}
use Rattle.strip_format.specs.declared.Version.{Version}
use Rattle.strip_format.specs.declared.Version.TheVariants.{One, Two}

-- "A tool converts a strip to version 2, and one back to version 1"
abbrev pub other : Version → Version
other One = Two
other Two = One

-- ---- "9, cannot be said in version 1"
-- what a version's writer refuses a record with
abbrev pub entry_refusal : Version → Entry → ℕ
entry_refusal v (figures f) = record_refusal f
entry_refusal v gap = gap_refusal v

-- a version can say what its writer does not refuse. Of what was read in the other version, version 1 cannot say a threshold above 200 and a gap, and
-- version 2 can say all.
unfoldable pub says_head : Version → Head → Bool
unfolding head_refusal in_version
says_head v h = head_refusal (in_version v h) == done

unfoldable pub says_entry : Version → Entry → Bool
unfolding record_refusal
says_entry v e = entry_refusal v e == done

-- a reply's number, and the record that it is about: 0 for the head, and where nothing is refused
pub record Verdict : Type 0 where
  pub reply : ℕ
  pub number : ℕ

-- the records, of which the first has a number: the first that cannot be said is refused
unfoldable pub entries_said : Version → ℕ → List Entry → Verdict
unfolding says_entry
entries_said v number [] = record { reply = done; number = 0 }
entries_said v number (e ∷ es) = cond (says_entry v e) (entries_said v (suc number) es) (record { reply = unsaid; number = number })

-- a whole strip: the head comes first
unfoldable pub strip_said : Version → Head → List Entry → Verdict
unfolding says_head entries_said
strip_said v h es = cond (says_head v h) (entries_said v 1 es) (record { reply = unsaid; number = 0 })

-- "Refusals: 7 also for a strip that is not of the version the tool starts from; 9 .. after the strip's own refusals": a strip of version v
unfoldable pub judged : Version → List ℕ → Verdict
unfolding read_strip refused_number strip_said
judged v strip =
    let s = read_strip v strip in
    cond (s.reply == done) (strip_said (other v) s.head.head s.entries) (record { reply = s.reply; number = refused_number s })

-- ---- what it is carried to: the same head and records, in the other version
unfoldable pub carried_bytes : Version → List ℕ → List ℕ
unfolding read_strip strip_bytes in_version
carried_bytes v strip = let s = read_strip v strip in strip_bytes (in_version (other v) s.head.head) s.entries

-- "and before 8": put to the start of a buffer
unfoldable pub carried_to : Version → List ℕ → List ℕ → Put
unfolding judged carried_bytes put
carried_to v strip out = put (judged v strip).reply (carried_bytes v strip) out

-- ---- what a call answers
-- a reply's number, the record that it is about, which is 0 for the head and where nothing is refused, and how many bytes the carried strip has: 0 where it is
-- refused
pub record Carried : Type 0 where
  pub reply : ℕ
  pub number : ℕ
  pub length : ℕ

unfoldable pub carried : Version → List ℕ → List ℕ → Carried
unfolding carried_to judged carried_bytes
carried v strip out =
    let reply = (carried_to v strip out).reply in
    record { reply = reply; number = (judged v strip).number; length = cond (reply == done) (length (carried_bytes v strip)) 0 }

unfoldable pub carried_out : Version → List ℕ → List ℕ → List ℕ
unfolding carried_to
carried_out v strip out = (carried_to v strip out).out
