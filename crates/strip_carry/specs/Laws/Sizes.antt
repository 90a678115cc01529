-- How long a strip is, by how many figures and how many gaps are among its records. Laws.
-- Assumes nothing.
use Rattle.std.specs.Prelude.{◌≡◌, ℕ, suc, ◌+◌, ◌*◌, Bool, true, cond, List, [], ◌∷◌, length, refl}
use Rattle.std.proofs.Common.{sym, ap, ◌∙◌, arith, length-append}
use Rattle.lists.specs.Each.{Each, each_so}
use Rattle.units.specs.Replies.{done}
use Rattle.strip_format.specs.Fields.{size}
use Rattle.strip_format.specs.Format.{in_version, head_fields, Entry, figures, gap, entries_bytes, strip_bytes}
use Rattle.strip_format.specs.Whole.{read_strip}
use Rattle.strip_format.specs.Laws.Fields.{Bytes}
use Rattle.strip_format.specs.Laws.Heads.{head_length_lem}
use Rattle.strip_format.specs.Laws.Whole.{Accepted, entry_length, strip_rewrites}
use Rattle.strip_format.specs.declared.Head.{Head}
use Rattle.strip_format.specs.declared.Version.{Version}
use Rattle.strip_format.specs.declared.Version.TheVariants.{One, Two}
use Rattle.strip_carry.specs.Carry.{other, says_entry, judged, carried_bytes}
use Rattle.strip_carry.specs.Laws.Said.{figures_said, gap_said, own_said, entries_accepted, head_version, judged-exactly}

-- how many figures there are among records, and how many gaps
unfoldable pub figures_in : List Entry → ℕ
figures_in [] = 0
figures_in (figures f ∷ es) = suc (figures_in es)
figures_in (gap ∷ es) = figures_in es

unfoldable pub gaps_in : List Entry → ℕ
gaps_in [] = 0
gaps_in (figures f ∷ es) = gaps_in es
gaps_in (gap ∷ es) = suc (gaps_in es)

-- a record that is no gap
abbrev pub IsFigures : Entry → Type 0
IsFigures (figures f) = Unit {0}
IsFigures gap = ⊥

-- ---- records
-- Figures have 22 bytes, and a gap has 2.
pub entries_length : (es : List Entry) → length (entries_bytes es) ≡ 22 * figures_in es + 2 * gaps_in es
unfolding entries_bytes figures_in gaps_in
entries_length [] = refl
entries_length (figures f ∷ es) =
    let rest = entries_length es in
    rw (length-append, entry_length (figures f)) (omega arith)
entries_length (gap ∷ es) =
    let rest = entries_length es in
    rw (length-append, entry_length gap) (omega arith)

-- Where there is no gap all are figures.
pub no_gaps : (es : List Entry) → Each IsFigures es → (figures_in es ≡ length es) × (gaps_in es ≡ 0)
unfolding Each figures_in gaps_in
no_gaps [] all = (refl, refl)
no_gaps (figures f ∷ es) all = let rest = no_gaps es all.1 in (ap suc rest.0, rest.1)
no_gaps (gap ∷ es) all = absurd all.0

pub figures_length : (es : List Entry) → Each IsFigures es → length (entries_bytes es) ≡ 22 * length es
figures_length es all =
    let n = no_gaps es all in
    omega (arith, entries_length es)

-- Version 1 says figures only,
pub said_in_one : (e : Entry) → says_entry One e ≡ true → IsFigures e
said_in_one (figures f) s = tt
said_in_one gap s = absurd (omega (arith, ap {B = ℕ} (λ (b : Bool). cond b 1 0) (sym (gap_said One) ∙ s)))

-- and every version says them.
pub all_figures_said : (v w : Version) (es : List Entry) → Each (Accepted v) es → Each IsFigures es → Each (λ (e : Entry). says_entry w e ≡ true) es
unfolding Each
all_figures_said v w [] a all = tt
all_figures_said v w (figures f ∷ es) a all = (figures_said v w f a.0, all_figures_said v w es a.1 all.1)
all_figures_said v w (gap ∷ es) a all = absurd all.0

-- The records that are read of a strip in version 1 are figures.
pub figures_in_one : (strip : List ℕ) → Each IsFigures (read_strip One strip).entries
figures_in_one strip =
    each_so (Accepted One) IsFigures (λ (e : Entry) (a : Accepted One e). said_in_one e (own_said One e a)) (read_strip One strip).entries (entries_accepted One strip)

-- So are those of a strip that is carried back to it.
pub figures_carried_back : (strip : List ℕ) → (judged Two strip).reply ≡ done → Each IsFigures (read_strip Two strip).entries
figures_carried_back strip d =
    each_so (λ (e : Entry). says_entry One e ≡ true) IsFigures said_in_one (read_strip Two strip).entries ((judged-exactly Two strip).0 d).1.records

-- ---- strips
strip_length : (h : Head) (es : List Entry) → length (strip_bytes h es) ≡ size (head_fields h.version) + length (entries_bytes es)
unfolding strip_bytes
strip_length h es = rw (length-append, head_length_lem h)

-- A strip that is read whole is as long as its version's head and its records.
pub whole_length : (v : Version) (strip : List ℕ) → Bytes strip → (read_strip v strip).reply ≡ done
    → length strip ≡ size (head_fields v) + length (entries_bytes (read_strip v strip).entries)
whole_length v strip b e =
    let h = (read_strip v strip).head.head in
    let es = (read_strip v strip).entries in
    sym (ap length (strip_rewrites v strip b e)) ∙ strip_length h es
    ∙ ap (λ (w : Version). size (head_fields w) + length (entries_bytes es)) (head_version v strip e)

-- What it is carried to is as long as the other version's head and the same records.
pub carried_length : (v : Version) (strip : List ℕ)
    → length (carried_bytes v strip) ≡ size (head_fields (other v)) + length (entries_bytes (read_strip v strip).entries)
unfolding carried_bytes in_version
carried_length v strip = strip_length (in_version (other v) (read_strip v strip).head.head) (read_strip v strip).entries
