-- Whole strips of any version: what is written reads back equal, and what reads rewrites to the same bytes. Laws.
-- Assumes nothing.
use Rattle.std.specs.Prelude.{◌≡◌, refl, Bool, true, false, cond, List, [], ◌∷◌, ◌++◌, ℕ, zero, suc, ◌+◌, ◌-◌, ◌≤◌, eqb, leb, ltb, length, take, drop}
use Rattle.std.proofs.Common.{ap, subst, ◌∙◌, arith, ltb-false, eqb-true, length-append, length-drop, take-append-drop}
use Rattle.std.proofs.lemmas.Bool.{eqb-false}
use Rattle.std.proofs.Math.Seq.{drop_at}
use Rattle.lists.specs.Each.{Each, each_drop}
use Rattle.units.specs.Replies.{done, cut, bad_length}
use Rattle.units.specs.declared.figures.Figures.{Figures}
use Rattle.strip_format.specs.Fields.{size, number_at, fields_at}
use Rattle.strip_format.specs.Format.{has_gaps, version_of, head_fields, head_bytes, record_fields, record_length, figures_of, Entry, figures, gap, entry_size, entry_bytes, entries_bytes, strip_bytes}
use Rattle.strip_format.specs.Calls.{head_refusal, read_head, record_refusal, refused_record, ended, found, judged_record, is_gap, read_record}
use Rattle.strip_format.specs.Whole.{joined, behind, entries_in, entries_of, Strip, read_strip}
use Rattle.strip_format.specs.Laws.Fields.{Bytes}
use Rattle.strip_format.specs.Laws.Heads as Heads
use Rattle.strip_format.specs.Laws.Records as Records
use Rattle.strip_format.specs.Laws.Gaps.{gap_had, gap_rewrites, gap_length_lem, written_gap_reads}
use Rattle.strip_format.specs.Laws.Prefix.{entry_fits}
use Rattle.strip_format.specs.declared.Version.{Version}
use Rattle.strip_format.specs.declared.Head.{Head}

-- a record that the version can say: figures that are f32 and not refused, or a gap where it has them
pub Accepted : Version → Entry → Type 0
Accepted v (figures f) = Records.Held f × (record_refusal f ≡ done)
Accepted v gap = has_gaps v ≡ true

-- ---- written, then read
-- A record has as many bytes as its description says.
pub entry_length : (e : Entry) → length (entry_bytes e) ≡ entry_size e
unfolding entry_bytes
entry_length (figures f) = Records.record_length_lem f
entry_length gap = gap_length_lem

-- What is written reads back equal, whatever follows.
pub written_entry_reads : (v : Version) (e : Entry) (rest : List ℕ) → Accepted v e → read_record v (entry_bytes e ++ rest) 0 ≡ found e
unfolding Accepted entry_bytes
written_entry_reads v (figures f) rest a = Records.written_record_reads v f [] rest a.0 a.1
written_entry_reads v gap rest a = written_gap_reads v [] rest a

-- There are no more records than bytes of them.
pub as_many : (es : List Entry) → length es ≤ length (entries_bytes es)
unfolding entries_bytes
as_many [] = omega arith
as_many (e ∷ es) =
    let rest = as_many es in
    let this : 2 ≤ entry_size e = two e in
    rw (length-append, entry_length e) (omega arith)
  where
    two : (d : Entry) → 2 ≤ entry_size d
    two (figures f) = omega arith
    two gap = omega arith

-- The records that were written are read, one after the other.
pub entries_back : (v : Version) (most : ℕ) (es : List Entry) → Each (Accepted v) es → length es ≤ most → entries_in most v (entries_bytes es) ≡ record { entries = es; reply = done }
unfolding Each entries_bytes entries_in joined behind found ended
entries_back v zero [] a l = refl
entries_back v (suc most) [] a l = refl
entries_back v zero (e ∷ es) a l = absurd (omega arith)
entries_back v (suc most) (e ∷ es) a l =
    rw (
      written_entry_reads v e (entries_bytes es) a.0,
      drop_at (entry_bytes e) (entries_bytes es) (entry_size e) (entry_length e),
      entries_back v most es a.1 (omega arith),
    )

module _ (h : Head) (es : List Entry) (p : Heads.Held h) (r : head_refusal h ≡ done) (a : Each (Accepted h.version) es) where
  -- What is written of a whole strip reads back equal,
  pub strip_back : read_strip h.version (strip_bytes h es) ≡ record { head = record { reply = done; head = h }; entries = es; reply = done }
  unfolding read_strip strip_bytes entries_of
  strip_back =
      rw (
        Heads.written_head_reads h p (entries_bytes es) r,
        drop_at (head_bytes h) (entries_bytes es) (size (head_fields h.version)) (Heads.head_length_lem h),
        entries_back h.version (length (entries_bytes es)) es a (as_many es),
      )

  -- in the version that it says.
  pub strip_says : version_of (strip_bytes h es) ≡ h.version
  unfolding strip_bytes
  strip_says = Heads.written_says h (entries_bytes es) p r

-- ---- read, then written
-- What stands at the start of bytes: a record; nothing, where there is no byte; or what is refused.
pub record Here (v : Version) (bytes : List ℕ) : Type 0 where
  pub entry : Entry
  pub is : read_record v bytes 0 ≡ found entry

pub record Over (v : Version) (bytes : List ℕ) : Type 0 where
  pub none : length bytes ≡ 0
  pub is : read_record v bytes 0 ≡ ended

pub record Refused (v : Version) (bytes : List ℕ) : Type 0 where
  pub reply : ℕ
  pub bad : reply ≡ done → ⊥
  pub is : read_record v bytes 0 ≡ refused_record reply

pub data Seen (v : Version) (bytes : List ℕ) : Type 0 where
  here : Here v bytes → Seen v bytes
  over : Over v bytes → Seen v bytes
  refused : Refused v bytes → Seen v bytes

pub seen : (v : Version) (bytes : List ℕ) → Seen v bytes
unfolding read_record judged_record
seen v bytes =
    go (ltb 0 (length bytes)) refl (leb (0 + 2) (length bytes)) refl (is_gap v (number_at bytes 0 2)) refl (eqb (number_at bytes 0 2) record_length) refl
    (leb (0 + size record_fields) (length bytes)) refl (eqb (record_refusal (figures_of (fields_at record_fields bytes 0))) done) refl
  where
    f : Figures
    f = figures_of (fields_at record_fields bytes 0)

    go : (a : Bool) → ltb 0 (length bytes) ≡ a → (b : Bool) → leb (0 + 2) (length bytes) ≡ b → (g : Bool) → is_gap v (number_at bytes 0 2) ≡ g
        → (c : Bool) → eqb (number_at bytes 0 2) record_length ≡ c → (d : Bool) → leb (0 + size record_fields) (length bytes) ≡ d
        → (t : Bool) → eqb (record_refusal (figures_of (fields_at record_fields bytes 0))) done ≡ t → Seen v bytes
    go false o b p g q c r d s t u = over (record { none = omega (arith, ltb-false 0 (length bytes) o); is = rw o })
    go true o false p g q c r d s t u = refused (record { reply = cut; bad = λ e. omega arith; is = rw (o, p) })
    go true o true p true q c r d s t u = here (record { entry = gap; is = rw (o, p, q) })
    go true o true p false q false r d s t u = refused (record { reply = bad_length; bad = λ e. omega arith; is = rw (o, p, q, r) })
    go true o true p false q true r false s t u = refused (record { reply = cut; bad = λ e. omega arith; is = rw (o, p, q, r, s) })
    go true o true p false q true r true s true u = here (record { entry = figures (figures_of (fields_at record_fields bytes 0)); is = rw (o, p, q, r, s, u) })
    go true o true p false q true r true s false u =
        refused (record {
          reply = record_refusal (figures_of (fields_at record_fields bytes 0));
          bad = eqb-false (record_refusal (figures_of (fields_at record_fields bytes 0))) done u;
          is = rw (o, p, q, r, s, u);
        })

-- A record that was read can be said, and rewrites to its bytes.
pub read_accepted : (v : Version) (bytes : List ℕ) (e : Entry) → read_record v bytes 0 ≡ found e → Accepted v e
unfolding Accepted
read_accepted v bytes (figures f) h = (subst Records.Held (Records.figures_are v bytes 0 f h) (Records.held_figures (fields_at record_fields bytes 0)), Records.read_not_refused v bytes 0 f h)
read_accepted v bytes gap h = gap_had v bytes 0 h

pub read_entry_rewrites : (v : Version) (bytes : List ℕ) (e : Entry) → Bytes bytes → read_record v bytes 0 ≡ found e → entry_bytes e ≡ take (entry_size e) bytes
unfolding entry_bytes
read_entry_rewrites v bytes (figures f) b h = Records.read_record_rewrites v bytes 0 f b h
read_entry_rewrites v bytes gap b h = gap_rewrites v bytes 0 h b

-- no byte is nothing
nothing : (bytes : List ℕ) → length bytes ≡ 0 → [] ≡ bytes
nothing [] e = refl
nothing (b ∷ bs) e = absurd (omega arith)

-- Records that were all read rewrite to the same bytes.
pub entries_rewrite : (v : Version) (most : ℕ) (bytes : List ℕ) → Bytes bytes → length bytes ≤ most → (entries_in most v bytes).reply ≡ done
    → entries_bytes (entries_in most v bytes).entries ≡ bytes
unfolding entries_in joined behind found ended refused_record entries_bytes
entries_rewrite v zero bytes b l e = nothing bytes (omega arith)
entries_rewrite v (suc most) bytes b l e = go (entries_rewrite v most) (seen v bytes)
  where
    fewer : (d : Entry) → entry_size d ≤ length bytes → length bytes - entry_size d ≤ most
    fewer (figures f) k = omega arith
    fewer gap k = omega arith

    go : ((rest : List ℕ) → Bytes rest → length rest ≤ most → (entries_in most v rest).reply ≡ done → entries_bytes (entries_in most v rest).entries ≡ rest)
        → Seen v bytes → entries_bytes (entries_in (suc most) v bytes).entries ≡ bytes
    go again (here h) =
        let d = h.entry in
        let rest : length (drop (entry_size d) bytes) ≤ most = rw length-drop (fewer d (entry_fits v bytes d h.is)) in
        let more : (entries_in most v (drop (entry_size d) bytes)).reply ≡ done = rw h.is at e in
        rw (h.is, read_entry_rewrites v bytes d b h.is, again (drop (entry_size d) bytes) (each_drop _ (entry_size d) bytes b) rest more)
        (take-append-drop (entry_size d) bytes)
    go again (over o) = rw o.is (nothing bytes o.none)
    go again (refused r) = absurd (r.bad (rw r.is at e))

-- what reading gives, by whether the head is taken
abbrev pub read_by : Version → List ℕ → Bool → Strip
read_by v strip t =
    cond t
    (record {
      head = read_head v strip;
      entries = (entries_of v (drop (size (head_fields v)) strip)).entries;
      reply = (entries_of v (drop (size (head_fields v)) strip)).reply;
    })
    (record { head = read_head v strip; entries = []; reply = (read_head v strip).reply })

rewritten : (v : Version) (strip : List ℕ) → Bytes strip → (t : Bool) → eqb (read_head v strip).reply done ≡ t → (read_by v strip t).reply ≡ done
    → strip_bytes (read_by v strip t).head.head (read_by v strip t).entries ≡ strip
unfolding strip_bytes entries_of
rewritten v strip b true t e =
    let rest = drop (size (head_fields v)) strip in
    ap (λ (l : List ℕ). l ++ entries_bytes (entries_in (length rest) v rest).entries) (Heads.read_head_rewrites v strip b (eqb-true (read_head v strip).reply done t))
    ∙ ap (λ (l : List ℕ). take (size (head_fields v)) strip ++ l) (entries_rewrite v (length rest) rest (each_drop _ (size (head_fields v)) strip b) (omega arith) e)
    ∙ take-append-drop (size (head_fields v)) strip
rewritten v strip b false t e = absurd (eqb-false (read_head v strip).reply done t e)

-- A strip that was read whole rewrites to the same bytes.
pub strip_rewrites : (v : Version) (strip : List ℕ) → Bytes strip → (read_strip v strip).reply ≡ done
    → strip_bytes (read_strip v strip).head.head (read_strip v strip).entries ≡ strip
unfolding read_strip
strip_rewrites v strip b e = rewritten v strip b (eqb (read_head v strip).reply done) refl e
